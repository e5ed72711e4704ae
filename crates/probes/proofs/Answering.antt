-- The two answers of `pattern_lines`.
use mathlib.Core.Bool.{Bool, true, false, not}
use mathlib.Core.List.{List}
use mathlib.Core.Path.{◌≡◌, sym, ap, ◌∙◌}
use Prim.Native.Nat.{ℕ, ◌%◌}
use lib.Dec.{eqb}
use borrow.Author.Tests.{not-true, not-false}
use Rattle.octets.specs.Lists.{pick}
use Rattle.basic.specs.Inner.Judged.{is_pattern}
use Rattle.probes.specs.Inner.Lines.{matched, LinesTo}

module _ (p : List ℕ) (fold : ℕ) (block : List ℕ) (u : Bool) (e : u ≡ is_pattern p) where
  pub refused : not u ≡ true → LinesTo p fold block 5 0
  refused n =
      let no = sym e ∙ not-true u n in
      record {
        number_is = sym (ap (λ (t : Bool). pick t 0 5) no);
        met_is = sym (ap (λ (t : Bool). pick t (matched (not (eqb fold 0)) p block % 4294967296) 0) no);
      }

  pub answered : not u ≡ false → (n : ℕ) → n ≡ matched (not (eqb fold 0)) p block → LinesTo p fold block 0 (n % 4294967296)
  answered y n en =
      let yes = sym e ∙ not-false u y in
      record {
        number_is = sym (ap (λ (t : Bool). pick t 0 5) yes);
        met_is =
            ap (λ (k : ℕ). k % 4294967296) en ∙ sym (ap (λ (t : Bool). pick t (matched (not (eqb fold 0)) p block % 4294967296) 0) yes);
      }

-- The loop over the values of a field, and the two ways to its values.
use mathlib.Core.Bool.{Bool, true, false, ◌||◌, or-false}
use Rattle.std.specs.Prelude.{Option, Some, None}
use mathlib.Core.Path.{◌≡◌, refl, sym, ap, ◌∙◌}
use mathlib.Core.List.{List}
use Prim.Native.Nat.{ℕ, ◌+◌, ◌-◌, ◌≤◌}
use native.Mathlib.Omega.{arith}
use lib.ListN.{length, take}
use Rattle.octets.specs.Lists.{some_of, total}
use Rattle.octets.proofs.Kept.{total_const}
use Rattle.pattern.specs.Inner.Answers.{meets_text}
use Rattle.cuts.specs.Inner.Parts.{over}
use Rattle.contents.specs.Inner.Places.{values_from}
use Rattle.contents.specs.Inner.Walks.{CutAt, NextCut}
use Rattle.contents.specs.Values.{reduced, never_cut, values_of}
use Rattle.contents.specs.declared.CutValue.{CutValue}
use Rattle.contents.proofs.Laws.{reduced_front}
use Rattle.contents.proofs.Values.{values_cut, values_whole}
use Rattle.contents.proofs.Walks.{cut_here, cut_none}
use Rattle.trials.specs.Inner.Trying.{values_row}
use Rattle.trials.specs.declared.Verdict.{Verdict}
use Rattle.trials.proofs.Sweep.{Swept, swept_first, swept_next, swept_end}

-- ---- the loop

abbrev one : List ℕ → ℕ
one v = 1

-- a trial for each value
abbrev swept_values : List ℕ → List (List ℕ) → Verdict
swept_values c vs = record { fits = some_of (meets_text false c) vs; trials = total one vs }

values_swept : (c : List ℕ) (vs : List (List ℕ)) → swept_values c vs ≡ values_row c vs
unfolding values_row
values_swept c vs = let e : total one vs ≡ length vs = omega (arith, total_const 1 vs) in
    ap (λ (n : ℕ). record { fits = some_of (meets_text false c) vs; trials = n }) e

-- the values before p are tried
pub record Trying (c v : List ℕ) (p : ℕ) (fits : Bool) (trials : ℕ) : Type 0 where
  pub sweep : Swept (meets_text false c) one (values_from v p) fits trials (swept_values c (values_from v 0))
  pub inside : p ≤ length v + 1
  pub few : trials ≤ p

module _ (c v : List ℕ) where
  pub trying_first : Trying c v 0 false 0
  trying_first = record { sweep = swept_first (meets_text false c) one (values_from v 0); inside = omega arith; few = omega arith }

  module _ (p : ℕ) (x : Option CutValue) (says : NextCut v p x) (fits : Bool) (trials : ℕ) (w : Trying c v p fits trials) where
    pub trying_next : (r : CutValue) → x ≡ Some r → (m : Bool) → m ≡ meets_text false c r.bytes.now → Trying c v r.next (fits || m) (trials + 1)
    trying_next r e m em =
        let here : CutAt v p r = cut_here v p x says r e in
        record {
          sweep =
              swept_next (meets_text false c) one (values_from v p) fits trials (swept_values c (values_from v 0)) w.sweep
              r.bytes.now (values_from v r.next) m 1 here.list em refl;
          inside = here.next_inside;
          few = omega (arith, w.few, here.on);
        }

    pub trying_end : x ≡ None → ◌≡◌ {A = Verdict} (record { fits = fits; trials = trials }) (values_row c (values_from v 0))
    trying_end e =
        swept_end (meets_text false c) one (values_from v p) fits trials (swept_values c (values_from v 0)) w.sweep (cut_none v p x says e)
        ∙ values_swept c (values_from v 0)

  pub trying_few : (p : ℕ) (fits : Bool) (trials : ℕ) → Trying c v p fits trials → length v ≤ 65535 → trials ≤ 65536
  trying_few p fits trials w h = omega (arith, w.few, w.inside)

-- ---- the values of a field, from its raw value reduced into the room

module _ (raw before room : List ℕ) (n : ℕ) (en : n ≡ length (reduced raw)) (er : room ≡ over (reduced raw) before) where
  front : take (n - 0) room ≡ reduced raw
  front = reduced_front raw before room n en er

  module _ (name c : List ℕ) (r : Bool) (e : r ≡ never_cut name) where
    pub values_once : (m : Bool) → m ≡ meets_text false c (take (n - 0) room) → r ≡ true
        → ◌≡◌ {A = Verdict} (record { fits = m; trials = 1 }) (values_row c (values_of name (reduced raw)))
    unfolding values_row
    values_once m em h =
        ap (λ (b : Bool). record { fits = b; trials = 1 }) (em ∙ ap (meets_text false c) front ∙ sym (or-false (meets_text false c (reduced raw))))
        ∙ sym (ap (values_row c) (values_whole name (reduced raw) (sym e ∙ h)))

    pub values_pieces : (v : Verdict) → v ≡ values_row c (values_from (take (n - 0) room) 0) → r ≡ false
        → v ≡ values_row c (values_of name (reduced raw))
    values_pieces v ev h =
        ev ∙ ap (λ (l : List ℕ). values_row c (values_from l 0)) front ∙ sym (ap (values_row c) (values_cut name (reduced raw) (sym e ∙ h)))

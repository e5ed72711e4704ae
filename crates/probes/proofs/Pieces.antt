-- The values of one field: the loop over the pieces, and the two ways to their number.
use mathlib.Core.Bool.{Bool, true, false}
use Rattle.std.specs.Prelude.{Option, Some, None}
use mathlib.Core.Path.{◌≡◌, sym, ap, ◌∙◌}
use mathlib.Core.List.{List}
use Prim.Native.Nat.{ℕ, ◌+◌, ◌-◌, ◌≤◌, ◌<◌}
use native.Mathlib.Omega.{arith}
use lib.ListN.{length, take}
use Rattle.cuts.specs.Inner.Parts.{over}
use Rattle.contents.specs.Inner.Places.{values_from}
use Rattle.contents.specs.Inner.Walks.{CutAt, NextCut}
use Rattle.contents.specs.Values.{reduced, never_cut, values_of}
use Rattle.contents.specs.declared.CutValue.{CutValue}
use Rattle.contents.proofs.Laws.{reduced_front}
use Rattle.contents.proofs.Values.{values_cut, values_whole}
use Rattle.contents.proofs.Walks.{cut_here, cut_none}

-- the values before p are counted
pub record Piecing (v : List ℕ) (p n : ℕ) : Type 0 where
  pub sum : n + length (values_from v p) ≡ length (values_from v 0)
  pub inside : p ≤ length v + 1
  pub few : n ≤ p

module _ (v : List ℕ) where
  pub piecing_first : Piecing v 0 0
  piecing_first = record { sum = omega arith; inside = omega arith; few = omega arith }

  module _ (p n : ℕ) (w : Piecing v p n) (x : Option CutValue) (says : NextCut v p x) where
    pub piecing_next : (r : CutValue) → x ≡ Some r → Piecing v r.next (n + 1)
    piecing_next r e =
        let here : CutAt v p r = cut_here v p x says r e in
        record {
          sum = omega (arith, w.sum, ap length here.list);
          inside = here.next_inside;
          few = omega (arith, w.few, here.on);
        }

    pub piecing_room : length v ≤ 65535 → n + 1 < 4294967296
    piecing_room short = omega (arith, w.few, w.inside)

    pub piecing_end : x ≡ None → n ≡ length (values_from v 0)
    piecing_end e = omega (arith, w.sum, ap length (cut_none v p x says e))

-- ---- by the name as it is matched

module _ (name : List ℕ) (r : Bool) (e : r ≡ never_cut name) where
  pub one_value : (raw : List ℕ) → r ≡ true → 1 ≡ length (values_of name (reduced raw))
  one_value raw h = sym (ap length (values_whole name (reduced raw) (sym e ∙ h)))

  pub pieces_counted : r ≡ false → (raw before room : List ℕ) (n : ℕ) → n ≡ length (reduced raw) → room ≡ over (reduced raw) before
      → (m : ℕ) → m ≡ length (values_from (take (n - 0) room) 0) → m ≡ length (values_of name (reduced raw))
  pieces_counted h raw before room n en er m em =
      em ∙ ap (λ (l : List ℕ). length (values_from l 0)) (reduced_front raw before room n en er)
      ∙ sym (ap length (values_cut name (reduced raw) (sym e ∙ h)))

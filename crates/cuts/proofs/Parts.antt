-- Parts and fronts of a list.
use mathlib.Core.Bool.{Bool, true, false}
use mathlib.Core.Path.{◌≡◌, refl, sym, ap, ◌∙◌}
use mathlib.Core.List.{List, [], ◌∷◌}
use Prim.Native.Nat.{ℕ, zero, suc, ◌-◌, ◌≤◌}
use native.Mathlib.Nat.{suc-sub-suc, sub-zero, zero-sub, le_of_eq, le_trans, min-le_right}
use native.Mathlib.Omega.{arith}
use lib.ListN.{length, take, drop, length-drop, length-take}
use lib.Seq.{take-take, take-nil, length-take-le}
use Rattle.octets.specs.Lists.{pick}
use Rattle.cuts.specs.Inner.Parts.{part}

pub drop_take : (a n : ℕ) (s : List ℕ) → drop a (take n s) ≡ take (n - a) (drop a s)
drop_take zero n s = ap (λ (k : ℕ). take k s) (sym (sub-zero n))
drop_take (suc a) zero s = ap (λ (k : ℕ). take k (drop (suc a) s)) (sym (zero-sub (suc a)))
drop_take (suc a) (suc n) [] = sym (take-nil (suc n - suc a))
drop_take (suc a) (suc n) (b ∷ s) = drop_take a n s ∙ ap (λ (k : ℕ). take k (drop a s)) (sym (suc-sub-suc n a))

-- a part of a front
pub part_front : (n a e : ℕ) (s : List ℕ) → e ≤ n → part (take n s) a e ≡ part s a e
part_front n a e s h = ap (take (e - a)) (drop_take a n s) ∙ take-take (e - a) (n - a) (drop a s) (omega arith)

pub length_part : (s : List ℕ) (a e : ℕ) → a ≤ e → e ≤ length s → length (part s a e) ≡ e - a
length_part s a e h l = length-take-le (e - a) (drop a s) (omega (arith, length-drop a s))

-- ---- fronts

-- one byte more in front, or nothing
pub front_by : (b : ℕ) (s later : List ℕ) (t : Bool) → later ≡ take (length later) s → pick t [] (b ∷ later) ≡ take (length (pick t [] (b ∷ later))) (b ∷ s)
front_by b s later true h = refl
front_by b s later false h = ap (λ (l : List ℕ). b ∷ l) h

pub front_le : (l s : List ℕ) → l ≡ take (length l) s → length l ≤ length s
front_le l s e = le_trans (le_of_eq (ap length e)) (le_trans (le_of_eq (length-take (length l) s)) (min-le_right (length l) (length s)))

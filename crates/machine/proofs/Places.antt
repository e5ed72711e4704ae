-- What is left of a text at a place.
use mathlib.Core.Path.{◌≡◌, refl, sym, ap, ◌∙◌}
use mathlib.Core.Bool.{Bool, true, false}
use mathlib.Core.List.{List, ◌∷◌}
use Prim.Native.Nat.{ℕ, ◌+◌, ◌<◌, ◌≤◌}
use native.Mathlib.Omega.{arith}
use native.Mathlib.Numerals.{add-one}
use lib.Dec.{eqb, ltb}
use lib.ListN.{length, get_or, drop, drop_of_length-le}
use lib.Seq.{drop-cons}
use borrow.Author.Tests.{ltb-true, ltb-false, eq-eqb, ne_eqb}
use Rattle.octets.specs.Lists.{empty}

pub drop_at : (s : List ℕ) (i : ℕ) → i < length s → drop i s ≡ get_or s i 0 ∷ drop (i + 1) s
drop_at s i h = drop-cons s i 0 h ∙ ap (λ (n : ℕ). get_or s i 0 ∷ drop n s) (sym (add-one i))

-- nothing is left exactly at the end
pub empty_at : (s : List ℕ) (i : ℕ) → i ≤ length s → empty (drop i s) ≡ eqb i (length s)
empty_at s i h = go (ltb i (length s)) refl
  where
    go : (t : Bool) → ltb i (length s) ≡ t → empty (drop i s) ≡ eqb i (length s)
    go true e =
        let q : i < length s = ltb-true i (length s) e in
        rw (drop-cons s i 0 q) (sym (ne_eqb i (length s) (λ z. omega arith)))
    go false e =
        let q : length s ≤ i = ltb-false i (length s) e in
        rw (drop_of_length-le s q) (sym (eq-eqb i (length s) (omega arith)))

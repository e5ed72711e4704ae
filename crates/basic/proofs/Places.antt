-- Reading by place: the byte that stands at a place of the pattern, or none.
use mathlib.Core.Path.{◌≡◌, refl, sym, ap}
use mathlib.Core.Bool.{Bool, true, false}
use mathlib.Core.List.{List}
use Prim.Native.Nat.{ℕ, ◌<◌, ◌≤◌}
use lib.Dec.{ltb}
use lib.ListN.{length, get_or, drop, drop_of_length-le}
use lib.Seq.{drop-cons}
use borrow.Author.Tests.{ltb-true, ltb-false}
use Rattle.octets.specs.Lists.{peek}

pub peek_in : (s : List ℕ) (i : ℕ) → i < length s → get_or s i 0 ≡ peek (drop i s)
peek_in s i h = sym (ap peek (drop-cons s i 0 h))

pub peek_past : (s : List ℕ) (i : ℕ) → length s ≤ i → 256 ≡ peek (drop i s)
peek_past s i h = sym (ap peek (drop_of_length-le s h))

-- a byte stands there
pub peek_inside : (s : List ℕ) (i : ℕ) → (peek (drop i s) ≡ 256 → ⊥) → i < length s
peek_inside s i n = go (ltb i (length s)) refl
  where
    go : (t : Bool) → ltb i (length s) ≡ t → i < length s
    go true e = ltb-true i (length s) e
    go false e = absurd (n (sym (peek_past s i (ltb-false i (length s) e))))

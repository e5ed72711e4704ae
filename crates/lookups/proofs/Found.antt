-- A string as a part of the image: where it stands and how long it is.
use mathlib.Core.Bool.{true}
use mathlib.Core.Option.{some}
use mathlib.Core.Path.{◌≡◌, sym, ap, ap₂, ◌∙◌}
use Prim.Native.Nat.{ℕ, ◌+◌, ◌-◌, ◌≤◌, ◌<◌}
use native.Mathlib.Nat.{add-sub_cancel_left}
use native.Mathlib.Omega.{arith}
use mathlib.Core.List.{List}
use lib.ListN.{length, take, drop, get_or, length-map, length-take, length-drop, get_or-eq_default}
use Rattle.profile.specs.Image.{Stored}
use Rattle.cells.specs.Inner.Places.{word, text_at}
use Rattle.profile.specs.Inner.Decoded.{stored, stored_in, strings, nothing, string_of}
use Rattle.profile.specs.Inner.Kept.{Standing}
use Rattle.profile.specs.declared.Layout.{Layout}
use Rattle.profile.proofs.Standings.{string_table, strings_in}
use Rattle.lookups.specs.Lookups.{the_part, part_of}
use Rattle.cells.specs.Inner.Answers.{Table}
use Rattle.lookups.specs.declared.Lookup.{Lookup}
use Rattle.profile.proofs.Found.{string_at, part_in}
use Rattle.cells.proofs.Uses.{taken}

-- where string i stands, and that it is there
abbrev at_part : ℕ → ℕ → Lookup
at_part start len = record { refusal = 0; place = 0; present = true; start = start; size = len }

module _ (s : List ℕ) (n : ℕ) (table : List ℕ) (tb : Table s n table) where
  part_none : (i : ℕ) → n ≤ i → at_part 0 0 ≡ the_part (some (string_of (stored_in s n table) i))
  part_none i h =
      sym (ap (λ (x : Stored). the_part (some x)) (get_or-eq_default (stored_in s n table) nothing {n = i} (omega (arith, length-map (take n table) (stored s), taken s n table tb))))

  module _ (i o : ℕ) (h : i < n) (eo : o ≡ get_or table i 0) where
    whole_text : length (text_at s o) ≡ word s o
    whole_text = simp (length-take, length-drop) (omega (arith, part_in s n table tb i o h eo))

    part_some : (len : ℕ) → (len ≡ word s o) × (len < 65536) → at_part (o + 2) len ≡ the_part (some (string_of (stored_in s n table) i))
    part_some len e =
        ap (at_part (o + 2)) (e.0 ∙ sym whole_text) ∙ ap (λ (x : Stored). the_part (some x)) (string_at s n table tb i o h eo)

-- of an image that stands
module _ (s table : List ℕ) (y : Layout) (k : Standing s table y) (i : ℕ) where
  its_string : the_part (some (string_of (stored_in s y.strings table) i)) ≡ the_part (some (string_of (strings s) i))
  its_string = ap (λ (t : List Stored). the_part (some (string_of t i))) (strings_in s table y k)

  pub stored_none : y.strings ≤ i → at_part 0 0 ≡ the_part (some (string_of (strings s) i))
  stored_none h = part_none s y.strings table (string_table s table y k) i h ∙ its_string

  pub stored_some : (o : ℕ) → i < y.strings → o ≡ get_or table i 0 → (len : ℕ) → (len ≡ word s o) × (len < 65536)
      → at_part (o + 2) len ≡ the_part (some (string_of (strings s) i))
  stored_some o h eo len e = part_some s y.strings table (string_table s table y k) i o h eo len e ∙ its_string

-- the bytes that are handed back
pub part_is : (s : List ℕ) (l : Lookup) (a n : ℕ) → a ≡ l.start → n ≡ l.size → take (a + n - a) (drop a s) ≡ part_of s l
part_is s l a n e f = rw (add-sub_cancel_left) (ap₂ (λ (x y : ℕ). take y (drop x s)) e f)

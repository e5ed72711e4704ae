-- A string by its place in the image.
use mathlib.Core.Path.{◌≡◌, sym, ap, ◌∙◌}
use Prim.Native.Nat.{ℕ, ◌+◌, ◌≤◌, ◌<◌}
use native.Mathlib.Omega.{arith}
use mathlib.Core.List.{List, []}
use lib.ListN.{length, take, get_or, length-map, get_or-eq_default}
use lib.Seq.{get_or-take}
use Rattle.profile.specs.Image.{Stored}
use Rattle.cells.specs.Inner.Places.{word, text_at}
use Rattle.profile.specs.Inner.Decoded.{stored, stored_in, nothing, string_of}
use Rattle.cells.specs.Inner.Answers.{Table}
use Rattle.cells.proofs.Uses.{get_or_map_in, taken, inside_at}

module _ (s : List ℕ) (n : ℕ) (table : List ℕ) (tb : Table s n table) where
  pub bytes_none : (i : ℕ) → n ≤ i → [] ≡ (string_of (stored_in s n table) i).bytes
  bytes_none i h =
      sym (ap (λ (x : Stored). x.bytes) (get_or-eq_default (stored_in s n table) nothing {n = i} (omega (arith, length-map (take n table) (stored s), taken s n table tb))))

  module _ (i o : ℕ) (h : i < n) (eo : o ≡ get_or table i 0) where
    -- string i, by its place
    pub string_at : stored s o ≡ string_of (stored_in s n table) i
    string_at = ap (stored s) (eo ∙ sym (get_or-take n table i 0 h)) ∙ sym (get_or_map_in (stored s) (take n table) i 0 nothing (omega (arith, taken s n table tb)))

    pub bytes_some : (r : List ℕ) → r ≡ text_at s o → r ≡ (string_of (stored_in s n table) i).bytes
    bytes_some r e = e ∙ ap (λ (x : Stored). x.bytes) string_at

    -- it lies in the image
    pub part_in : o + 2 + word s o ≤ length s
    part_in = inside_at s n table i o tb h eo

    pub part_room : o + 2 ≤ length s
    part_room = omega (arith, part_in)

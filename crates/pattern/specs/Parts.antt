-- A part of a text that fits a pattern, by its place and its length (document 02, change request 2).
use Rattle.std.specs.Prelude.{Bool, ◌≡◌, List, ℕ, ◌+◌, ◌≤◌, T, length, take, drop}
use Rattle.basic.specs.Pattern.{Atom, Pattern, Fits}

-- the part of n bytes that begins at j fits
pub record FitsAt (meet : Atom → ℕ → Bool) (p : Pattern) (s : List ℕ) (j n : ℕ) : Type 0 where
  pub within : j + n ≤ length s
  pub fits : Fits meet p.elems (take n (drop j s))
  pub start : T p.at_start → j ≡ 0
  pub end : T p.at_end → j + n ≡ length s

-- What the reader's code answers, by place in the pattern.
use Rattle.std.specs.Prelude.{Bool, ◌≡◌, List, ℕ, suc, ◌-◌, ◌≤◌, ◌<◌, eqb, length, get_or, drop, Some, None}
use Rattle.std.specs.Prelude as Std
use Rattle.std.proofs.Math.Option.{Option, none, some}
use Rattle.octets.specs.Lists.{pick, peek}
use Rattle.basic.specs.Pattern.{Range}
use Rattle.basic.specs.Reading.{Read, read, items, Body, body}
use Rattle.basic.specs.declared.reader.Item.{Item}
use Rattle.basic.specs.declared.reader.Piece.{Piece}

-- another value of what was read
abbrev pub map_got : {A B : Type 0} → (A → B) → Option (Read A) → Option (Read B)
map_got f none = none
map_got f (some r) = read (f r.got) r.rest

-- the items of a list and the elements of a pattern, with the count-down out of sight
abbrev pub items_of : Bool → List ℕ → Option (Read (List Range))
items_of first s = items (suc (length s)) first s

abbrev pub body_of : Bool → List ℕ → Option Body
body_of first s = body (suc (length s)) first s

-- the first element begins behind the anchor `^`; none begins at a last `$`, or at the end
abbrev pub start_of : List ℕ → ℕ
start_of s = pick (eqb (peek s) 94) 1 0

abbrev pub stop_of : List ℕ → ℕ
stop_of s = pick (eqb (get_or s (length s - 1) 0) 36) (length s - 1) (length s)

-- a range that is read at i: what is left stands from its `end` on, behind i and within the pattern
pub record ItemHere (whole : Option (Read Range)) (s : List ℕ) (i : ℕ) (r : Item) : Type 0 where
  pub reads : whole ≡ read (record { lo = r.lo; hi = r.hi }) (drop r.end s)
  pub forward : i < r.end
  pub inside : r.end ≤ length s

-- a set, likewise
pub record PieceHere (whole : Option (Read (List ℕ))) (s : List ℕ) (i : ℕ) (r : Piece) : Type 0 where
  pub reads : whole ≡ read r.set (drop r.end s)
  pub forward : i < r.end
  pub inside : r.end ≤ length s

-- an answer at i is what is read there, or none where the pattern is refused
abbrev pub ItemAt : Option (Read Range) → List ℕ → ℕ → Std.Option Item → Type 0
ItemAt whole s i None = whole ≡ none
ItemAt whole s i (Some r) = ItemHere whole s i r

abbrev pub PieceAt : Option (Read (List ℕ)) → List ℕ → ℕ → Std.Option Piece → Type 0
PieceAt whole s i None = whole ≡ none
PieceAt whole s i (Some r) = PieceHere whole s i r

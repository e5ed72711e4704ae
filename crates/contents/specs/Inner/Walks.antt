-- The values of a reduced value and the lines of a body that are fields, one after the other.
use Rattle.std.specs.Prelude.{◌≡◌, ℕ, zero, suc, ◌+◌, ◌-◌, ◌≤◌, ◌<◌, List, [], ◌∷◌, length, Option, Some, None}
use Rattle.contents.specs.Inner.Places.{values_from, session_from, piece_at, body_line}
use Rattle.contents.specs.declared.BodyLine.{BodyLine}
use Rattle.contents.specs.declared.BodyLine.TheVariants.{Typed, Other, Done}
use Rattle.contents.specs.declared.CutValue.{CutValue}
use Rattle.contents.specs.declared.FieldLine.{FieldLine}

-- the line itself where it is a field, else what is found behind it
abbrev pub field_or : (ℕ → BodyLine) → BodyLine → BodyLine
field_or rest Done = Done
field_or rest (Other next) = rest next
field_or rest (Typed start value end next) = Typed start value end next

-- the first of so many lines from p on that is a field
unfoldable pub field_among : ℕ → List ℕ → ℕ → BodyLine
unfolding body_line
field_among zero b p = Done
field_among (suc k) b p = field_or (field_among k b) (body_line b p)

-- the first of all lines from p on that is a field: each takes a byte at least, but for the last
abbrev pub first_field : List ℕ → ℕ → BodyLine
first_field b p = field_among (length b + 1 - p) b p

-- where the line behind it starts; 0 where there is none
abbrev pub behind : BodyLine → ℕ
behind Done = 0
behind (Other next) = next
behind (Typed start value end next) = next

-- the first line that is a field, from p on
pub record FieldLineAt (b : List ℕ) (p : ℕ) (l : FieldLine) : Type 0 where
  pub list : session_from b p ≡ record { type = l.kind.now; value = l.value.now } ∷ session_from b l.next
  pub next_is : l.next ≡ behind (first_field b p)
  pub short : length l.value.now ≤ length b
  pub on : p < l.next
  pub next_inside : l.next ≤ length b + 1

-- none from p on
abbrev pub NextField : List ℕ → ℕ → Option FieldLine → Type 0
NextField b p None = session_from b p ≡ []
NextField b p (Some l) = FieldLineAt b p l

-- the first value that v is cut into, from p on
pub record CutAt (v : List ℕ) (p : ℕ) (r : CutValue) : Type 0 where
  pub list : values_from v p ≡ r.bytes.now ∷ values_from v r.next
  pub next_is : r.next ≡ (piece_at v p).next
  pub short : length r.bytes.now ≤ length v
  pub inside : p ≤ length v
  pub on : p < r.next
  pub next_inside : r.next ≤ length v + 1

-- none from p on
abbrev pub NextCut : List ℕ → ℕ → Option CutValue → Type 0
NextCut v p None = values_from v p ≡ []
NextCut v p (Some r) = CutAt v p r

-- The values that a whole text tells, one after the other.
use Rattle.std.specs.Prelude.{◌≡◌, ℕ, ◌-◌, ◌≤◌, ◌<◌, List, ◌∷◌, ltb, length, take, drop}
use Rattle.octets.specs.Lists.{pick}
use Rattle.grammar.specs.Reading.{read_as}
use Rattle.scan.specs.Table.{decimal}
use Rattle.scan.specs.Inner.Events.{Event, number_at, string_at}
use Rattle.scan.specs.Inner.Rests.{rest}
use Rattle.compose.specs.Inner.Values.{decoded}
use Rattle.compose.specs.declared.telling.Value.{Value}

abbrev pub as_value : ℕ → ℕ → ℕ → Value
as_value end behind next = record { end = end; behind = behind; next = next }

-- what the bytes between the tags tell at a point
abbrev pub event_at : ℕ → List ℕ → Event
event_at q t = pick (ltb q 34) (number_at q (decimal 0 t)) (string_at q (decoded t))

-- where the values l are to come: the first is what the bytes up to the end tag tell, the others come behind it
pub record Comes (q : ℕ) (s : List ℕ) (at : ℕ) (r : Value) (l : List Event) : Type 0 where
  pub more : List Event
  pub first : l ≡ event_at q (take (r.end - at) (drop at s)) ∷ more
  pub inside : r.behind ≤ length s
  pub goes : rest r.next (drop r.behind s) ≡ read_as more

-- over the value at point q, from a place on
pub record Passes (q : ℕ) (s : List ℕ) (at : ℕ) (r : Value) : Type 0 where
  pub point : r.next < 42
  pub from : at ≤ r.end
  pub comes : (l : List Event) → rest q (drop at s) ≡ read_as l → Comes q s at r l

-- What the contracts say: spots and what is shown by the patterns' bytes.
use Rattle.std.specs.Prelude.{Bool, true, false, List, [], ◌∷◌, ℕ, ◌≤◌}
use Rattle.octets.specs.Lists.{pick}
use Rattle.pattern.specs.Inner.Answers.{meets_text}
use Rattle.place.specs.Inner.Texts.{place_text}
use Rattle.contents.specs.Body.{Line}
use Rattle.request.specs.Request.{Field}
use Rattle.spots.specs.Spots.{no_spot, bare_spot, first_value}
use Rattle.spots.specs.declared.Shown.{Shown}
use Rattle.spots.specs.declared.Spot.{Spot}

-- among values
unfoldable pub values_spot : List ℕ → List (List ℕ) → Spot
unfolding first_value place_text
values_spot c vs = first_value (place_text false c) 0 vs

-- in an item by its name and its values; fold: the name is a header name
unfoldable pub item_spot : Bool → List ℕ → Bool → List ℕ → List ℕ → List (List ℕ) → Spot
unfolding values_spot meets_text
item_spot fold h with c name vs = pick (meets_text fold h name) (pick with (values_spot c vs) bare_spot) no_spot

unfoldable pub field_spot : List ℕ → Bool → List ℕ → Field → Spot
unfolding item_spot
field_spot h with c f = item_spot true h with c f.name f.values

unfoldable pub line_spot : List ℕ → Bool → List ℕ → Line → Spot
unfolding item_spot
line_spot h with c l = item_spot false h with c l.type (l.value ∷ [])

-- the numbers are small
pub record LowSpot (x : Spot) : Type 0 where
  pub value : x.value ≤ 65536
  pub start : x.start ≤ 65535
  pub size : x.size ≤ 65535

pub record LowShown (x : Shown) : Type 0 where
  pub field : x.field ≤ 65536
  pub value : x.value ≤ 65536
  pub start : x.start ≤ 65535
  pub size : x.size ≤ 65535

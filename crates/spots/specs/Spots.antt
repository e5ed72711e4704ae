-- Where a row's patterns match in a field or line, and in the first of them (document 02, change request 2).
use Rattle.std.specs.Prelude.{true, false, List, [], ◌∷◌, ℕ, suc}
use Rattle.octets.specs.Lists.{pick}
use Rattle.place.specs.declared.Place.{Place}
use Rattle.spots.specs.declared.Shown.{Shown}
use Rattle.spots.specs.declared.Spot.{Spot}

-- none
abbrev pub no_spot : Spot
no_spot = record { found = false; value = 0; start = 0; size = 0 }

abbrev pub none_shown : Shown
none_shown = record { found = false; field = 0; value = 0; start = 0; size = 0 }

-- "without Content it is value 0, start 0, length 0"
abbrev pub bare_spot : Spot
bare_spot = record { found = true; value = 0; start = 0; size = 0 }

-- the first value with a place in it, counted from k
unfoldable pub first_value : (List ℕ → Place) → ℕ → List (List ℕ) → Spot
first_value at k [] = no_spot
first_value at k (v ∷ vs) =
    pick (at v).found (record { found = true; value = k; start = (at v).start; size = (at v).size }) (first_value at (suc k) vs)

-- a spot in the item of this number
abbrev pub shown_in : ℕ → Spot → Shown
shown_in i x = record { found = true; field = i; value = x.value; start = x.start; size = x.size }

-- the first field, or line that is a field, with a spot in it, counted from i
unfoldable pub first_shown : {A : Type 0} → (A → Spot) → ℕ → List A → Shown
first_shown f i [] = none_shown
first_shown f i (a ∷ l) =
    pick (f a).found (shown_in i (f a)) (first_shown f (suc i) l)

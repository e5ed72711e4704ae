-- What the check of an image and the lookups of a criterion's server name and service information answer.
use Rattle.std.specs.Prelude.{true, false, ◌≡◌, ℕ, List, length, take, drop}
use Rattle.std.proofs.Math.Option.{Option, none, some}
use Rattle.std.proofs.Math.ListN.{get_elem?}
use Rattle.profile.specs.Image.{Stored, Criterion, Judged, accepted, refused}
use Rattle.profile.specs.Judging.{judge}
use Rattle.lookups.specs.declared.Checked.{Checked}
use Rattle.lookups.specs.declared.Lookup.{Lookup}

-- ---- the check

-- the fault with its place, or 0 and 0
abbrev pub checked : Judged → Checked
checked (accepted p) = record { refusal = 0; place = 0 }
checked (refused n place) = record { refusal = n; place = place }

-- of the image lent
unfoldable pub check : List ℕ → Checked
unfolding judge
check image = checked (judge image)

-- ---- the lookups

-- "Refused or absent gives an empty part"; present is "no if refused"
abbrev pub no_part : ℕ → ℕ → Lookup
no_part n place = record { refusal = n; place = place; present = false; start = 0; size = 0 }

-- "handed back as that part of the lent image"
abbrev pub the_part : Option Stored → Lookup
the_part none = no_part 0 0
the_part (some x) = record { refusal = 0; place = 0; present = true; start = x.start; size = length x.bytes }

-- number 13, "no such criterion"
abbrev pub look_at : (Criterion → Option Stored) → Option Criterion → Lookup
look_at part none = no_part 13 0
look_at part (some c) = the_part (part c)

-- "for a lookup 13 after the image"
abbrev pub look_judged : (Criterion → Option Stored) → Judged → ℕ → Lookup
look_judged part (refused n place) i = no_part n place
look_judged part (accepted p) i = look_at part (get_elem? p.criteria i)

-- a criterion always has a server
abbrev pub its_server : Criterion → Option Stored
its_server c = some c.server

-- and may have service information
abbrev pub its_information : Criterion → Option Stored
its_information c = c.info

-- "A criterion's server name"
unfoldable pub server : List ℕ → ℕ → Lookup
unfolding judge
server image i = look_judged its_server (judge image) i

-- "or service information"
unfoldable pub information : List ℕ → ℕ → Lookup
unfolding judge
information image i = look_judged its_information (judge image) i

-- the bytes that a lookup hands back
abbrev pub part_of : List ℕ → Lookup → List ℕ
part_of image l = take l.size (drop l.start image)

-- ---- what the contracts cite

-- check answers a
pub record Checks (image : List ℕ) (a : Checked) : Type 0 where
  pub answer : a ≡ check image

-- the server lookup of criterion i answers a
pub record Serves (image : List ℕ) (i : ℕ) (a : Lookup) : Type 0 where
  pub answer : a ≡ server image i

-- the lookup of its information answers a
pub record Informs (image : List ℕ) (i : ℕ) (a : Lookup) : Type 0 where
  pub answer : a ≡ information image i

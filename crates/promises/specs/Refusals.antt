-- "Refusal numbers": "Each is given exactly when its line holds and none earlier does." The order of each call as one list.
use Rattle.std.specs.Prelude.{Bool, true, false, not, ◌&&◌, ◌≡◌, ℕ, List, [], ◌∷◌, length, T, leb, ltb, eqb}
use Rattle.std.proofs.Math.Option.{Option, none, some}
use Rattle.std.proofs.Math.ListN.{get_elem?}
use Rattle.octets.specs.Lists.{same}
use Rattle.profile.specs.Image.{Judged, accepted, refused}
use Rattle.profile.specs.Judging.{judge}
use Rattle.lookups.specs.declared.Lookup.{Lookup}
use Rattle.request.specs.Request.{Request, read_request}
use Rattle.session.specs.Session.{possible, ready, waiting}
use Rattle.session.specs.declared.Session.{Session}
use Rattle.rows.specs.Rows.{REGISTER}
use Rattle.rows.specs.declared.Given.{Given}
use Rattle.fitting.specs.Fitting.{criterion_fits}
use Rattle.show.specs.declared.Answer.{Answer}
use Rattle.basic.specs.Reading.{read_pattern}
use Rattle.bulk.specs.Bulk.{fits, Bulk}
use Rattle.plain.specs.declared.Answer as plain
use Rattle.listing.specs.Listing.{Listing, listed}
use Rattle.route.specs.declared.Advanced.{Advanced}

-- a line of the table: whether it holds, its number, its place
pub record Line : Type 0 where
  pub holds : Bool
  pub number : ℕ
  pub place : ℕ

-- "Other refusals have place 0."
abbrev pub at_0 : Bool → ℕ → Line
at_0 b n = record { holds = b; number = n; place = 0 }

-- number and place are those of the first line that holds: it holds, and none earlier does; 0 and 0 where none holds
pub data First : List Line → ℕ → ℕ → Type 0 where
  none_holds : First [] 0 0
  this_one : {l : Line} {ls : List Line} → T l.holds → First (l ∷ ls) l.number l.place
  a_later_one : {l : Line} {ls : List Line} {n place : ℕ} → T (not l.holds) → First ls n place → First (l ∷ ls) n place

-- the number alone, of a call that answers no place
pub data FirstNumber (ls : List Line) (n : ℕ) : Type 0 where
  numbered : (place : ℕ) → First ls n place → FirstNumber ls n

-- ---- the lines

-- "image faults (1 to 6, among themselves as below)"
abbrev pub image_line : Judged → Line
image_line (accepted p) = record { holds = false; number = 0; place = 0 }
image_line (refused n place) = record { holds = true; number = n; place = place }

-- 7 "request unreadable"
abbrev pub unreadable : Option Request → Bool
unreadable none = true
unreadable (some q) = false

-- 11: the method is REGISTER (of an unreadable request it is not asked)
abbrev pub is_register : Option Request → Bool
is_register none = false
is_register (some q) = same q.method REGISTER

-- 12 "more fitting criteria than places"
abbrev pub too_many : Given → Judged → Option Request → List ℕ → Bool
too_many g (refused n place) o places = false
too_many g (accepted p) none places = false
too_many g (accepted p) (some q) places = not (leb (length (listed (criterion_fits q g p) p.criteria)) (length places))

-- 13 "no such criterion"; of a show, no such row
abbrev pub missing : {A : Type 0} → Option A → Bool
missing none = true
missing (some a) = false

-- of an image that is accepted
abbrev pub no_such : Judged → ℕ → Bool
no_such (refused n place) i = false
no_such (accepted p) i = missing (get_elem? p.criteria i)

abbrev pub no_row : Judged → ℕ → Bool
no_row (refused n place) k = false
no_row (accepted p) k = missing (get_elem? p.rows k)

-- ---- the orders: "10, image faults .., 7, 11, 8, 9, 12; for a lookup 13 after the image"

abbrev pub check_lines : List ℕ → List Line
check_lines image = image_line (judge image) ∷ []

abbrev pub open_lines : ℕ → List Line
open_lines case = at_0 (not (leb case 3)) 8 ∷ []

abbrev pub advance_lines : Session → List ℕ → List ℕ → List Line
advance_lines x image r =
    at_0 (not (possible x && eqb x.state ready)) 10
    ∷ image_line (judge image)
    ∷ at_0 (unreadable (read_request r)) 7
    ∷ at_0 (is_register (read_request r)) 11
    ∷ []

abbrev pub report_lines : Session → ℕ → List Line
report_lines x n = at_0 (not (possible x && eqb x.state waiting)) 10 ∷ at_0 (not (leb n 2)) 8 ∷ []

abbrev pub listing_lines : Given → List ℕ → List ℕ → List ℕ → List Line
listing_lines g image r places =
    image_line (judge image)
    ∷ at_0 (unreadable (read_request r)) 7
    ∷ at_0 (not (is_register (read_request r))) 11
    ∷ at_0 (not (leb g.case 3)) 8
    ∷ at_0 (not (leb g.registration 2)) 9
    ∷ at_0 (too_many g (judge image) (read_request r) places) 12
    ∷ []

abbrev pub lookup_lines : List ℕ → ℕ → List Line
lookup_lines image i = image_line (judge image) ∷ at_0 (no_such (judge image) i) 13 ∷ []

-- "13 for a row number outside the table, after the image and request checks" (change request 2)
abbrev pub show_lines : List ℕ → List ℕ → ℕ → List Line
show_lines image r k = image_line (judge image) ∷ at_0 (unreadable (read_request r)) 7 ∷ at_0 (no_row (judge image) k) 13 ∷ []

-- "17 for lengths that differ or exceed 256" (change request 8); the single refusals stand in the list
abbrev pub reports_lines : List Session → List ℕ → List ℕ → List Line
reports_lines xs ns before = at_0 (not (fits (length xs) (length ns) (length before))) 17 ∷ []

-- ---- "on a refusal the session comes back as it went in, counts are zero, no place of an output list is written"

pub record AdvanceUnchanged (x : Session) (a : Advanced) : Type 0 where
  pub session : a.session ≡ x
  pub outcome : a.outcome ≡ 0
  pub number : a.number ≡ 0
  pub priority : a.priority ≡ 0
  pub examined : a.examined ≡ 0
  pub trials : a.trials ≡ 0

pub record ListingUnchanged (before : List ℕ) (l : Listing) : Type 0 where
  pub places : l.places ≡ before
  pub count : l.answer.count ≡ 0
  pub examined : l.answer.examined ≡ 0
  pub trials : l.answer.trials ≡ 0

-- "Refused or absent gives an empty part"; present is "no if refused"
pub record LookupEmpty (a : Lookup) : Type 0 where
  pub present : a.present ≡ false
  pub start : a.start ≡ 0
  pub size : a.size ≡ 0

-- a show's numbers
pub record ShowEmpty (a : Answer) : Type 0 where
  pub found : a.found ≡ 0
  pub field : a.field ≡ 0
  pub value : a.value ≡ 0
  pub start : a.start ≡ 0
  pub size : a.size ≡ 0

-- "and then no list is touched" (change request 8)
pub record BulkUnchanged (xs : List Session) (before : List ℕ) (b : Bulk) : Type 0 where
  pub sessions : b.sessions ≡ xs
  pub refusals : b.refusals ≡ before

-- ---- the plain matcher (change request 7)

-- "Refusals: 5, then 17 for a longer text."
abbrev pub plain_lines : List ℕ → List ℕ → List Line
plain_lines s t = at_0 (missing (read_pattern s)) 5 ∷ at_0 (ltb 256 (length t)) 17 ∷ []

-- its numbers, where it refuses
pub record PlainEmpty (a : plain.Answer) : Type 0 where
  pub found : a.found ≡ false
  pub start : a.start ≡ 0
  pub size : a.size ≡ 0

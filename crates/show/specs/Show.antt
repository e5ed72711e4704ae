-- "Show the matching part" (document 02, change request 2).
use Rattle.std.specs.Prelude.{Bool, ◌≡◌, List, [], ◌∷◌, ℕ, T}
use Rattle.std.proofs.Math.Option.{Option, none, some}
use Rattle.std.proofs.Math.ListN.{get_elem?}
use Rattle.octets.specs.Lists.{pick}
use Rattle.basic.specs.Pattern.{Pattern, meets}
use Rattle.pattern.specs.Matching.{written_matches, name_matches}
use Rattle.place.specs.Place.{IsPlace, place_of}
use Rattle.contents.specs.Body.{Line}
use Rattle.profile.specs.Image.{Test, request_uri, method, header, session_case, description, Row, Profile, Judged, accepted, refused}
use Rattle.profile.specs.Judging.{judge}
use Rattle.request.specs.Request.{Request, refusal_of, Field, read_request, request_lines}
use Rattle.spots.specs.Spots.{no_spot, bare_spot, none_shown, first_value, first_shown}
use Rattle.spots.specs.declared.Shown.{Shown}
use Rattle.spots.specs.declared.Spot.{Spot}
use Rattle.show.specs.declared.Answer.{Answer}

-- ---- a row, before its negation

-- the first value that matches, with the place of the part; Content may be absent
abbrev pub content_spot : Option Pattern → List (List ℕ) → Spot
content_spot none vs = bare_spot
content_spot (some c) vs = first_value (place_of meets c) 0 vs

-- in a field whose name the Header pattern matches
abbrev pub in_field : Pattern → Option Pattern → Field → Spot
in_field h c f = pick (name_matches h f.name) (content_spot c f.values) no_spot

-- in a line whose type the Line pattern matches
abbrev pub in_line : Pattern → Option Pattern → Line → Spot
in_line h c l = pick (written_matches h l.type) (content_spot c (l.value ∷ [])) no_spot

-- "For a SIPHeader or SessionDescription row they can ask the first field (or line that is a field) and value that matched before negation,
-- each counted from 0, with this place"; "another kind": "none"
unfoldable pub test_shown : Request → Test → Shown
unfolding request_lines name_matches written_matches place_of first_value first_shown
test_shown q (request_uri u) = none_shown
test_shown q (method m set) = none_shown
test_shown q (header h c) = first_shown (in_field h c) 0 q.fields
test_shown q (session_case k) = none_shown
test_shown q (description h c) = first_shown (in_line h c) 0 (request_lines q)

-- ---- the call

abbrev pub refuse_show : ℕ → ℕ → Answer
refuse_show n place = record { refusal = n; place = place; found = 0; field = 0; value = 0; start = 0; size = 0 }

abbrev pub answered : Shown → Answer
answered x = record { refusal = 0; place = 0; found = pick x.found 1 0; field = x.field; value = x.value; start = x.start; size = x.size }

-- "13 for a row number outside the table"
abbrev pub show_row : Request → Option Row → Answer
show_row q none = refuse_show 13 0
show_row q (some r) = answered (test_shown q r.test)

-- "after the image and request checks"
abbrev pub show_read : Profile → Option Request → ℕ → Answer
show_read p none k = refuse_show (refusal_of none) 0
show_read p (some q) k = show_row q (get_elem? p.rows k)

abbrev pub show_judged : Judged → List ℕ → ℕ → Answer
show_judged (refused n place) r k = refuse_show n place
show_judged (accepted p) r k = show_read p (read_request r) k

unfoldable pub show : List ℕ → List ℕ → ℕ → Answer
unfolding test_shown read_request judge
show image r k = show_judged (judge image) r k

-- ---- what the contract cites

pub record Shows (image request : List ℕ) (k : ℕ) (a : Answer) : Type 0 where
  pub answer : a ≡ show image request k

-- ---- what a caller learns

-- field, value, start and length bring the caller to the bytes that were matched: in a list of items, with a Content pattern c
pub record PartIn {A : Type 0} (named : A → Bool) (values : A → List (List ℕ)) (c : Pattern) (l : List A) (x : Shown) : Type 0 where
  pub item : A
  pub there : get_elem? l x.field ≡ some item
  pub matched : T (named item)
  pub bytes : List ℕ
  pub in_it : get_elem? (values item) x.value ≡ some bytes
  pub place : IsPlace meets c bytes x.start x.size

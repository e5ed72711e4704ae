-- Demand 3's premise, in its own words: which parts of two requests agree, for the profile lent with them.
use Rattle.std.specs.Prelude.{Bool, true, false, ◌&&◌, ◌||◌, ◌≡◌, ℕ, List, [], ◌∷◌, T}
use Rattle.std.proofs.Math.Option.{Option, none, some}
use Rattle.octets.specs.Lists.{some_of}
use Rattle.pattern.specs.Matching.{name_matches}
use Rattle.profile.specs.Image.{Test, request_uri, method, header, session_case, description, Row, Profile, accepted, refused}
use Rattle.profile.specs.Judging.{judge}
use Rattle.contents.specs.Description.{content_type}
use Rattle.cuts.specs.Cutting.{Cut, first_cut, first_line}
use Rattle.request.specs.Request.{Request, Field, empty_line, head_lines, read_request}

-- ---- the profile's part

-- a row's Header pattern meets the name
abbrev pub header_meets : Test → List ℕ → Bool
header_meets (request_uri u) name = false
header_meets (method m set) name = false
header_meets (header h c) name = name_matches h name
header_meets (session_case k) name = false
header_meets (description h c) name = false

-- a row asks for the body
abbrev pub describes : Test → Bool
describes (request_uri u) = false
describes (method m set) = false
describes (header h c) = false
describes (session_case k) = false
describes (description h c) = true

-- "fields whose name some Header pattern of the profile meets": every row counts, whether a criterion uses it or not
abbrev pub any_header : List Row → List ℕ → Bool
any_header rows name = some_of (λ r. header_meets r.test name) rows

-- "only if some row asks"
abbrev pub any_description : List Row → Bool
any_description rows = some_of (λ r. describes r.test) rows

-- whose values agree: those of "fields whose name some Header pattern of the profile meets", and "the Content-Type value joins the agreed
-- parts when the profile has any session description row" (change request 5)
abbrev pub asked : List Row → List ℕ → Bool
asked rows name = any_header rows name || any_description rows && content_type name

-- ---- the requests' part

-- of a head, if there is one
abbrev pub line_of : Option Cut → List ℕ
line_of none = []
line_of (some c) = first_line (head_lines c.before)

-- "the start line": the first line of the head
unfoldable pub start_of : List ℕ → List ℕ
start_of s = line_of (first_cut empty_line s)

-- "the header names", in the same order, each as it is matched ("Demand 3 compares names after this step", change request 1), and the
-- values that are asked
pub data AgreeFields (rows : List Row) : List Field → List Field → Type 0 where
  none_left : AgreeFields rows [] []
  field_and : {f g : Field} {fs gs : List Field} → f.name ≡ g.name → (T (asked rows f.name) → f.values ≡ g.values)
      → AgreeFields rows fs gs → AgreeFields rows (f ∷ fs) (g ∷ gs)

-- ---- the whole

-- an accepted profile and two readable requests that "agree in the start line, the header names, the values of fields whose
-- name some Header pattern of the profile meets, and (only if some row asks) the body", and then the Content-Type value too
pub record Agree (image a b : List ℕ) : Type 0 where
  pub profile : Profile
  pub accepts : judge image ≡ accepted profile
  pub q : Request
  pub r : Request
  pub reads_q : read_request a ≡ some q
  pub reads_r : read_request b ≡ some r
  pub same_start_line : start_of a ≡ start_of b
  pub same_fields : AgreeFields profile.rows q.fields r.fields
  pub same_body : T (any_description profile.rows) → q.body ≡ r.body

-- two requests that may differ, for the image lent with them: they agree as above; or the image is refused, whatever they hold; or
-- neither is readable
pub data MayDiffer (image a b : List ℕ) : Type 0 where
  agreeing : Agree image a b → MayDiffer image a b
  no_profile : {n place : ℕ} → judge image ≡ refused n place → MayDiffer image a b
  no_requests : read_request a ≡ none → read_request b ≡ none → MayDiffer image a b

-- Worked rows: which requests they fit and what trials they take. One list, one claim.
use Rattle.std.specs.Prelude.{Bool, true, false, ◌&&◌, ℕ, List, [], ◌∷◌, T, eqb}
use Rattle.std.proofs.Math.Option.{Option, none, some}
use Prim.Native.String.{String}
use Rattle.octets.specs.Lists.{text, every, agree}
use Rattle.basic.specs.Pattern.{Pattern}
use Rattle.basic.specs.Reading.{read_pattern}
use Rattle.profile.specs.Image.{Test, request_uri, method, header, session_case, description, Row}
use Rattle.request.specs.Request.{Request, read_request}
use Rattle.rows.specs.Rows.{row_fits, row_trials}
use Rattle.rows.specs.declared.Given.{Given}

-- a row's test, by its texts
pub data Written : Type 0 where
  uri_is : String → Written
  method_is : String → ℕ → Written
  header_meets : String → Written
  header_holds : String → String → Written
  case_is : ℕ → Written
  line_meets : String → Written
  line_holds : String → String → Written

abbrev one : (Pattern → Option Pattern → Test) → Option Pattern → Option Test
one kind none = none
one kind (some h) = some (kind h none)

abbrev both : (Pattern → Option Pattern → Test) → Option Pattern → Option Pattern → Option Test
both kind none c = none
both kind (some h) none = none
both kind (some h) (some c) = some (kind h (some c))

unfoldable as_test : Written → Option Test
unfolding read_pattern
as_test (uri_is u) = some (request_uri (text u))
as_test (method_is m set) = some (method (text m) set)
as_test (header_meets h) = one header (read_pattern (text h))
as_test (header_holds h c) = both header (read_pattern (text h)) (read_pattern (text c))
as_test (case_is k) = some (session_case k)
as_test (line_meets h) = one description (read_pattern (text h))
as_test (line_holds h c) = both description (read_pattern (text h)) (read_pattern (text c))

-- a row (negated or not) on a request, case 1 and registration type 1: whether it fits, and its trials
pub record Example : Type 0 where
  pub negated : Bool
  pub row : Written
  pub request : String
  pub fits : Bool
  pub trials : ℕ

abbrev given : Given
given = record { case = 1; registration = 1 }

abbrev on : Option Test → Option Request → Example → Bool
on none q x = false
on (some t) none x = false
on (some t) (some q) x =
    let r : Row = record { place = 0; negated = x.negated; test = t } in
    agree x.fits (row_fits q given r) && eqb (row_trials q r) x.trials

unfoldable pub right : Example → Bool
unfolding as_test read_request row_fits row_trials
right x = on (as_test x.row) (read_request (text x.request)) x

abbrev is : Written → String → Bool → ℕ → Example
is w q fits trials = record { negated = false; row = w; request = q; fits = fits; trials = trials }

abbrev isn't : Written → String → Bool → ℕ → Example
isn't w q fits trials = record { negated = true; row = w; request = q; fits = fits; trials = trials }

unfoldable pub examples : List Example
examples =
    -- equal bytes
    is (uri_is "sip:b") "A sip:b SIP/2.0\r\n\r\n" true 1
    ∷ is (uri_is "sip:B") "A sip:b SIP/2.0\r\n\r\n" false 1
    ∷ is (method_is "INVITE" 0) "INVITE b SIP/2.0\r\n\r\n" true 1
    ∷ is (method_is "INVITE" 0) "Invite b SIP/2.0\r\n\r\n" false 1
    -- a registration set counts for REGISTER only, and before negation
    ∷ is (method_is "REGISTER" 0) "REGISTER b SIP/2.0\r\n\r\n" true 1
    ∷ is (method_is "REGISTER" 2) "REGISTER b SIP/2.0\r\n\r\n" true 1
    ∷ is (method_is "REGISTER" 5) "REGISTER b SIP/2.0\r\n\r\n" false 1
    ∷ isn't (method_is "REGISTER" 5) "REGISTER b SIP/2.0\r\n\r\n" true 1
    ∷ is (method_is "register" 5) "register b SIP/2.0\r\n\r\n" true 1
    ∷ is (case_is 1) "A b SIP/2.0\r\n\r\n" true 1
    ∷ is (case_is 0) "A b SIP/2.0\r\n\r\n" false 1
    -- "`From` also meets `X-From-Id`", in any case
    ∷ is (header_meets "From") "A b SIP/2.0\r\nx-from-id: a\r\nTo: b\r\n\r\n" true 2
    ∷ is (header_meets "^From$") "A b SIP/2.0\r\nX-From-Id: a\r\n\r\n" false 1
    ∷ isn't (header_meets "From") "A b SIP/2.0\r\n\r\n" true 0
    -- a short name is the long one, and is not tried as written
    ∷ is (header_meets "^From$") "A b SIP/2.0\r\nf: a\r\n\r\n" true 1
    ∷ is (header_meets "om$") "A b SIP/2.0\r\nF : a\r\n\r\n" true 1
    ∷ is (header_meets "^f$") "A b SIP/2.0\r\nf: a\r\n\r\n" false 1
    ∷ isn't (header_meets "^.$") "A b SIP/2.0\r\nf: a\r\nT: b\r\n\r\n" true 2
    ∷ is (header_holds "From" "joe") "A b SIP/2.0\r\nf: ann\r\nFrom: joe\r\n\r\n" true 4
    ∷ is (header_holds "Subject" "a, b") "A b SIP/2.0\r\ns: a, b\r\n\r\n" true 2
    -- "The row fits only if no value matches"; every value is a trial
    ∷ is (header_holds "From" "joe") "A b SIP/2.0\r\nFrom: joe, ann\r\n\r\n" true 3
    ∷ isn't (header_holds "From" "joe") "A b SIP/2.0\r\nFrom: joe, ann\r\n\r\n" false 3
    ∷ isn't (header_holds "From" "joe") "A b SIP/2.0\r\nFrom: bob, ann\r\n\r\n" true 3
    -- name and content in one field
    ∷ is (header_holds "From" "joe") "A b SIP/2.0\r\nFrom: ann\r\nTo: joe\r\n\r\n" false 3
    ∷ is (header_holds "From" "joe") "A b SIP/2.0\r\nFrom: ann\r\nFrom: joe\r\n\r\n" true 4
    ∷ is (header_holds "From" "JOE") "A b SIP/2.0\r\nFrom: joe\r\n\r\n" false 2
    -- lines of a session description: one value each, matched as written
    ∷ is (line_meets "m") "A b SIP/2.0\r\nc: application/sdp\r\n\r\nv=0\r\nm=audio\r\n" true 2
    ∷ is (line_meets "M") "A b SIP/2.0\r\nc: application/sdp\r\n\r\nv=0\r\nm=audio\r\nx\r\n" false 2
    ∷ is (line_holds "m" "audio") "A b SIP/2.0\r\nc: application/sdp\r\n\r\nv=0\r\nm=audio\r\nm=video" true 5
    ∷ is (line_holds "v" "audio") "A b SIP/2.0\r\nc: application/sdp\r\n\r\nv=0\r\nm=audio" false 3
    -- of another body: none, and no trial
    ∷ is (line_meets "m") "A b SIP/2.0\r\n\r\nm=audio" false 0
    ∷ is (line_holds "m" "x") "A b SIP/2.0\r\nContent-Type: application/pidf+xml\r\n\r\nm=x" false 0
    ∷ isn't (line_meets "m") "A b SIP/2.0\r\nc: application/sdp\r\nc: application/sdp\r\n\r\nm=audio" true 0
    ∷ []

-- every example is right
pub all_right : T (every right examples)
unfolding right examples
all_right = tt

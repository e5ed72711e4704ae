-- When a row fits, and the trials it takes (document 01, "When a row, a trigger and a criterion fit" and the counts of "The session").
use Rattle.std.specs.Prelude.{Bool, true, not, ◌&&◌, ◌||◌, ℕ, ◌+◌, List, [], ◌∷◌, length, eqb}
use Rattle.std.proofs.Math.Option.{Option, none, some}
use Rattle.octets.specs.Bits.{bit}
use Rattle.octets.specs.Lists.{text, pick, some_of, total, same}
use Rattle.basic.specs.Pattern.{Pattern}
use Rattle.pattern.specs.Matching.{written_matches, name_matches}
use Rattle.profile.specs.Image.{Test, request_uri, method, header, session_case, description, Row}
use Rattle.contents.specs.Body.{Line}
use Rattle.request.specs.Request.{Request, Field, request_lines}
use Rattle.rows.specs.declared.Given.{Given}

-- the method that is listed instead of advanced
abbrev pub REGISTER : List ℕ
REGISTER = text "REGISTER"

-- what the host gives with a request: the session case and the registration type
abbrev pub given : ℕ → ℕ → Given
given case registration = record { case = case; registration = registration }

-- ---- whether it fits

-- "for REGISTER with a nonempty set the registration type must also be in it": "bit 0 initial, 1 re-registration, 2 de-registration"
abbrev pub registration_fits : List ℕ → ℕ → ℕ → Bool
registration_fits m set type = not (same m REGISTER) || eqb set 0 || bit set type

-- "if Content is present, some value .. matches"
abbrev pub content_fits : Option Pattern → List (List ℕ) → Bool
content_fits none values = true
content_fits (some c) values = some_of (written_matches c) values

-- "some field's name matches and .. some value of that same field matches"
abbrev pub field_fits : Pattern → Option Pattern → Field → Bool
field_fits h c f = name_matches h f.name && content_fits c f.values

-- "the same with type and value of one line"
abbrev pub line_fits : Pattern → Option Pattern → Line → Bool
line_fits h c l = written_matches h l.type && content_fits c (l.value ∷ [])

-- before negation
unfoldable pub test_fits : Request → Given → Test → Bool
unfolding request_lines name_matches written_matches bit
test_fits q g (request_uri u) = same u q.uri
test_fits q g (method m set) = same m q.method && registration_fits m set g.registration
test_fits q g (header h c) = some_of (field_fits h c) q.fields
test_fits q g (session_case k) = eqb k g.case
test_fits q g (description h c) = some_of (line_fits h c) (request_lines q)

-- "Then negation."
unfoldable pub row_fits : Request → Given → Row → Bool
unfolding test_fits
row_fits q g r = let fits : Bool = test_fits q g r.test in pick r.negated (not fits) fits

-- ---- its trials

-- "with Content, one per value of each field whose name matches"
abbrev pub content_trials : Option Pattern → Bool → ℕ → ℕ
content_trials none matched values = 0
content_trials (some c) matched values = pick matched values 0

-- "for kind 2 one per field, plus .."
abbrev pub field_trials : Pattern → Option Pattern → Field → ℕ
field_trials h c f = 1 + content_trials c (name_matches h f.name) (length f.values)

-- "kind 4 likewise over lines that are fields, one value each"
abbrev pub line_trials : Pattern → Option Pattern → Line → ℕ
line_trials h c l = 1 + content_trials c (written_matches h l.type) 1

-- "1 for kinds 0, 1, 3"
unfoldable pub test_trials : Request → Test → ℕ
unfolding request_lines name_matches written_matches
test_trials q (request_uri u) = 1
test_trials q (method m set) = 1
test_trials q (header h c) = total (field_trials h c) q.fields
test_trials q (session_case k) = 1
test_trials q (description h c) = total (line_trials h c) (request_lines q)

-- a row's trials: negation plays no part
unfoldable pub row_trials : Request → Row → ℕ
unfolding test_trials
row_trials q r = test_trials q r.test

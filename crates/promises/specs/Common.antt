-- "Ways it is commonly got wrong", each through whole images and requests: one list, one claim.
use Rattle.std.specs.Prelude.{Bool, ◌&&◌, ℕ, List, [], ◌∷◌, length, T, eqb}
use Prim.Native.String.{String}
use Rattle.octets.specs.Lists.{text, every}
use Rattle.profile.specs.Written.{row_of, member_of, criterion_of, written}
use Rattle.entries.specs.declared.Row.{Row}
use Rattle.entries.specs.declared.Member.{Member}
use Rattle.session.specs.Session.{fresh, report_session}
use Rattle.session.specs.declared.Session.{Session}
use Rattle.route.specs.Advance.{advance}
use Rattle.route.specs.declared.Advanced.{Advanced}

-- ---- the images

-- one DNF criterion, priority 7, over rows whose strings are From, joe, To; the server stands last
abbrev of_rows : List Row → List Member → List ℕ
of_rows rows members = written (record {
  strings = text "From" ∷ text "joe" ∷ text "To" ∷ text "sip:a" ∷ [];
  rows = rows;
  members = members;
  criteria = criterion_of 7 0 0 (length rows) 3 0 ∷ [];
})

-- From with Content joe, as it is and negated; and DNF with From negated and To in one group
abbrev pub from_joe : ℕ → List ℕ
from_joe negated = of_rows (row_of negated 2 0 1 ∷ []) (member_of 0 0 ∷ [])

abbrev from_not_to : List ℕ
from_not_to = of_rows (row_of 1 2 0 65535 ∷ row_of 0 2 2 65535 ∷ []) (member_of 0 0 ∷ member_of 1 0 ∷ [])

-- two criteria with no trigger, of these priorities
abbrev pub pair : ℕ → ℕ → List ℕ
pair p r = written (record {
  strings = text "sip:a" ∷ [];
  rows = [];
  members = [];
  criteria = criterion_of p 2 0 0 0 0 ∷ criterion_of r 2 0 0 0 0 ∷ [];
})

-- a criterion with no trigger, then one for From with Content joe
abbrev first_then_joe : List ℕ
first_then_joe = written (record {
  strings = text "From" ∷ text "joe" ∷ text "sip:a" ∷ [];
  rows = row_of 0 2 0 1 ∷ [];
  members = member_of 0 0 ∷ [];
  criteria = criterion_of 1 2 0 0 2 0 ∷ criterion_of 2 0 0 1 2 0 ∷ [];
})

-- ---- the list

-- an image with the requests of the first advance and, once the server has returned it, of the second; and the outcome and
-- number of the last of them
pub data Example : Type 0 where
  answers : List ℕ → String → ℕ → ℕ → Example
  again : List ℕ → String → String → ℕ → ℕ → Example

abbrev says : Advanced → ℕ → ℕ → Bool
says a outcome number = eqb a.outcome outcome && eqb a.number number

-- ready again after a first advance
abbrev returned : List ℕ → String → Session
returned image q = (report_session (advance (fresh 0) image (text q)).session 0).session

unfoldable pub right : Example → Bool
unfolding advance report_session
right (answers image q outcome number) = says (advance (fresh 0) image (text q)) outcome number
right (again image q then outcome number) = says (advance (returned image q) image (text then)) outcome number

unfoldable pub common : List Example
common =
    -- negating per value
    answers (from_joe 1) "INVITE sip:b SIP/2.0\r\nFrom: joe, ann\r\n\r\n" 2 0
    ∷ answers (from_joe 1) "INVITE sip:b SIP/2.0\r\nFrom: bob, ann\r\n\r\n" 1 0
    -- large priority numbers first
    ∷ answers (pair 9 5) "INVITE sip:b SIP/2.0\r\n\r\n" 1 1
    ∷ again (pair 9 5) "INVITE sip:b SIP/2.0\r\n\r\n" "INVITE sip:b SIP/2.0\r\n\r\n" 1 0
    ∷ again (pair 5 9) "INVITE sip:b SIP/2.0\r\n\r\n" "INVITE sip:b SIP/2.0\r\n\r\n" 1 1
    -- name and content in two different fields
    ∷ answers (from_joe 0) "INVITE sip:b SIP/2.0\r\nFrom: ann\r\nTo: joe\r\n\r\n" 2 0
    -- anchoring
    ∷ answers (from_joe 0) "INVITE sip:b SIP/2.0\r\nX-From-Id: a joe\r\n\r\n" 1 0
    -- negating a group in place of a row
    ∷ answers from_not_to "INVITE sip:b SIP/2.0\r\nTo: x\r\n\r\n" 1 0
    ∷ answers from_not_to "INVITE sip:b SIP/2.0\r\n\r\n" 2 0
    -- assessing the rest against the first request
    ∷ again first_then_joe "INVITE sip:b SIP/2.0\r\n\r\n" "INVITE sip:b SIP/2.0\r\nFrom: joe\r\n\r\n" 1 1
    ∷ again first_then_joe "INVITE sip:b SIP/2.0\r\nFrom: joe\r\n\r\n" "INVITE sip:b SIP/2.0\r\n\r\n" 2 0
    ∷ []

-- every example is right
pub all_right : T (every right common)
unfolding right common written
all_right = tt

-- "Marked for proof, as a single list with one claim about all of it". The triggers go through whole images and requests.
use Rattle.std.specs.Prelude.{Bool, true, false, ℕ, List, [], ◌∷◌, T, eqb}
use Rattle.std.proofs.Math.Option.{Option, none, some}
use Prim.Native.String.{String}
use Rattle.octets.specs.Lists.{text, every, agree}
use Rattle.basic.specs.Pattern.{Pattern}
use Rattle.basic.specs.Reading.{read_pattern}
use Rattle.pattern.specs.Matching.{written_matches}
use Rattle.profile.specs.Written.{row_of, member_of, criterion_of, written}
use Rattle.entries.specs.declared.Row.{Row}
use Rattle.entries.specs.declared.Criterion.{Criterion}
use Rattle.session.specs.Session.{fresh}
use Rattle.route.specs.Advance.{advance}
use Rattle.promises.specs.Refusals.{missing}

-- ---- the images of source document 000's trigger

abbrev strings : List (List ℕ)
strings = text "INVITE" ∷ text "MESSAGE" ∷ text "SUBSCRIBE" ∷ text "From" ∷ text "joe" ∷ text "sip:AS1@homedomain.com" ∷ []

-- rows for INVITE, MESSAGE, SUBSCRIBE, and From not joe
abbrev method : ℕ → Row
method i = row_of 0 1 i 65535

abbrev not_joe : Row
not_joe = row_of 1 2 3 4

-- priority 0, the form, all rows
abbrev criteria : ℕ → ℕ → List Criterion
criteria form count = criterion_of 0 form 0 count 5 0 ∷ []

-- the four rows of the DNF, in groups 0, 1, 2, 2
abbrev pub in_dnf : List ℕ
in_dnf = written (record {
  strings = strings;
  rows = method 0 ∷ method 1 ∷ method 2 ∷ not_joe ∷ [];
  members = member_of 0 0 ∷ member_of 1 1 ∷ member_of 2 2 ∷ member_of 3 2 ∷ [];
  criteria = criteria 0 4;
})

-- the six rows of the CNF, as 000 writes them, in groups 0, 0, 0, 1, 1, 1
abbrev pub in_cnf : List ℕ
in_cnf = written (record {
  strings = strings;
  rows = method 0 ∷ method 1 ∷ method 2 ∷ method 0 ∷ method 1 ∷ not_joe ∷ [];
  members = member_of 0 0 ∷ member_of 1 0 ∷ member_of 2 0 ∷ member_of 3 1 ∷ member_of 4 1 ∷ member_of 5 1 ∷ [];
  criteria = criteria 1 6;
})

-- ---- the list

-- a pattern on a text; one that is refused; whether a request is forwarded over an image
pub data Example : Type 0 where
  pattern_on : String → String → Bool → Example
  pattern_refused : String → Example
  forwards : List ℕ → String → Bool → Example

abbrev on_text : Option Pattern → List ℕ → Bool → Bool
on_text none s expected = false
on_text (some p) s expected = agree expected (written_matches p s)

-- outcome 1 is forward, 2 is route: neither is a refusal
abbrev outcome_is : Bool → ℕ → Bool
outcome_is true n = eqb n 1
outcome_is false n = eqb n 2

unfoldable pub right : Example → Bool
unfolding read_pattern written_matches advance
right (pattern_on p s expected) = on_text (read_pattern (text p)) (text s) expected
right (pattern_refused p) = missing (read_pattern (text p))
right (forwards image q expected) = outcome_is expected (advance (fresh 0) image (text q)).outcome

unfoldable pub marked : List Example
marked =
    pattern_on "^Jo" "Joe" true
    ∷ pattern_on "^Jo" "a Joe" false
    ∷ pattern_on "Jo" "a Joe" true
    ∷ pattern_on "*a" "a" false
    ∷ pattern_on "*a" "x*a" true
    ∷ pattern_on "a*" "" true
    ∷ pattern_on "x$y" "x$y" true
    ∷ pattern_on "[]a]" "]" true
    ∷ pattern_refused "[z-a]"
    ∷ forwards in_dnf "SUBSCRIBE sip:b SIP/2.0\r\nFrom: joe\r\n\r\n" false
    ∷ forwards in_dnf "SUBSCRIBE sip:b SIP/2.0\r\n\r\n" true
    ∷ forwards in_dnf "BYE sip:b SIP/2.0\r\n\r\n" false
    ∷ forwards in_cnf "SUBSCRIBE sip:b SIP/2.0\r\nFrom: joe\r\n\r\n" false
    ∷ forwards in_cnf "SUBSCRIBE sip:b SIP/2.0\r\n\r\n" true
    ∷ forwards in_cnf "BYE sip:b SIP/2.0\r\n\r\n" false
    ∷ []

-- every example is right
pub all_right : T (every right marked)
unfolding right marked written
all_right = tt

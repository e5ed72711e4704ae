-- How a text goes on from each point, by the grammar alone, and the values that are still to come.
use Rattle.std.specs.Prelude.{List, [], ◌∷◌, ℕ, ◌-◌, ltb, get_or}
use Rattle.octets.specs.Lists.{text, pick}
use Rattle.grammar.specs.Grammar.{Grammar, one, ◌then◌, ◌or◌, option, many, into}
use Rattle.grammar.specs.Reading.{Read, read_as, wrong, expect, up_to, read}
use Rattle.grammar.specs.Inner.Made.{Only, made, forget}
use Rattle.scan.specs.Table.{gap, end_tag, number, string, character, digit, decimal, at_most_two, sip_header, session_description, service_point, trigger_point, application_server, initial_filter_criteria}
use Rattle.scan.specs.Criteria.{Test, request_uri, method, session_case}
use Rattle.scan.specs.Inner.Events.{Event, note, note_text, if_any, each_of, first_and, of_test, of_row, of_trigger, of_server, of_criterion}

-- a text of g, and then k
unfoldable pub pass : {A R : Type 0} → Grammar A → (List ℕ → Read R) → List ℕ → Read R
unfolding read
pass g k s = read g (λ a. k) s

-- a text of g, what is read is told, and then k
unfoldable pub told : {A R : Type 0} → Grammar A → (A → R → R) → (List ℕ → Read R) → List ℕ → Read R
unfolding read
told g f k s = read g (λ a u. made (f a) (k u)) s

-- the values to come
abbrev pub Ahead : Type 0
Ahead = Read (List Event)

-- the text's end
abbrev pub at_end : List ℕ → Ahead
at_end [] = read_as []
at_end (b ∷ s) = wrong 0

-- the five tests of a row
abbrev pub tests : Grammar Test
tests = into request_uri (string "RequestURI") or into method (string "Method") or sip_header or into session_case (number "SessionCase") or session_description

unfoldable pub top : List ℕ → Ahead
top = told (many initial_filter_criteria) (each_of of_criterion) (pass gap at_end)

unfoldable pub after_part : List ℕ → Ahead
after_part = pass gap (expect (end_tag "InitialFilterCriteria") top)

unfoldable pub after_server : List ℕ → Ahead
after_server = told (option (number "ProfilePartIndicator")) (if_any (note 33)) after_part

unfoldable pub after_trigger : List ℕ → Ahead
after_trigger = told application_server of_server after_server

unfoldable pub after_priority : List ℕ → Ahead
after_priority = told (option trigger_point) (if_any of_trigger) after_trigger

unfoldable pub in_criterion : List ℕ → Ahead
in_criterion = told (number "Priority") (note 25) after_priority

unfoldable pub after_row : List ℕ → Ahead
after_row = told (many service_point) (each_of of_row) (pass gap (expect (end_tag "TriggerPoint") after_trigger))

unfoldable pub after_cnf : List ℕ → Ahead
after_cnf = told service_point of_row after_row

unfoldable pub in_trigger : List ℕ → Ahead
in_trigger = told (number "ConditionTypeCNF") (note 26) after_cnf

unfoldable pub after_types : List ℕ → Ahead
after_types = pass gap (expect (end_tag "SPT") after_row)

unfoldable pub after_type : List ℕ → Ahead
after_type = told (option (number "RegistrationType")) (if_any (note 31)) after_types

unfoldable pub after_test : List ℕ → Ahead
after_test = told (at_most_two (number "RegistrationType")) (first_and (note 30) (note 31)) after_types

unfoldable pub after_group : List ℕ → Ahead
after_group = told (many (number "Group")) (each_of (note 28)) (told tests of_test after_test)

unfoldable pub after_negated : List ℕ → Ahead
after_negated = told (number "Group") (note 28) after_group

unfoldable pub in_row : List ℕ → Ahead
in_row = told (option (number "ConditionNegated")) (if_any (note 27)) after_negated

unfoldable pub after_content : List ℕ → Ahead
after_content = pass gap (expect (end_tag "SIPHeader") after_test)

unfoldable pub after_header : List ℕ → Ahead
after_header = told (option (string "Content")) (if_any (note_text 37)) after_content

unfoldable pub in_header : List ℕ → Ahead
in_header = told (string "Header") (note_text 36) after_header

unfoldable pub after_line_content : List ℕ → Ahead
after_line_content = pass gap (expect (end_tag "SessionDescription") after_test)

unfoldable pub after_line : List ℕ → Ahead
after_line = told (option (string "Content")) (if_any (note_text 39)) after_line_content

unfoldable pub in_description : List ℕ → Ahead
in_description = told (string "Line") (note_text 38) after_line

unfoldable pub after_info : List ℕ → Ahead
after_info = pass gap (expect (end_tag "ApplicationServer") after_server)

unfoldable pub after_handling : List ℕ → Ahead
after_handling = told (option (string "ServiceInfo")) (if_any (note_text 41)) after_info

unfoldable pub after_name : List ℕ → Ahead
after_name = told (option (number "DefaultHandling")) (if_any (note 32)) after_handling

unfoldable pub in_server : List ℕ → Ahead
in_server = told (string "ServerName") (note_text 40) after_name

-- in a number, and in a string, at a point, up to its end tag
unfoldable pub in_number : ℕ → List ℕ → (List ℕ → Ahead) → List ℕ → Ahead
in_number q close k = told (one digit then many (one digit)) (λ (p : ℕ × List ℕ). note q (decimal 0 (p.0 ∷ p.1))) (expect close k)

unfoldable pub in_string : ℕ → List ℕ → (List ℕ → Ahead) → List ℕ → Ahead
in_string q close k = told (many character) (note_text q) (expect close k)

unfoldable pub in_priority : List ℕ → Ahead
unfolding in_number
in_priority = in_number 25 (end_tag "Priority") after_priority

unfoldable pub in_cnf : List ℕ → Ahead
unfolding in_number
in_cnf = in_number 26 (end_tag "ConditionTypeCNF") after_cnf

unfoldable pub in_negated : List ℕ → Ahead
unfolding in_number
in_negated = in_number 27 (end_tag "ConditionNegated") after_negated

unfoldable pub in_group : List ℕ → Ahead
unfolding in_number
in_group = in_number 28 (end_tag "Group") after_group

unfoldable pub in_case : List ℕ → Ahead
unfolding in_number
in_case = in_number 29 (end_tag "SessionCase") after_test

unfoldable pub in_type : List ℕ → Ahead
unfolding in_number
in_type = in_number 30 (end_tag "RegistrationType") after_type

unfoldable pub in_type_2 : List ℕ → Ahead
unfolding in_number
in_type_2 = in_number 31 (end_tag "RegistrationType") after_types

unfoldable pub in_handling : List ℕ → Ahead
unfolding in_number
in_handling = in_number 32 (end_tag "DefaultHandling") after_handling

unfoldable pub in_part : List ℕ → Ahead
unfolding in_number
in_part = in_number 33 (end_tag "ProfilePartIndicator") after_part

unfoldable pub in_uri_text : List ℕ → Ahead
unfolding in_string
in_uri_text = in_string 34 (end_tag "RequestURI") after_test

unfoldable pub in_method_text : List ℕ → Ahead
unfolding in_string
in_method_text = in_string 35 (end_tag "Method") after_test

unfoldable pub in_header_text : List ℕ → Ahead
unfolding in_string
in_header_text = in_string 36 (end_tag "Header") after_header

unfoldable pub in_content_text : List ℕ → Ahead
unfolding in_string
in_content_text = in_string 37 (end_tag "Content") after_content

unfoldable pub in_line_text : List ℕ → Ahead
unfolding in_string
in_line_text = in_string 38 (end_tag "Line") after_line

unfoldable pub in_line_content_text : List ℕ → Ahead
unfolding in_string
in_line_content_text = in_string 39 (end_tag "Content") after_line_content

unfoldable pub in_server_text : List ℕ → Ahead
unfolding in_string
in_server_text = in_string 40 (end_tag "ServerName") after_name

unfoldable pub in_info_text : List ℕ → Ahead
unfolding in_string
in_info_text = in_string 41 (end_tag "ServiceInfo") after_info

-- by number
unfoldable pub rests : List (List ℕ → Ahead)
rests =
    top
    ∷ in_criterion
    ∷ after_priority
    ∷ after_trigger
    ∷ after_server
    ∷ after_part
    ∷ in_trigger
    ∷ after_cnf
    ∷ after_row
    ∷ in_row
    ∷ after_negated
    ∷ after_group
    ∷ after_test
    ∷ after_type
    ∷ after_types
    ∷ in_header
    ∷ after_header
    ∷ after_content
    ∷ in_description
    ∷ after_line
    ∷ after_line_content
    ∷ in_server
    ∷ after_name
    ∷ after_handling
    ∷ after_info
    ∷ in_priority
    ∷ in_cnf
    ∷ in_negated
    ∷ in_group
    ∷ in_case
    ∷ in_type
    ∷ in_type_2
    ∷ in_handling
    ∷ in_part
    ∷ in_uri_text
    ∷ in_method_text
    ∷ in_header_text
    ∷ in_content_text
    ∷ in_line_text
    ∷ in_line_content_text
    ∷ in_server_text
    ∷ in_info_text
    ∷ []

-- no text goes on
abbrev pub none_goes : List ℕ → Ahead
none_goes s = wrong 0

-- 64 more: behind the start of a comment
unfoldable pub rest : ℕ → List ℕ → Ahead
rest q = pick (ltb q 64) (get_or rests q none_goes) (up_to (text "-->") [] (get_or rests (q - 64) none_goes))

-- whether it goes on, without the values
abbrev pub plainly : ℕ → List ℕ → Only
plainly q s = forget (rest q s)

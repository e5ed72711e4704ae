-- Each compound element of table E.2 is its start tag and then what its point says.
use mathlib.Core.Path.{◌≡◌, ap, ◌∙◌}
use mathlib.Core.List.{List}
use Prim.Native.Nat.{ℕ}
use Rattle.grammar.specs.Grammar.{option, many}
use Rattle.grammar.specs.Reading.{expect}
use Rattle.scan.specs.Table.{gap, open_tag, end_tag, number, string, at_most_two, one_or_more, sip_header, session_description, service_point, trigger_point, application_server, initial_filter_criteria}
use Rattle.scan.specs.Inner.Events.{note, note_text, if_any, each_of, first_and, of_test, of_row, of_trigger, of_server, of_criterion}
use Rattle.scan.proofs.Passing.{told_compound, told_into, told_pair, told_three, told_four}
use Rattle.scan.specs.Inner.Rests.{pass, told, Ahead, tests, top, in_criterion, after_priority, after_trigger, after_server, after_part, in_trigger, after_cnf, after_row, in_row, after_negated, after_group, after_test, after_types, in_header, after_header, after_content, in_description, after_line, after_line_content, in_server, after_name, after_handling, after_info}

pub the_criterion : told initial_filter_criteria of_criterion top ≡ pass gap (expect (open_tag "InitialFilterCriteria") in_criterion)
unfolding in_criterion after_priority after_trigger after_server after_part
the_criterion =
    told_compound gap (open_tag "InitialFilterCriteria") (end_tag "InitialFilterCriteria") _ of_criterion top
    ∙ ap (λ (z : List ℕ → Ahead). pass gap (expect (open_tag "InitialFilterCriteria") z))
    (told_into _ _ of_criterion after_part
    ∙ told_four (number "Priority") (option trigger_point) application_server (option (number "ProfilePartIndicator"))
    (note 25) (if_any of_trigger) of_server (if_any (note 33)) after_part)

pub the_trigger : told trigger_point of_trigger after_trigger ≡ pass gap (expect (open_tag "TriggerPoint") in_trigger)
unfolding in_trigger after_cnf after_row
the_trigger =
    told_compound gap (open_tag "TriggerPoint") (end_tag "TriggerPoint") _ of_trigger after_trigger
    ∙ ap (λ (z : List ℕ → Ahead). pass gap (expect (open_tag "TriggerPoint") z))
    (told_into _ _ of_trigger (pass gap (expect (end_tag "TriggerPoint") after_trigger))
    ∙ told_pair (number "ConditionTypeCNF") (one_or_more service_point) (note 26) (each_of of_row) (pass gap (expect (end_tag "TriggerPoint") after_trigger))
    ∙ ap (told (number "ConditionTypeCNF") (note 26))
    (told_into _ _ (each_of of_row) (pass gap (expect (end_tag "TriggerPoint") after_trigger))
    ∙ told_pair service_point (many service_point) of_row (each_of of_row) (pass gap (expect (end_tag "TriggerPoint") after_trigger))))

pub the_row : told service_point of_row after_row ≡ pass gap (expect (open_tag "SPT") in_row)
unfolding in_row after_negated after_group after_test after_types
the_row =
    told_compound gap (open_tag "SPT") (end_tag "SPT") _ of_row after_row
    ∙ ap (λ (z : List ℕ → Ahead). pass gap (expect (open_tag "SPT") z))
    (told_into _ _ of_row after_types
    ∙ told_four (option (number "ConditionNegated")) (one_or_more (number "Group")) tests (at_most_two (number "RegistrationType"))
    (if_any (note 27)) (each_of (note 28)) of_test (first_and (note 30) (note 31)) after_types
    ∙ ap (told (option (number "ConditionNegated")) (if_any (note 27)))
    (told_into _ _ (each_of (note 28)) (told tests of_test after_test)
    ∙ told_pair (number "Group") (many (number "Group")) (note 28) (each_of (note 28)) (told tests of_test after_test)))

pub the_header : told sip_header of_test after_test ≡ pass gap (expect (open_tag "SIPHeader") in_header)
unfolding in_header after_header after_content
the_header =
    told_compound gap (open_tag "SIPHeader") (end_tag "SIPHeader") _ of_test after_test
    ∙ ap (λ (z : List ℕ → Ahead). pass gap (expect (open_tag "SIPHeader") z))
    (told_into _ _ of_test after_content ∙ told_pair (string "Header") (option (string "Content")) (note_text 36) (if_any (note_text 37)) after_content)

pub the_description : told session_description of_test after_test ≡ pass gap (expect (open_tag "SessionDescription") in_description)
unfolding in_description after_line after_line_content
the_description =
    told_compound gap (open_tag "SessionDescription") (end_tag "SessionDescription") _ of_test after_test
    ∙ ap (λ (z : List ℕ → Ahead). pass gap (expect (open_tag "SessionDescription") z))
    (told_into _ _ of_test after_line_content
    ∙ told_pair (string "Line") (option (string "Content")) (note_text 38) (if_any (note_text 39)) after_line_content)

pub the_server : told application_server of_server after_server ≡ pass gap (expect (open_tag "ApplicationServer") in_server)
unfolding in_server after_name after_handling after_info
the_server =
    told_compound gap (open_tag "ApplicationServer") (end_tag "ApplicationServer") _ of_server after_server
    ∙ ap (λ (z : List ℕ → Ahead). pass gap (expect (open_tag "ApplicationServer") z))
    (told_into _ _ of_server after_info
    ∙ told_three (string "ServerName") (option (number "DefaultHandling")) (option (string "ServiceInfo"))
    (note_text 40) (if_any (note 32)) (if_any (note_text 41)) after_info)

-- Each point between tags: how the grammar goes on is what the table says.
use mathlib.Core.Path.{◌≡◌, sym, ap, ap₂, ◌∙◌, fun_ext}
use Prim.Native.Nat.{ℕ}
use mathlib.Core.List.{List, [], ◌∷◌}
use Rattle.octets.specs.Lists.{text}
use Rattle.scan.specs.Criteria.{request_uri, method, session_case}
use Rattle.grammar.specs.Grammar.{one, many}
use Rattle.grammar.specs.Reading.{wrong, better, expect, up_to}
use Rattle.grammar.proofs.Sound.{solid, sound}
use Rattle.scan.specs.Table.{gap, blank, open_tag, end_tag, number, string, service_point, initial_filter_criteria, trigger_point}
use Rattle.scan.specs.Inner.Points.{firsts, starts, nexts, letters, word_at, choices, first_word, word_count}
use Rattle.scan.specs.Inner.Events.{note, note_text, of_test, of_row, of_trigger, of_criterion}
use Rattle.grammar.proofs.Better.{better_none, better_assoc}
use Rattle.scan.proofs.Passing.{told_many, told_into, told_or, told_option, told_twice, told_number, told_string, ways, gap_open, joined, merged}
use Rattle.scan.proofs.Elements.{the_criterion, the_trigger, the_row, the_header, the_description, the_server}
use Rattle.scan.specs.Inner.Rests.{pass, told, Ahead, at_end, tests, rest, rests, top, in_criterion, after_priority, after_trigger, after_server, after_part, in_trigger, after_cnf, after_row, in_row, after_negated, after_group, after_test, after_type, after_types, in_header, after_header, after_content, in_description, after_line, after_line_content, in_server, after_name, after_handling, after_info, in_priority, in_cnf, in_negated, in_group, in_case, in_type, in_type_2, in_handling, in_part, in_uri_text, in_method_text, in_header_text, in_content_text, in_line_text, in_line_content_text, in_server_text, in_info_text}

-- the same at a text
at : {f g : List ℕ → Ahead} (s : List ℕ) → f ≡ g → f s ≡ g s
at s e = ap (λ (f : List ℕ → Ahead). f s) e

-- a point between tags
abbrev pub Gap : ℕ → Type 0
Gap q = (s : List ℕ) → rest q s ≡ pass (many (one blank)) (choices rest (first_word q) (word_count q)) s

at_top : (s : List ℕ) → top s ≡ pass gap (merged (expect (open_tag "InitialFilterCriteria") in_criterion) (at_end ∷ [])) s
unfolding top solid sound
at_top s = told_many initial_filter_criteria tt tt of_criterion (pass gap at_end) s ∙ ap (λ (x : Ahead). better x (pass gap at_end s)) (at s the_criterion) ∙ ways (expect (open_tag "InitialFilterCriteria") in_criterion) (at_end ∷ []) s

at_in_criterion : (s : List ℕ) → in_criterion s ≡ pass gap (merged (expect (open_tag "Priority") in_priority) []) s
unfolding in_criterion in_priority
at_in_criterion s = at s (told_number "Priority" 25 after_priority) ∙ ways (expect (open_tag "Priority") in_priority) [] s

pub point_in_criterion : Gap 1
unfolding choices word_at firsts starts letters nexts rest rests
point_in_criterion s = gap_open in_criterion (merged (expect (open_tag "Priority") in_priority) []) at_in_criterion s

at_after_priority : (s : List ℕ) → after_priority s ≡ pass gap (merged (expect (open_tag "TriggerPoint") in_trigger) ((expect (open_tag "ApplicationServer") in_server) ∷ [])) s
unfolding after_priority after_trigger
at_after_priority s = told_option trigger_point of_trigger after_trigger s ∙ ap₂ better (at s (the_trigger)) (at s (the_server)) ∙ ways (expect (open_tag "TriggerPoint") in_trigger) ((expect (open_tag "ApplicationServer") in_server) ∷ []) s

pub point_after_priority : Gap 2
unfolding choices word_at firsts starts letters nexts rest rests
point_after_priority s = gap_open after_priority (merged (expect (open_tag "TriggerPoint") in_trigger) ((expect (open_tag "ApplicationServer") in_server) ∷ [])) at_after_priority s

at_after_trigger : (s : List ℕ) → after_trigger s ≡ pass gap (merged (expect (open_tag "ApplicationServer") in_server) []) s
unfolding after_trigger
at_after_trigger s = at s (the_server) ∙ ways (expect (open_tag "ApplicationServer") in_server) [] s

pub point_after_trigger : Gap 3
unfolding choices word_at firsts starts letters nexts rest rests
point_after_trigger s = gap_open after_trigger (merged (expect (open_tag "ApplicationServer") in_server) []) at_after_trigger s

at_after_server : (s : List ℕ) → after_server s ≡ pass gap (merged (expect (open_tag "ProfilePartIndicator") in_part) ((expect (end_tag "InitialFilterCriteria") top) ∷ [])) s
unfolding after_server in_part after_part
at_after_server s = told_option (number "ProfilePartIndicator") (note 33) after_part s ∙ ap (λ (x : Ahead). better x (after_part s)) (at s (told_number "ProfilePartIndicator" 33 after_part)) ∙ ways (expect (open_tag "ProfilePartIndicator") in_part) ((expect (end_tag "InitialFilterCriteria") top) ∷ []) s

pub point_after_server : Gap 4
unfolding choices word_at firsts starts letters nexts rest rests
point_after_server s = gap_open after_server (merged (expect (open_tag "ProfilePartIndicator") in_part) ((expect (end_tag "InitialFilterCriteria") top) ∷ [])) at_after_server s

at_after_part : (s : List ℕ) → after_part s ≡ pass gap (merged (expect (end_tag "InitialFilterCriteria") top) []) s
unfolding after_part
at_after_part s = ways (expect (end_tag "InitialFilterCriteria") top) [] s

pub point_after_part : Gap 5
unfolding choices word_at firsts starts letters nexts rest rests
point_after_part s = gap_open after_part (merged (expect (end_tag "InitialFilterCriteria") top) []) at_after_part s

at_in_trigger : (s : List ℕ) → in_trigger s ≡ pass gap (merged (expect (open_tag "ConditionTypeCNF") in_cnf) []) s
unfolding in_trigger in_cnf
at_in_trigger s = at s (told_number "ConditionTypeCNF" 26 after_cnf) ∙ ways (expect (open_tag "ConditionTypeCNF") in_cnf) [] s

pub point_in_trigger : Gap 6
unfolding choices word_at firsts starts letters nexts rest rests
point_in_trigger s = gap_open in_trigger (merged (expect (open_tag "ConditionTypeCNF") in_cnf) []) at_in_trigger s

at_after_cnf : (s : List ℕ) → after_cnf s ≡ pass gap (merged (expect (open_tag "SPT") in_row) []) s
unfolding after_cnf
at_after_cnf s = at s (the_row) ∙ ways (expect (open_tag "SPT") in_row) [] s

pub point_after_cnf : Gap 7
unfolding choices word_at firsts starts letters nexts rest rests
point_after_cnf s = gap_open after_cnf (merged (expect (open_tag "SPT") in_row) []) at_after_cnf s

at_after_row : (s : List ℕ) → after_row s ≡ pass gap (merged (expect (open_tag "SPT") in_row) ((expect (end_tag "TriggerPoint") after_trigger) ∷ [])) s
unfolding after_row solid sound
at_after_row s = told_many service_point tt tt of_row (pass gap (expect (end_tag "TriggerPoint") after_trigger)) s ∙ ap (λ (x : Ahead). better x (pass gap (expect (end_tag "TriggerPoint") after_trigger) s)) (at s the_row) ∙ ways (expect (open_tag "SPT") in_row) ((expect (end_tag "TriggerPoint") after_trigger) ∷ []) s

pub point_after_row : Gap 8
unfolding choices word_at firsts starts letters nexts rest rests
point_after_row s = gap_open after_row (merged (expect (open_tag "SPT") in_row) ((expect (end_tag "TriggerPoint") after_trigger) ∷ [])) at_after_row s

at_in_row : (s : List ℕ) → in_row s ≡ pass gap (merged (expect (open_tag "ConditionNegated") in_negated) ((expect (open_tag "Group") in_group) ∷ [])) s
unfolding in_row in_negated in_group after_negated
at_in_row s = told_option (number "ConditionNegated") (note 27) after_negated s ∙ ap₂ better (at s (told_number "ConditionNegated" 27 after_negated)) (at s (told_number "Group" 28 after_group)) ∙ ways (expect (open_tag "ConditionNegated") in_negated) ((expect (open_tag "Group") in_group) ∷ []) s

pub point_in_row : Gap 9
unfolding choices word_at firsts starts letters nexts rest rests
point_in_row s = gap_open in_row (merged (expect (open_tag "ConditionNegated") in_negated) ((expect (open_tag "Group") in_group) ∷ [])) at_in_row s

at_after_negated : (s : List ℕ) → after_negated s ≡ pass gap (merged (expect (open_tag "Group") in_group) []) s
unfolding after_negated in_group
at_after_negated s = at s (told_number "Group" 28 after_group) ∙ ways (expect (open_tag "Group") in_group) [] s

pub point_after_negated : Gap 10
unfolding choices word_at firsts starts letters nexts rest rests
point_after_negated s = gap_open after_negated (merged (expect (open_tag "Group") in_group) []) at_after_negated s

-- "Choice of"
five : (s : List ℕ) → told tests of_test after_test s ≡ joined (expect (open_tag "RequestURI") in_uri_text) (expect (open_tag "Method") in_method_text ∷ expect (open_tag "SIPHeader") in_header ∷ expect (open_tag "SessionCase") in_case ∷ expect (open_tag "SessionDescription") in_description ∷ []) s
unfolding in_uri_text in_method_text in_case
five s =
    told_or _ _ of_test after_test s
    ∙ ap₂ better (at s (told_into request_uri (string "RequestURI") of_test after_test ∙ told_string "RequestURI" 34 after_test))
    (told_or _ _ of_test after_test s
    ∙ ap₂ better (at s (told_into method (string "Method") of_test after_test ∙ told_string "Method" 35 after_test))
    (told_or _ _ of_test after_test s
    ∙ ap₂ better (at s the_header)
    (told_or _ _ of_test after_test s
    ∙ ap₂ better (at s (told_into session_case (number "SessionCase") of_test after_test ∙ told_number "SessionCase" 29 after_test)) (at s the_description))))

at_after_group : (s : List ℕ) → after_group s ≡ pass gap (merged (expect (open_tag "Group") in_group) ((expect (open_tag "RequestURI") in_uri_text) ∷ (expect (open_tag "Method") in_method_text) ∷ (expect (open_tag "SIPHeader") in_header) ∷ (expect (open_tag "SessionCase") in_case) ∷ (expect (open_tag "SessionDescription") in_description) ∷ [])) s
unfolding after_group in_group in_uri_text in_method_text in_case solid sound
at_after_group s = told_many (number "Group") tt tt (note 28) (told tests of_test after_test) s ∙ ap₂ better (at s (told_number "Group" 28 after_group)) (five s) ∙ ways (expect (open_tag "Group") in_group) ((expect (open_tag "RequestURI") in_uri_text) ∷ (expect (open_tag "Method") in_method_text) ∷ (expect (open_tag "SIPHeader") in_header) ∷ (expect (open_tag "SessionCase") in_case) ∷ (expect (open_tag "SessionDescription") in_description) ∷ []) s

pub point_after_group : Gap 11
unfolding choices word_at firsts starts letters nexts rest rests
point_after_group s = gap_open after_group (merged (expect (open_tag "Group") in_group) ((expect (open_tag "RequestURI") in_uri_text) ∷ (expect (open_tag "Method") in_method_text) ∷ (expect (open_tag "SIPHeader") in_header) ∷ (expect (open_tag "SessionCase") in_case) ∷ (expect (open_tag "SessionDescription") in_description) ∷ [])) at_after_group s

at_after_test : (s : List ℕ) → after_test s ≡ pass gap (merged (expect (open_tag "RegistrationType") in_type) ((expect (end_tag "SPT") after_row) ∷ [])) s
unfolding after_test in_type after_types after_type
at_after_test s = told_twice (number "RegistrationType") (note 30) (note 31) after_types s ∙ ap (λ (x : Ahead). better x (after_types s)) (at s (told_number "RegistrationType" 30 after_type)) ∙ ways (expect (open_tag "RegistrationType") in_type) ((expect (end_tag "SPT") after_row) ∷ []) s

pub point_after_test : Gap 12
unfolding choices word_at firsts starts letters nexts rest rests
point_after_test s = gap_open after_test (merged (expect (open_tag "RegistrationType") in_type) ((expect (end_tag "SPT") after_row) ∷ [])) at_after_test s

at_after_type : (s : List ℕ) → after_type s ≡ pass gap (merged (expect (open_tag "RegistrationType") in_type_2) ((expect (end_tag "SPT") after_row) ∷ [])) s
unfolding after_type in_type_2 after_types
at_after_type s = told_option (number "RegistrationType") (note 31) after_types s ∙ ap (λ (x : Ahead). better x (after_types s)) (at s (told_number "RegistrationType" 31 after_types)) ∙ ways (expect (open_tag "RegistrationType") in_type_2) ((expect (end_tag "SPT") after_row) ∷ []) s

pub point_after_type : Gap 13
unfolding choices word_at firsts starts letters nexts rest rests
point_after_type s = gap_open after_type (merged (expect (open_tag "RegistrationType") in_type_2) ((expect (end_tag "SPT") after_row) ∷ [])) at_after_type s

at_after_types : (s : List ℕ) → after_types s ≡ pass gap (merged (expect (end_tag "SPT") after_row) []) s
unfolding after_types
at_after_types s = ways (expect (end_tag "SPT") after_row) [] s

pub point_after_types : Gap 14
unfolding choices word_at firsts starts letters nexts rest rests
point_after_types s = gap_open after_types (merged (expect (end_tag "SPT") after_row) []) at_after_types s

at_in_header : (s : List ℕ) → in_header s ≡ pass gap (merged (expect (open_tag "Header") in_header_text) []) s
unfolding in_header in_header_text
at_in_header s = at s (told_string "Header" 36 after_header) ∙ ways (expect (open_tag "Header") in_header_text) [] s

pub point_in_header : Gap 15
unfolding choices word_at firsts starts letters nexts rest rests
point_in_header s = gap_open in_header (merged (expect (open_tag "Header") in_header_text) []) at_in_header s

at_after_header : (s : List ℕ) → after_header s ≡ pass gap (merged (expect (open_tag "Content") in_content_text) ((expect (end_tag "SIPHeader") after_test) ∷ [])) s
unfolding after_header in_content_text after_content
at_after_header s = told_option (string "Content") (note_text 37) after_content s ∙ ap (λ (x : Ahead). better x (after_content s)) (at s (told_string "Content" 37 after_content)) ∙ ways (expect (open_tag "Content") in_content_text) ((expect (end_tag "SIPHeader") after_test) ∷ []) s

pub point_after_header : Gap 16
unfolding choices word_at firsts starts letters nexts rest rests
point_after_header s = gap_open after_header (merged (expect (open_tag "Content") in_content_text) ((expect (end_tag "SIPHeader") after_test) ∷ [])) at_after_header s

at_after_content : (s : List ℕ) → after_content s ≡ pass gap (merged (expect (end_tag "SIPHeader") after_test) []) s
unfolding after_content
at_after_content s = ways (expect (end_tag "SIPHeader") after_test) [] s

pub point_after_content : Gap 17
unfolding choices word_at firsts starts letters nexts rest rests
point_after_content s = gap_open after_content (merged (expect (end_tag "SIPHeader") after_test) []) at_after_content s

at_in_description : (s : List ℕ) → in_description s ≡ pass gap (merged (expect (open_tag "Line") in_line_text) []) s
unfolding in_description in_line_text
at_in_description s = at s (told_string "Line" 38 after_line) ∙ ways (expect (open_tag "Line") in_line_text) [] s

pub point_in_description : Gap 18
unfolding choices word_at firsts starts letters nexts rest rests
point_in_description s = gap_open in_description (merged (expect (open_tag "Line") in_line_text) []) at_in_description s

at_after_line : (s : List ℕ) → after_line s ≡ pass gap (merged (expect (open_tag "Content") in_line_content_text) ((expect (end_tag "SessionDescription") after_test) ∷ [])) s
unfolding after_line in_line_content_text after_line_content
at_after_line s = told_option (string "Content") (note_text 39) after_line_content s ∙ ap (λ (x : Ahead). better x (after_line_content s)) (at s (told_string "Content" 39 after_line_content)) ∙ ways (expect (open_tag "Content") in_line_content_text) ((expect (end_tag "SessionDescription") after_test) ∷ []) s

pub point_after_line : Gap 19
unfolding choices word_at firsts starts letters nexts rest rests
point_after_line s = gap_open after_line (merged (expect (open_tag "Content") in_line_content_text) ((expect (end_tag "SessionDescription") after_test) ∷ [])) at_after_line s

at_after_line_content : (s : List ℕ) → after_line_content s ≡ pass gap (merged (expect (end_tag "SessionDescription") after_test) []) s
unfolding after_line_content
at_after_line_content s = ways (expect (end_tag "SessionDescription") after_test) [] s

pub point_after_line_content : Gap 20
unfolding choices word_at firsts starts letters nexts rest rests
point_after_line_content s = gap_open after_line_content (merged (expect (end_tag "SessionDescription") after_test) []) at_after_line_content s

at_in_server : (s : List ℕ) → in_server s ≡ pass gap (merged (expect (open_tag "ServerName") in_server_text) []) s
unfolding in_server in_server_text
at_in_server s = at s (told_string "ServerName" 40 after_name) ∙ ways (expect (open_tag "ServerName") in_server_text) [] s

pub point_in_server : Gap 21
unfolding choices word_at firsts starts letters nexts rest rests
point_in_server s = gap_open in_server (merged (expect (open_tag "ServerName") in_server_text) []) at_in_server s

at_after_name : (s : List ℕ) → after_name s ≡ pass gap (merged (expect (open_tag "DefaultHandling") in_handling) ((expect (open_tag "ServiceInfo") in_info_text) ∷ (expect (end_tag "ApplicationServer") after_server) ∷ [])) s
unfolding after_name in_handling in_info_text after_handling after_info
at_after_name s = told_option (number "DefaultHandling") (note 32) after_handling s ∙ ap₂ better (at s (told_number "DefaultHandling" 32 after_handling)) (told_option (string "ServiceInfo") (note_text 41) after_info s ∙ ap (λ (x : Ahead). better x (after_info s)) (at s (told_string "ServiceInfo" 41 after_info))) ∙ ways (expect (open_tag "DefaultHandling") in_handling) ((expect (open_tag "ServiceInfo") in_info_text) ∷ (expect (end_tag "ApplicationServer") after_server) ∷ []) s

pub point_after_name : Gap 22
unfolding choices word_at firsts starts letters nexts rest rests
point_after_name s = gap_open after_name (merged (expect (open_tag "DefaultHandling") in_handling) ((expect (open_tag "ServiceInfo") in_info_text) ∷ (expect (end_tag "ApplicationServer") after_server) ∷ [])) at_after_name s

at_after_handling : (s : List ℕ) → after_handling s ≡ pass gap (merged (expect (open_tag "ServiceInfo") in_info_text) ((expect (end_tag "ApplicationServer") after_server) ∷ [])) s
unfolding after_handling in_info_text after_info
at_after_handling s = told_option (string "ServiceInfo") (note_text 41) after_info s ∙ ap (λ (x : Ahead). better x (after_info s)) (at s (told_string "ServiceInfo" 41 after_info)) ∙ ways (expect (open_tag "ServiceInfo") in_info_text) ((expect (end_tag "ApplicationServer") after_server) ∷ []) s

pub point_after_handling : Gap 23
unfolding choices word_at firsts starts letters nexts rest rests
point_after_handling s = gap_open after_handling (merged (expect (open_tag "ServiceInfo") in_info_text) ((expect (end_tag "ApplicationServer") after_server) ∷ [])) at_after_handling s

at_after_info : (s : List ℕ) → after_info s ≡ pass gap (merged (expect (end_tag "ApplicationServer") after_server) []) s
unfolding after_info
at_after_info s = ways (expect (end_tag "ApplicationServer") after_server) [] s

pub point_after_info : Gap 24
unfolding choices word_at firsts starts letters nexts rest rests
point_after_info s = gap_open after_info (merged (expect (end_tag "ApplicationServer") after_server) []) at_after_info s

-- the top: a criterion, or the end
pub point_top : (s : List ℕ) → rest 0 s ≡ pass (many (one blank)) (λ u. better (choices rest (first_word 0) (word_count 0) u) (at_end u)) s
unfolding choices word_at firsts starts letters nexts rest rests
point_top s =
    gap_open top (merged (expect (open_tag "InitialFilterCriteria") in_criterion) (at_end ∷ [])) at_top s
    ∙ ap (λ (f : List ℕ → Ahead). pass (many (one blank)) f s) (fun_ext (λ u. top_ways (expect (text "<!--") (up_to (text "-->") [] top) u) (expect (open_tag "InitialFilterCriteria") in_criterion u) (at_end u)))
  where
    top_ways : (a b c : Ahead) → better a (better b (better c (wrong 0))) ≡ better (better a (better b (wrong 0))) c
    top_ways a b c =
        ap (λ (x : Ahead). better a (better b x)) (better_none c)
        ∙ sym (better_assoc a b c)
        ∙ ap (λ (x : Ahead). better (better a x) c) (sym (better_none b))

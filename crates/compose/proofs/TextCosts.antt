-- How long an operator's text at least is, by the criteria that it says: the tags of an element are longer than what its image adds.
use mathlib.Core.Path.{refl}
use mathlib.Core.Option.{Option, some}
use Prim.Native.Nat.{ℕ, ◌+◌, ◌≤◌}
use Prim.Native.String.{String}
use native.Mathlib.Omega.{arith}
use mathlib.Core.List.{List, [], ◌∷◌}
use lib.ListN.{length}
use Rattle.octets.specs.Lists.{total, text}
use Rattle.octets.proofs.Kept.{total_const}
use Rattle.profile.specs.Written as written
use Rattle.grammar.specs.Grammar.{Grammar, word, one, span, ◌then◌, ◌or◌, option, many, into}
use Rattle.grammar.proofs.Costs.{Costs, costs_less, costs_nothing, costs_word, costs_one, costs_then, costs_or, costs_option, costs_many, costs_into}
use Rattle.scan.specs.Criteria.{Test, request_uri, method, header, session_case, description, Row, Trigger, Server, Criterion}
use Rattle.scan.specs.Table.{◌skip◌, ◌close◌, gap, open_tag, end_tag, simple, compound, digit, decimal, number, plain, entity, character, string, one_or_more, at_most_two, sip_header, session_description, service_point, trigger_point, application_server, initial_filter_criteria, profile_text}
use Rattle.compose.specs.Composing.{or_else, named_by}

-- ---- what the image adds

-- a string behind its length
abbrev pub text_cost : List ℕ → ℕ
text_cost t = length (written.string t)

-- one that may be absent
abbrev maybe_cost : Option (List ℕ) → ℕ
maybe_cost o = total text_cost (or_else [] (λ t. t ∷ []) o)

-- the strings that a test names
abbrev pub test_cost : Test → ℕ
test_cost t = total text_cost (named_by t)

-- a row's memberships and strings, and the row
abbrev in_row : Row → ℕ
in_row r = total (λ (g : ℕ). 4) r.groups + test_cost r.test

abbrev pub row_cost : Row → ℕ
row_cost r = 7 + in_row r

-- the rows of a trigger that may be absent
abbrev rows_cost : Option Trigger → ℕ
rows_cost o = total row_cost (or_else [] (λ (t : Trigger). t.rows) o)

-- the strings of a server
abbrev server_cost : Server → ℕ
server_cost v = text_cost v.name + maybe_cost v.info

-- a criterion's rows and strings, and the criterion
abbrev in_criterion : Criterion → ℕ
in_criterion c = rows_cost c.trigger + server_cost c.server

abbrev pub criterion_cost : Criterion → ℕ
criterion_cost c = 15 + in_criterion c

-- with 9 bytes to spare: as many as the image of no criteria has
abbrev pub whole_cost : Criterion → ℕ
whole_cost c = 9 + criterion_cost c

-- ---- elements

-- of two that stand one behind the other, one or both
module _ {A B : Type 0} (g : Grammar A) (h : Grammar B) where
  costs_front : (f : A → ℕ) → Costs g f → Costs (g then h) (λ p. f p.0)
  costs_front f c = costs_less (g then h) (λ p. f p.0) (λ p. f p.0 + 0) (λ p. omega arith) (costs_then g h f (λ b. 0) c (costs_nothing h))

  costs_behind : (f : B → ℕ) → Costs h f → Costs (g then h) (λ p. f p.1)
  costs_behind f d = costs_less (g then h) (λ p. f p.1) (λ p. 0 + f p.1) (λ p. omega arith) (costs_then g h (λ a. 0) f (costs_nothing g) d)

  costs_past : (f : B → ℕ) → Costs h f → Costs (g skip h) f
  costs_past f d = costs_into (g then h) (λ (p : A × B). p.1) f (costs_behind f d)

  costs_skip : (n : ℕ) (f : B → ℕ) → Costs g (λ a. n) → Costs h f → Costs (g skip h) (λ b. n + f b)
  costs_skip n f c d = costs_into (g then h) (λ (p : A × B). p.1) (λ b. n + f b) (costs_then g h (λ a. n) f c d)

  costs_close : (f : A → ℕ) (n : ℕ) → Costs g f → Costs h (λ b. n) → Costs (g close h) (λ a. f a + n)
  costs_close f n c d = costs_into (g then h) (λ (p : A × B). p.0) (λ a. f a + n) (costs_then g h f (λ b. n) c d)

module _ {A : Type 0} (name : String) (g : Grammar A) (f : A → ℕ) (c : Costs g f) where
  -- between two tags
  tagged : {B : Type 0} (e : Grammar B) → Costs e (λ b. length (end_tag name))
      → Costs (gap skip (word (open_tag name) skip (g close e))) (λ a. length (open_tag name) + (f a + length (end_tag name)))
  tagged e d =
      costs_past gap (word (open_tag name) skip (g close e)) (λ a. length (open_tag name) + (f a + length (end_tag name)))
      (costs_skip (word (open_tag name)) (g close e) (length (open_tag name)) (λ a. f a + length (end_tag name))
      (costs_word (open_tag name)) (costs_close g e f (length (end_tag name)) c d))

  -- of which the tags are n bytes or more
  module _ (n : ℕ) (h : n ≤ length (open_tag name) + length (end_tag name)) where
    costs_simple : Costs (simple name g) (λ a. n + f a)
    costs_simple =
        costs_less (simple name g) (λ a. n + f a) (λ a. length (open_tag name) + (f a + length (end_tag name))) (λ a. omega (arith, h))
        (tagged (word (end_tag name)) (costs_word (end_tag name)))

    costs_compound : Costs (compound name g) (λ a. n + f a)
    costs_compound =
        costs_less (compound name g) (λ a. n + f a) (λ a. length (open_tag name) + (f a + length (end_tag name))) (λ a. omega (arith, h))
        (tagged (gap skip word (end_tag name)) (costs_past gap (word (end_tag name)) (λ u. length (end_tag name)) (costs_word (end_tag name))))

  costs_within : Costs (compound name g) f
  costs_within = costs_less (compound name g) f (λ a. 0 + f a) (λ a. omega arith) (costs_compound 0 (omega arith))

costs_one_or_more : {A : Type 0} (g : Grammar A) (f : A → ℕ) → Costs g f → Costs (one_or_more g) (total f)
costs_one_or_more {A} g f c = costs_into (g then many g) (λ (p : A × List A). p.0 ∷ p.1) (total f) (costs_then g (many g) f (total f) c (costs_many g f c))

-- ---- values

costs_entity : (name : String) (b : ℕ) → 1 ≤ length (text name) → Costs (entity name b) (λ a. 1)
costs_entity name b h =
    costs_into (word (text name)) (λ u. b) (λ a. 1) (costs_less (word (text name)) (λ u. 1) (λ u. length (text name)) (λ u. h) (costs_word (text name)))

costs_character : Costs character (λ a. 1)
costs_character =
    costs_or _ _ (λ a. 1) (costs_one plain)
    (costs_or _ _ (λ a. 1) (costs_entity "&lt;" 60 (omega arith))
    (costs_or _ _ (λ a. 1) (costs_entity "&gt;" 62 (omega arith))
    (costs_or _ _ (λ a. 1) (costs_entity "&amp;" 38 (omega arith))
    (costs_or _ _ (λ a. 1) (costs_entity "&quot;" 34 (omega arith)) (costs_entity "&apos;" 39 (omega arith))))))

costs_string : (name : String) → Costs (string name) text_cost
costs_string name =
    costs_less (string name) text_cost (λ t. 2 + total (λ (b : ℕ). 1) t) (λ t. omega (arith, total_const 1 t))
    (costs_simple name (many character) (total (λ b. 1)) (costs_many character (λ b. 1) costs_character) 2 (omega arith))

costs_number : (name : String) → Costs (number name) (λ n. 4)
costs_number name =
    costs_simple name _ (λ n. 1)
    (costs_into (one digit then many (one digit)) (λ (p : ℕ × List ℕ). decimal 0 (p.0 ∷ p.1)) (λ n. 1)
    (costs_then (one digit) (many (one digit)) (λ b. 1) (λ l. 0) (costs_one digit) (costs_nothing (many (one digit))))) 3 (omega arith)

-- the only string of a test
only_string : (name : String) → Costs (string name) (λ t. total text_cost (t ∷ []))
only_string name = costs_less (string name) (λ t. text_cost t + 0) text_cost (λ t. omega arith) (costs_string name)

costs_maybe : (name : String) → Costs (option (string name)) maybe_cost
costs_maybe name = costs_option (string name) maybe_cost refl (only_string name)

-- ---- table E.2

-- a string, and "Content"
costs_pair : (name first : String) (make : List ℕ → Option (List ℕ) → Test) → ((t : List ℕ) (o : Option (List ℕ)) → test_cost (make t o) ≤ text_cost t + maybe_cost o)
    → Costs (compound name (into (λ (p : List ℕ × Option (List ℕ)). make p.0 p.1) (string first then option (string "Content")))) test_cost
costs_pair name first make e =
    costs_within name _ test_cost
    (costs_into _ (λ (p : List ℕ × Option (List ℕ)). make p.0 p.1) test_cost
    (costs_less _ (λ p. test_cost (make p.0 p.1)) (λ p. text_cost p.0 + maybe_cost p.1) (λ p. e p.0 p.1)
    (costs_then (string first) (option (string "Content")) text_cost maybe_cost (costs_string first) (costs_maybe "Content"))))

costs_header : Costs sip_header test_cost
costs_header = costs_pair "SIPHeader" "Header" header (λ t o. omega arith)

costs_description : Costs session_description test_cost
costs_description = costs_pair "SessionDescription" "Line" description (λ t o. omega arith)

-- "Choice of"
costs_test : Costs (into request_uri (string "RequestURI") or into method (string "Method") or sip_header or into session_case (number "SessionCase") or session_description) test_cost
costs_test =
    costs_or _ _ test_cost (costs_into (string "RequestURI") request_uri test_cost (only_string "RequestURI"))
    (costs_or _ _ test_cost (costs_into (string "Method") method test_cost (only_string "Method"))
    (costs_or _ _ test_cost costs_header
    (costs_or _ _ test_cost (costs_into (number "SessionCase") session_case test_cost (costs_nothing (number "SessionCase")))
    costs_description)))

costs_row : Costs service_point row_cost
costs_row =
    costs_compound "SPT" _ in_row
    (costs_into _ (λ (p : Option ℕ × (List ℕ × (Test × List ℕ))). record { negated = p.0; groups = p.1.0; test = p.1.1.0; types = p.1.1.1 }) in_row
    (costs_behind (option (number "ConditionNegated")) _ (λ q. total (λ (g : ℕ). 4) q.0 + test_cost q.1.0)
    (costs_then (one_or_more (number "Group")) _ (total (λ (g : ℕ). 4)) (λ q. test_cost q.0) (costs_one_or_more (number "Group") (λ g. 4) (costs_number "Group"))
    (costs_front _ (at_most_two (number "RegistrationType")) test_cost costs_test)))) 7 (omega arith)

costs_trigger : Costs trigger_point (λ t. rows_cost (some t))
costs_trigger =
    costs_within "TriggerPoint" _ (λ t. rows_cost (some t))
    (costs_into _ (λ (p : ℕ × List Row). record { cnf = p.0; rows = p.1 }) (λ t. rows_cost (some t))
    (costs_behind (number "ConditionTypeCNF") (one_or_more service_point) (total row_cost) (costs_one_or_more service_point row_cost costs_row)))

costs_server : Costs application_server server_cost
costs_server =
    costs_within "ApplicationServer" _ server_cost
    (costs_into _ (λ (p : List ℕ × (Option ℕ × Option (List ℕ))). record { name = p.0; handling = p.1.0; info = p.1.1 }) server_cost
    (costs_then (string "ServerName") _ text_cost (λ q. maybe_cost q.1) (costs_string "ServerName")
    (costs_behind (option (number "DefaultHandling")) (option (string "ServiceInfo")) maybe_cost (costs_maybe "ServiceInfo"))))

costs_criterion : Costs initial_filter_criteria whole_cost
costs_criterion =
    costs_less initial_filter_criteria whole_cost (λ c. 24 + in_criterion c) (λ c. omega arith)
    (costs_compound "InitialFilterCriteria" _ in_criterion
    (costs_into _ (λ (p : ℕ × (Option Trigger × (Server × Option ℕ))). record { priority = p.0; trigger = p.1.0; server = p.1.1.0; part = p.1.1.1 }) in_criterion
    (costs_behind (number "Priority") _ (λ q. rows_cost q.0 + server_cost q.1.0)
    (costs_then (option trigger_point) _ rows_cost (λ q. server_cost q.0) (costs_option trigger_point rows_cost refl costs_trigger)
    (costs_front application_server (option (number "ProfilePartIndicator")) server_cost costs_server)))) 24 (omega arith))

pub costs_text : Costs profile_text (total whole_cost)
unfolding profile_text
costs_text =
    costs_past (option (span (text "<?") (text "?>"))) (many initial_filter_criteria close gap) (total whole_cost)
    (costs_into (many initial_filter_criteria then gap) (λ (p : List Criterion × List (Unit {0})). p.0) (total whole_cost)
    (costs_front (many initial_filter_criteria) gap (total whole_cost) (costs_many initial_filter_criteria whole_cost costs_criterion)))

-- The texts that are read: table E.2 of source 002 from InitialFilterCriteria on, a line of the table for a line here, as change request 3
-- cuts it down.
use Rattle.std.specs.Prelude.{Bool, not, ◌||◌, ℕ, ◌+◌, ◌*◌, ◌-◌, List, [], ◌∷◌, ◌++◌, eqb}
use Rattle.std.proofs.Math.Option.{Option, none, some}
use Prim.Native.String.{String}
use Rattle.octets.specs.Lists.{text}
use Rattle.octets.specs.Bytes.{white, within}
use Rattle.grammar.specs.Grammar.{Grammar, word, one, span, ◌then◌, ◌or◌, option, many, into}
use Rattle.scan.specs.Criteria.{Test, request_uri, method, header, session_case, description, Row, Trigger, Server, Criterion}

infixr 30 ◌skip◌
infixr 30 ◌close◌
-- ---- what stands between and in the elements

-- the first is read and forgotten
abbrev pub ◌skip◌ : {A B : Type 0} → Grammar A → Grammar B → Grammar B
◌skip◌ {A} {B} g h = into (λ (p : A × B). p.1) (g then h)

-- the second is
abbrev pub ◌close◌ : {A B : Type 0} → Grammar A → Grammar B → Grammar A
◌close◌ {A} {B} g h = into (λ (p : A × B). p.0) (g then h)

-- SP, HTAB, CR or LF
abbrev pub blank : ℕ → Bool
blank b = white b || (eqb b 13 || eqb b 10)

-- "between elements blanks and comments, each to its first `-->`"
abbrev pub gap : Grammar (List (Unit {0}))
gap = many (into (λ b. tt) (one blank) or span (text "<!--") (text "-->"))

-- "bare tags (no attribute, blank or `<X/>`)"
abbrev pub open_tag : String → List ℕ
open_tag name = text "<" ++ (text name ++ text ">")

abbrev pub end_tag : String → List ℕ
end_tag name = text "</" ++ (text name ++ text ">")

-- an element that holds a value, and what may stand before it
abbrev pub simple : {A : Type 0} → String → Grammar A → Grammar A
simple name value = gap skip (word (open_tag name) skip (value close word (end_tag name)))

-- an element that holds elements: blanks and comments may stand before its end tag too
abbrev pub compound : {A : Type 0} → String → Grammar A → Grammar A
compound name elements = gap skip (word (open_tag name) skip (elements close (gap skip word (end_tag name))))

-- ---- values

abbrev pub digit : ℕ → Bool
digit b = within 48 57 b

-- what digits say, behind those that say n
abbrev pub decimal : ℕ → List ℕ → ℕ
decimal n [] = n
decimal n (d ∷ ds) = decimal (n * 10 + (d - 48)) ds

-- "Numbers and booleans are one or more decimal digits."
abbrev pub number : String → Grammar ℕ
number name = simple name (into (λ (p : ℕ × List ℕ). decimal 0 (p.0 ∷ p.1)) (one digit then many (one digit)))

-- "Text is any bytes but `<` and `&`, kept as it stands."
abbrev pub plain : ℕ → Bool
plain b = not (eqb b 60 || eqb b 38)

-- an entity stands for one byte
abbrev pub entity : String → ℕ → Grammar ℕ
entity name b = into (λ u. b) (word (text name))

-- "the five predefined entities": < > & " '
abbrev pub character : Grammar ℕ
character = one plain or entity "&lt;" 60 or entity "&gt;" 62 or entity "&amp;" 38 or entity "&quot;" 34 or entity "&apos;" 39

abbrev pub string : String → Grammar (List ℕ)
string name = simple name (many character)

-- "(1 to n)"
abbrev pub one_or_more : {A : Type 0} → Grammar A → Grammar (List A)
one_or_more {A} g = into (λ (p : A × List A). p.0 ∷ p.1) (g then many g)

abbrev pub listed : {A : Type 0} → Option (A × Option A) → List A
listed none = []
listed (some p) = p.0 ∷ elim p.1 [ none ↦ [] | some b ↦ b ∷ [] ]

-- "(0 to 2)"
abbrev pub at_most_two : {A : Type 0} → Grammar A → Grammar (List A)
at_most_two g = into listed (option (g then option g))

-- ---- table E.2

-- tHeader
abbrev pub sip_header : Grammar Test
sip_header =
    compound "SIPHeader"
    (into (λ (p : List ℕ × Option (List ℕ)). header p.0 p.1)
    (string "Header"
    then option (string "Content")
    ))

-- tSessionDescription
abbrev pub session_description : Grammar Test
session_description =
    compound "SessionDescription"
    (into (λ (p : List ℕ × Option (List ℕ)). description p.0 p.1)
    (string "Line"
    then option (string "Content")
    ))

-- tSePoTri
abbrev pub service_point : Grammar Row
service_point =
    compound "SPT"
    (into (λ (p : Option ℕ × (List ℕ × (Test × List ℕ))). record { negated = p.0; groups = p.1.0; test = p.1.1.0; types = p.1.1.1 })
    (option (number "ConditionNegated")
    then one_or_more (number "Group")
    then (into request_uri (string "RequestURI")
    or into method (string "Method")
    or sip_header
    or into session_case (number "SessionCase")
    or session_description)
    then at_most_two (number "RegistrationType")
    ))

-- tTrigger
abbrev pub trigger_point : Grammar Trigger
trigger_point =
    compound "TriggerPoint"
    (into (λ (p : ℕ × List Row). record { cnf = p.0; rows = p.1 })
    (number "ConditionTypeCNF"
    then one_or_more service_point
    ))

-- tApplicationServer
abbrev pub application_server : Grammar Server
application_server =
    compound "ApplicationServer"
    (into (λ (p : List ℕ × (Option ℕ × Option (List ℕ))). record { name = p.0; handling = p.1.0; info = p.1.1 })
    (string "ServerName"
    then option (number "DefaultHandling")
    then option (string "ServiceInfo")
    ))

-- tInitialFilterCriteria
abbrev pub initial_filter_criteria : Grammar Criterion
initial_filter_criteria =
    compound "InitialFilterCriteria"
    (into (λ (p : ℕ × (Option Trigger × (Server × Option ℕ))). record { priority = p.0; trigger = p.1.0; server = p.1.1.0; part = p.1.1.1 })
    (number "Priority"
    then option trigger_point
    then application_server
    then option (number "ProfilePartIndicator")
    ))

-- "one `<?` to its `?>` at byte 0", and "nothing but InitialFilterCriteria elements, none or more"
unfoldable pub profile_text : Grammar (List Criterion)
profile_text = option (span (text "<?") (text "?>")) skip (many initial_filter_criteria close gap)

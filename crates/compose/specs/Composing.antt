-- The edition 1 image of criteria (document 01, "Profile image"; change request 3).
use Rattle.std.specs.Prelude.{Bool, false, ℕ, suc, ◌+◌, ◌*◌, List, [], ◌∷◌, ◌++◌, map, length, take, ltb, eqb}
use Rattle.std.proofs.Math.Option.{Option, none, some}
use Rattle.octets.specs.Lists.{pick, some_of, same}
use Rattle.entries.specs.declared.Row.{Row}
use Rattle.entries.specs.declared.Trigger.{Trigger}
use Rattle.entries.specs.declared.Member.{Member}
use Rattle.entries.specs.declared.Criterion.{Criterion}
use Rattle.profile.specs.Written.{Entries, member_of, string, joined, written}
use Rattle.scan.specs.Criteria as xml

-- a value, or what stands for its absence
abbrev pub or_else : {A B : Type 0} → B → (A → B) → Option A → B
or_else b f none = b
or_else b f (some a) = f a

-- of each in turn
abbrev pub all_of : {A B : Type 0} → (A → List B) → List A → List B
all_of f [] = []
all_of f (a ∷ l) = f a ++ all_of f l

-- ---- strings

-- what a test names, Header before Content
abbrev pub named_by : xml.Test → List (List ℕ)
named_by (xml.request_uri u) = u ∷ []
named_by (xml.method m) = m ∷ []
named_by (xml.header h c) = h ∷ or_else [] (λ t. t ∷ []) c
named_by (xml.session_case n) = []
named_by (xml.description l c) = l ∷ or_else [] (λ t. t ∷ []) c

abbrev pub rows_of : xml.Criterion → List xml.Row
rows_of c = or_else [] (λ t. t.rows) c.trigger

-- the strings of a criterion in the order of the text
abbrev pub strings_of : xml.Criterion → List (List ℕ)
strings_of c = all_of (λ r. named_by r.test) (rows_of c) ++ (c.server.name ∷ or_else [] (λ t. t ∷ []) c.server.info)

-- "Equal strings are stored once, in order of first use": those of l that are not among the ones before
abbrev pub once_each : List (List ℕ) → List (List ℕ) → List (List ℕ)
once_each before [] = []
once_each before (t ∷ l) = pick (some_of (same t) before) (once_each before l) (t ∷ once_each (t ∷ before) l)

abbrev pub strings : List xml.Criterion → List (List ℕ)
strings cs = once_each [] (all_of strings_of cs)

-- the number of a string
abbrev pub index_of : List ℕ → List (List ℕ) → ℕ
index_of t [] = 0
index_of t (x ∷ l) = pick (same t x) 0 (suc (index_of t l))

-- "string index or 65535 for absent"
abbrev pub or_absent : List (List ℕ) → Option (List ℕ) → ℕ
or_absent strs o = or_else 65535 (λ t. index_of t strs) o

-- ---- trigger rows: "stored in order and not shared"

-- "kind (0 RequestURI, 1 Method, 2 SIPHeader, 3 SessionCase, 4 SessionDescription)", "first", "second"; "registration set" and "negated" are 0
-- where the text has none
abbrev pub test_numbers : List (List ℕ) → ℕ → ℕ → xml.Test → Row
test_numbers strs negated set (xml.request_uri u) = record { negated = negated; kind = 0; first = index_of u strs; second = 65535; set = set }
test_numbers strs negated set (xml.method m) = record { negated = negated; kind = 1; first = index_of m strs; second = 65535; set = set }
test_numbers strs negated set (xml.header h c) = record { negated = negated; kind = 2; first = index_of h strs; second = or_absent strs c; set = set }
test_numbers strs negated set (xml.session_case n) = record { negated = negated; kind = 3; first = n; second = 65535; set = set }
test_numbers strs negated set (xml.description l c) = record { negated = negated; kind = 4; first = index_of l strs; second = or_absent strs c; set = set }

-- "bit 0 initial, 1 re-registration, 2 de-registration"
abbrev pub set_of : List ℕ → ℕ
set_of types = pick (some_of (eqb 0) types) 1 0 + (pick (some_of (eqb 1) types) 2 0 + pick (some_of (eqb 2) types) 4 0)

abbrev pub row_numbers : List (List ℕ) → xml.Row → Row
row_numbers strs r = test_numbers strs (or_else 0 (λ n. n) r.negated) (set_of r.types) r.test

-- ---- memberships: "strictly rising by row and then group"

-- "a Group repeated in a row is stored once"
abbrev pub insert : ℕ → List ℕ → List ℕ
insert g [] = g ∷ []
insert g (x ∷ l) = pick (ltb g x) (g ∷ x ∷ l) (pick (eqb g x) (x ∷ l) (x ∷ insert g l))

-- each put in its place, one after the other
abbrev pub sorted_with : List ℕ → List ℕ → List ℕ
sorted_with l [] = l
sorted_with l (g ∷ gs) = sorted_with (insert g l) gs

-- of the rows from number r on
abbrev pub memberships : ℕ → List xml.Row → List Member
memberships r [] = []
memberships r (x ∷ rows) = map (member_of r) (sorted_with [] x.groups) ++ memberships (suc r) rows

-- ---- criteria

-- "form (0 DNF, 1 CNF, 2 no trigger); first row; row count"
abbrev pub trigger_numbers : ℕ → Option xml.Trigger → Trigger
trigger_numbers first none = record { form = 2; first = 0; count = 0 }
trigger_numbers first (some t) = record { form = t.cnf; first = first; count = length t.rows }

-- part and default handling 2, and information 65535, are "absent"
abbrev pub criterion_numbers : List (List ℕ) → ℕ → xml.Criterion → Criterion
criterion_numbers strs first c = record {
  priority = c.priority;
  part = or_else 2 (λ n. n) c.part;
  trigger = trigger_numbers first c.trigger;
  server = index_of c.server.name strs;
  handling = or_else 2 (λ n. n) c.server.handling;
  info = or_absent strs c.server.info;
}

-- the rows of each follow those of the one before
abbrev pub criteria_numbers : List (List ℕ) → ℕ → List xml.Criterion → List Criterion
criteria_numbers strs first [] = []
criteria_numbers strs first (c ∷ cs) = criterion_numbers strs first c ∷ criteria_numbers strs (first + length (rows_of c)) cs

-- ---- what document 01's sections hold

unfoldable pub entries : List xml.Criterion → Entries
entries cs =
    let strs : List (List ℕ) = strings cs in
    let rows : List xml.Row = all_of rows_of cs in
    record {
      strings = strs;
      rows = map (row_numbers strs) rows;
      members = memberships 0 rows;
      criteria = criteria_numbers strs 0 cs;
    }

-- ---- values without a place in their field

-- "A value that table E.1 lacks, a Priority above 4,294,967,295 or a Group above 65,535 counts as a 4 at its field": of the tests for such a
-- value, each with the field's place in its entry, the place of the first that holds
abbrev pub first_that : List (Bool × ℕ) → Option ℕ
first_that [] = none
first_that (p ∷ l) = pick p.0 (some p.1) (first_that l)

-- a value that stands there and is larger
abbrev pub above : ℕ → Option ℕ → Bool
above most o = or_else false (ltb most) o

abbrev pub case_of : xml.Test → Option ℕ
case_of (xml.request_uri u) = none
case_of (xml.method m) = none
case_of (xml.header h c) = none
case_of (xml.session_case n) = some n
case_of (xml.description l c) = none

-- negated; first; registration set
abbrev pub row_wrong : xml.Row → Option ℕ
row_wrong r = first_that ((above 1 r.negated, 0) ∷ (above 3 (case_of r.test), 2) ∷ (some_of (ltb 2) r.types, 6) ∷ [])

-- group
abbrev pub member_wrong : Member → Option ℕ
member_wrong m = first_that ((ltb 65535 m.group, 2) ∷ [])

abbrev pub cnf_of : Option xml.Trigger → Option ℕ
cnf_of none = none
cnf_of (some t) = some t.cnf

-- priority; profile part; form; default handling
abbrev pub criterion_wrong : xml.Criterion → Option ℕ
criterion_wrong c =
    first_that ((ltb 4294967295 c.priority, 0) ∷ (above 1 c.part, 4) ∷ (above 1 (cnf_of c.trigger), 5) ∷ (above 1 c.server.handling, 12) ∷ [])

-- in entries of so many bytes, the first of them at a place: the place of the first such value; the second where there is none
abbrev pub first_wrong : {A : Type 0} → ℕ → (A → Option ℕ) → ℕ → List A → Option ℕ → Option ℕ
first_wrong size wrong at [] beyond = beyond
first_wrong size wrong at (a ∷ l) beyond = or_else (first_wrong size wrong (at + size) l beyond) (λ n. some (at + n)) (wrong a)

-- the rows follow the edition, the strings and two counts; then come memberships and criteria, each after a count
unfoldable pub cut_place : List xml.Criterion → Option ℕ
cut_place cs =
    let rows : List xml.Row = all_of rows_of cs in
    let members : List Member = memberships 0 rows in
    let rows_at : ℕ = 1 + 2 + length (joined string (strings cs)) + 2 in
    let members_at : ℕ = rows_at + length rows * 7 + 2 in
    let criteria_at : ℕ = members_at + length members * 4 + 2 in
    first_wrong 7 row_wrong rows_at rows (first_wrong 4 member_wrong members_at members (first_wrong 15 criterion_wrong criteria_at cs none))

-- ---- the whole

-- all, or up to a place
abbrev pub cut_at : Option ℕ → List ℕ → List ℕ
cut_at none s = s
cut_at (some n) s = take n s

-- up to the first value that has no place: a reader meets the end there
unfoldable pub image : List xml.Criterion → List ℕ
unfolding entries cut_place written
image cs = cut_at (cut_place cs) (written (entries cs))

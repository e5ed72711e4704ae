-- An image is judged (document 01, "Profile image" and the places of "Refusal numbers"). The readings stand in the image's order,
-- one line a field, so that the first fault met is the one answered.
use Rattle.std.specs.Prelude.{Bool, true, not, ◌&&◌, ◌||◌, ℕ, suc, ◌+◌, List, [], ◌∷◌, length, leb, ltb, eqb}
use Rattle.std.proofs.Math.Option.{Option, none, some}
use Rattle.std.proofs.Math.ListN.{get_elem?}
use Rattle.octets.specs.Lists.{pick, only, some_of, empty}
use Rattle.octets.specs.Bytes.{token}
use Rattle.basic.specs.Pattern.{Pattern}
use Rattle.basic.specs.Reading.{read_pattern}
use Rattle.profile.specs.Reader.{Got, got, fault, Reader, ◌>>=◌, give, unless, here, integer, field, plain, entries}
use Rattle.profile.specs.Image.{Stored, Test, request_uri, method, header, session_case, description, Row, Member, Criterion, Profile, Judged, accepted, refused}

-- ---- strings

-- "2-byte length (0..1,024), bytes"
abbrev pub string : List Stored → Reader Stored
string before = do
  n ← field 2 (λ n. leb n 1024)
  at ← here
  b ← plain n
  give (record { start = at; bytes = b })

-- what there is, or a fault
abbrev pub from_option : {A : Type 0} → Option A → ℕ → ℕ → Reader A
from_option none n place = λ s at. fault n place
from_option (some a) n place = give a

-- string i by its use: number 4 outside the table, number 5 "at the field that names the string"
abbrev pub named : {A : Type 0} → List Stored → (Stored → Option A) → ℕ → ℕ → Reader A
named strings as_used i place = do
  x ← from_option (get_elem? strings i) 4 place
  from_option (as_used x) 5 place

-- a two-byte field that names a string
abbrev pub naming : {A : Type 0} → List Stored → (Stored → Option A) → Reader A
naming strings as_used = do
  place ← here
  i ← integer 2
  named strings as_used i place

-- the same where "65535 [stands] for absent"
abbrev pub naming_or_absent : {A : Type 0} → List Stored → (Stored → Option A) → Reader (Option A)
naming_or_absent strings as_used = do
  place ← here
  i ← integer 2
  pick (eqb i 65535) (give none) (do
    a ← named strings as_used i place
    give (some a))

-- "Strings used by kinds 2 and 4 are patterns"
abbrev pub as_pattern : Stored → Option Pattern
as_pattern x = read_pattern x.bytes

-- "a Method is a nonempty token"
abbrev pub as_method : Stored → Option (List ℕ)
as_method x = pick (token x.bytes) (some x.bytes) none

-- "a RequestURI and a server are nonempty"
abbrev pub as_uri : Stored → Option (List ℕ)
as_uri x = pick (empty x.bytes) none (some x.bytes)

-- a server
abbrev pub as_server : Stored → Option Stored
as_server x = pick (empty x.bytes) none (some x)

-- service information: any bytes
abbrev pub as_information : Stored → Option Stored
as_information x = some x

-- ---- trigger rows

-- "second .. always 65535 for kinds 0, 1, 3"
abbrev pub no_second : Reader ℕ
no_second = field 2 (λ v. eqb v 65535)

-- "registration set, 1 byte, 0..6"
abbrev pub registration : Reader ℕ
registration = field 1 (λ v. leb v 6)

-- kind 0 RequestURI
abbrev pub uri_test : List Stored → Reader Test
uri_test strings = do
  u ← naming strings as_uri
  _ ← no_second
  _ ← registration
  give (request_uri u)

-- kind 1 Method
abbrev pub method_test : List Stored → Reader Test
method_test strings = do
  m ← naming strings as_method
  _ ← no_second
  set ← registration
  give (method m set)

-- kinds 2 SIPHeader and 4 SessionDescription: a pattern for the name or type, and Content if any
abbrev pub patterns_test : List Stored → (Pattern → Option Pattern → Test) → Reader Test
patterns_test strings kind = do
  h ← naming strings as_pattern
  c ← naming_or_absent strings as_pattern
  _ ← registration
  give (kind h c)

-- kind 3 SessionCase: "the case 0..3"
abbrev pub case_test : Reader Test
case_test = do
  c ← field 2 (λ v. leb v 3)
  _ ← no_second
  _ ← registration
  give (session_case c)

-- by kind
abbrev pub test_of : List Stored → ℕ → Reader Test
test_of strings k =
    pick (eqb k 0) (uri_test strings)
    (pick (eqb k 1) (method_test strings)
    (pick (eqb k 2) (patterns_test strings header)
    (pick (eqb k 3) case_test
    (patterns_test strings description))))

-- "negated (0, 1); kind (0 .. 4)"
abbrev pub row : List Stored → List Row → Reader Row
row strings before = do
  at ← here
  n ← field 1 (λ v. leb v 1)
  k ← field 1 (λ v. leb v 4)
  t ← test_of strings k
  give (record { place = at; negated = eqb n 1; test = t })

-- ---- memberships

-- "strictly rising by row and then group"
abbrev pub rises : Member → Member → Bool
rises m n = ltb m.row n.row || (eqb m.row n.row && ltb m.group n.group)

-- the one read before
abbrev pub last : {A : Type 0} → List A → Option A
last [] = none
last (a ∷ []) = some a
last (a ∷ b ∷ l) = last (b ∷ l)

-- the first membership follows nothing
abbrev pub follows : Option Member → Member → Bool
follows none n = true
follows (some m) n = rises m n

-- "A membership out of order is placed at its first byte and met at its group"; a row outside the table at the row
abbrev pub member : ℕ → List Member → Reader Member
member n_rows before = do
  at ← here
  r ← field 2 (λ v. ltb v n_rows)
  g ← integer 2
  let m : Member = record { row = r; group = g }
  _ ← unless (follows (last before) m) 4 at
  give m

-- how many a row has
abbrev pub memberships_of : ℕ → List Member → ℕ
memberships_of r l = length (only (λ m. eqb m.row r) l)

-- "Every row has 1 to 8", "met after section three, at the row": row by row, from row r on
unfoldable pub all_rows_have : List Member → ℕ → List Row → Reader (Unit {0})
all_rows_have l r [] = give tt
all_rows_have l r (x ∷ rows) = do
  let n : ℕ = memberships_of r l
  _ ← unless (leb 1 n && leb n 8) 4 x.place
  all_rows_have l (suc r) rows

-- ---- criteria

-- "Number 6 is placed at the first criterion whose number stands earlier too, and met when that number is read."
abbrev pub repeats : List Criterion → ℕ → Bool
repeats before p = some_of (λ c. eqb c.priority p) before

-- "Form 2 has first row and row count 0"
abbrev pub first_ok : ℕ → ℕ → Bool
first_ok form v = not (eqb form 2) || eqb v 0

-- "otherwise the count is 1..32 and the rows lie in the table", "rows outside the table at the row count"
abbrev pub count_ok : ℕ → ℕ → ℕ → ℕ → Bool
count_ok n_rows form first v = pick (eqb form 2) (eqb v 0) (leb 1 v && leb v 32 && leb (first + v) n_rows)

-- "2 absent, read as 0 by house rule"
abbrev pub as_handled : ℕ → ℕ
as_handled d = pick (eqb d 1) 1 0

-- "Criteria (0..64), 15 bytes", field by field
abbrev pub criterion : List Stored → ℕ → List Criterion → Reader Criterion
criterion strings n_rows before = do
  at ← here
  p ← integer 4
  _ ← unless (not (repeats before p)) 6 at
  part ← field 1 (λ v. leb v 2)
  form ← field 1 (λ v. leb v 2)
  first ← field 2 (first_ok form)
  count ← field 2 (count_ok n_rows form first)
  server ← naming strings as_server
  d ← field 1 (λ v. leb v 2)
  info ← naming_or_absent strings as_information
  give (record { priority = p; part = part; form = form; first = first; count = count; server = server; handling = as_handled d; info = info })

-- ---- the whole

-- "bytes after the criteria", at the first of them
abbrev pub nothing_follows : Reader (Unit {0})
nothing_follows = λ s at. pick (eqb at (length s)) (got tt at) (fault 3 at)

-- "First byte: edition, 1. Then four sections in this order, each after a 2-byte count"
unfoldable pub profile : Reader Profile
unfolding entries all_rows_have read_pattern
profile = do
  _ ← field 1 (λ v. eqb v 1)
  n_strings ← field 2 (λ n. leb n 1024)
  strings ← entries string n_strings []
  n_rows ← field 2 (λ n. leb n 2048)
  rows ← entries (row strings) n_rows []
  n_members ← field 2 (λ n. leb n 16384)
  members ← entries (member n_rows) n_members []
  _ ← all_rows_have members 0 rows
  n_criteria ← field 2 (λ n. leb n 64)
  criteria ← entries (criterion strings n_rows) n_criteria []
  _ ← nothing_follows
  give (record { rows = rows; members = members; criteria = criteria })

-- the reading as a judgement
abbrev pub verdict : Got Profile → Judged
verdict (got p at) = accepted p
verdict (fault n place) = refused n place

-- "number 1 before all (place 0), then the first fault in reading order"
unfoldable pub judge : List ℕ → Judged
unfolding profile
judge s = pick (leb (length s) 32768) (verdict (profile s 0)) (refused 1 0)

-- Readable requests (document 01, "Readable requests"): what is read from a request's bytes, or none where it is unreadable.
use Rattle.std.specs.Prelude.{Bool, false, not, ◌&&◌, ◌||◌, ℕ, List, [], ◌∷◌, ◌++◌, length, leb, eqb}
use Rattle.std.proofs.Math.Option.{Option, none, some}
use Rattle.octets.specs.Lists.{text, every, some_of, only, empty, pick, peek, agree}
use Rattle.octets.specs.Option.{◌>>=◌, holds}
use Rattle.octets.specs.Bytes.{within, same_any_case, token, white, uri_byte}
use Rattle.cuts.specs.Cutting.{first_cut, cut_by, cut_at}
use Rattle.cuts.specs.Trimming.{trim_right}
use Rattle.contents.specs.Body.{Line, session_lines}
use Rattle.contents.specs.Description.{content_type, says_description, one_description}
use Rattle.contents.specs.Names.{name_as_matched}
use Rattle.contents.specs.Values.{reduced, values_of}

-- a field: its name, and the values it is cut into
pub record Field : Type 0 where
  pub name : List ℕ
  pub values : List (List ℕ)

-- what the answers need of a request
pub record Request : Type 0 where
  pub method : List ℕ
  pub uri : List ℕ
  pub fields : List Field
  pub body : List ℕ

-- ---- the head

-- "In the head, CR and LF stand only as pairs": a byte is LF exactly where the one before it is CR. The byte before, and the rest.
unfoldable pub paired : ℕ → List ℕ → Bool
paired before [] = not (eqb before 13)
paired before (b ∷ s) = agree (eqb before 13) (eqb b 10) && paired b s

-- "other bytes below 32 except HTAB, and 127, are refused"
abbrev pub head_byte : ℕ → Bool
head_byte b = within 32 126 b || leb 128 b || some_of (eqb b) (9 ∷ 10 ∷ 13 ∷ [])

-- what may stand in a head
abbrev pub bytes_right : List ℕ → Bool
bytes_right h = every head_byte h && paired 0 h

-- the lines of a head in which CR and LF stand only as pairs
abbrev pub head_lines : List ℕ → List (List ℕ)
head_lines h = cut_at 10 (only (λ b. not (eqb b 13)) h)

-- ---- the start line

-- its method and its URI
pub record Start : Type 0 where
  pub method : List ℕ
  pub uri : List ℕ

-- "method token, one SP, URI of one or more bytes 33..126, one SP, `Sip/2.0` in any case"
abbrev pub parts_right : List ℕ → List ℕ → List ℕ → Bool
parts_right m u v = token m && not (empty u) && every uri_byte u && same_any_case v (text "SIP/2.0")

-- three parts between single SPs
abbrev pub three : List (List ℕ) → Option Start
three [] = none
three (m ∷ []) = none
three (m ∷ u ∷ []) = none
three (m ∷ u ∷ v ∷ []) = do
  _ ← holds (parts_right m u v)
  some (record { method = m; uri = u })
three (m ∷ u ∷ v ∷ w ∷ l) = none

-- cut at each SP
abbrev pub start_line : List ℕ → Option Start
start_line l = three (cut_at 32 l)

-- ---- fields

-- "A line that starts with SP or HTAB continues a field"
abbrev pub continues : List (List ℕ) → Bool
continues [] = false
continues (l ∷ ls) = white (peek l)

-- a field's line with the lines that continue it, the folds (CR LF) between them kept
abbrev pub attach : List ℕ → List (List ℕ) → List (List ℕ)
attach l [] = l ∷ []
attach l (x ∷ xs) = (l ++ (13 ∷ 10 ∷ x)) ∷ xs

-- each field with its folds
unfoldable pub whole_fields : List (List ℕ) → List (List ℕ)
whole_fields [] = []
whole_fields (l ∷ ls) = let later : List (List ℕ) = whole_fields ls in pick (continues ls) (attach l later) (l ∷ later)

-- "name token, any SP or HTAB, colon (these on one line), value": a fold before the colon would stand in the name
abbrev pub field : List ℕ → Option Field
field l = do
  c ← first_cut (text ":") l
  let written : List ℕ = trim_right c.before
  let name : List ℕ = name_as_matched written
  _ ← holds (token written)
  some (record { name = name; values = values_of name (reduced c.after) })

-- every one of them must be a field
unfoldable pub all_fields : List (List ℕ) → Option (List Field)
unfolding first_cut trim_right name_as_matched reduced values_of
all_fields [] = some []
all_fields (l ∷ ls) = do
  f ← field l
  fs ← all_fields ls
  some (f ∷ fs)

-- ---- the request

-- the start line, and the lines after it: of those that continue a field "none may follow the start line directly"
abbrev pub read_head : List (List ℕ) → List ℕ → Option Request
read_head [] body = none
read_head (l ∷ ls) body = do
  s ← start_line l
  _ ← holds (not (continues ls))
  fs ← all_fields (whole_fields ls)
  some (record { method = s.method; uri = s.uri; fields = fs; body = body })

-- CR LF CR LF
abbrev pub empty_line : List ℕ
empty_line = 13 ∷ 10 ∷ 13 ∷ 10 ∷ []

-- "At most 65,535 bytes. The head runs to the first CR LF CR LF, which must exist; the body is all after it"
unfoldable pub read_request : List ℕ → Option Request
unfolding first_cut cut_by paired whole_fields all_fields
read_request s = do
  _ ← holds (leb (length s) 65535)
  c ← first_cut empty_line s
  _ ← holds (bytes_right c.before)
  read_head (head_lines c.before) c.after

-- number 7, "request unreadable"; 0 of one that is read
abbrev pub refusal_of : Option Request → ℕ
refusal_of none = 7
refusal_of (some q) = 0

-- ---- whether the body is a session description (document 02, change request 5)

-- "there is exactly one Content-Type field, with one value": by the fields of that name
abbrev pub described_by : List Field → Bool
described_by [] = false
described_by (f ∷ []) = one_description f.values
described_by (f ∷ g ∷ fs) = false

unfoldable pub is_description : Request → Bool
unfolding says_description
is_description q = described_by (only (λ f. content_type f.name) q.fields)

-- the lines that a session description row is held against: "The body now has session lines only if" it is one
unfoldable pub request_lines : Request → List Line
unfolding session_lines is_description
request_lines q = pick (is_description q) (session_lines q.body) []

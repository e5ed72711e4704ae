-- Where the parts of a request stand in its bytes. Every place is a sum of lengths of what the definitions cut the bytes into.
use Rattle.std.proofs.Math.Option.{Option, none, some}
use Rattle.std.specs.Prelude.{◌≡◌, List, [], ◌∷◌, ℕ, ◌+◌, ◌*◌, ◌≤◌, length, get_or, take, drop, map, Option as Answer, Some, None}
use Rattle.octets.specs.Lists.{text, pick}
use Rattle.cuts.specs.Cutting.{first_cut, cut_by, before_cut, first_line}
use Rattle.cuts.specs.Inner.Parts.{over, part}
use Rattle.cuts.specs.Trimming.{trim_right}
use Rattle.contents.specs.Names.{name_as_matched}
use Rattle.contents.specs.Values.{reduced, values_of}
use Rattle.request.specs.Request.{empty_line, head_lines, whole_fields, Request, read_request, is_description}
use Rattle.request.specs.declared.FieldParts.{FieldParts}
use Rattle.request.specs.declared.FieldPlace.{FieldPlace}
use Rattle.request.specs.declared.Places.{Places}

-- the head: its length is the place of the first CR LF CR LF, or the length where there is none
unfoldable pub head_of : List ℕ → List ℕ
unfolding first_cut
head_of s = before_cut s (first_cut empty_line s)

-- the lines behind the first
abbrev pub later_lines : List (List ℕ) → List (List ℕ)
later_lines [] = []
later_lines (l ∷ ls) = ls

-- a head's fields with their folds
unfoldable pub field_lines : List ℕ → List (List ℕ)
unfolding cut_by whole_fields
field_lines h = whole_fields (later_lines (head_lines h))

-- where the line of a head's first field starts: past the start line and its CR LF
abbrev pub fields_start : List ℕ → ℕ
fields_start h = length (first_line (head_lines h)) + 2

-- ---- fields

-- where each line starts, from a place on: each takes its bytes and a CR LF
unfoldable pub line_starts : ℕ → List (List ℕ) → List ℕ
line_starts at [] = []
line_starts at (l ∷ ls) = at ∷ line_starts (at + length l + 2) ls

-- how far the colon stands in a line
unfoldable pub colon_in : List ℕ → ℕ
unfolding first_cut
colon_in l = length (before_cut l (first_cut (text ":") l))

-- where the colon of each line stands
unfoldable pub line_colons : ℕ → List (List ℕ) → List ℕ
unfolding colon_in
line_colons at [] = []
line_colons at (l ∷ ls) = (at + colon_in l) ∷ line_colons (at + length l + 2) ls

-- ---- the fields' places as they are lent

abbrev pub starts_in : List FieldPlace → List ℕ
starts_in ps = map (λ (p : FieldPlace). p.start) ps

abbrev pub colons_in : List FieldPlace → List ℕ
colons_in ps = map (λ (p : FieldPlace). p.colon) ps

-- ---- the answer of reading

-- where body lines begin: behind the head's CR LF CR LF, or at the end where the body is no session description
abbrev pub lines_start : List ℕ → Request → ℕ
lines_start h q = length h + 4 + pick (is_description q) 0 (length q.body)

-- where method, URI and head end, how many fields there are, and where body lines begin
abbrev pub places_of : List ℕ → Request → Places
places_of h q = record {
  method = length q.method;
  uri = length q.method + 1 + length q.uri;
  head = length h;
  fields = length q.fields;
  lines = lines_start h q;
}

abbrev pub reading : List ℕ → Option Request → Answer Places
reading h none = None
reading h (some q) = Some (places_of h q)

-- where the lines of the fields start, and where their colons stand; nothing is written where the request is unreadable
abbrev pub starts_of : List ℕ → Option Request → List ℕ
starts_of h none = []
starts_of h (some q) = line_starts (fields_start h) (field_lines h)

abbrev pub colons_of : List ℕ → Option Request → List ℕ
colons_of h none = []
colons_of h (some q) = line_colons (fields_start h) (field_lines h)

-- room for a place of each field, of which every one takes at least four bytes; one longer than 65,535 bytes is not read
pub record Room (s places : List ℕ) : Type 0 where
  pub enough : length s ≤ 65535 → length s ≤ 4 * length places

pub record Read (s starts colons starts' colons' : List ℕ) (r : Answer Places) : Type 0 where
  pub answer : r ≡ reading (head_of s) (read_request s)
  pub starts_are : starts' ≡ over (starts_of (head_of s) (read_request s)) starts
  pub colons_are : colons' ≡ over (colons_of (head_of s) (read_request s)) colons

-- ---- a request that was read

-- the bytes are readable, and the places are those that `read` gave and wrote
pub record Placed (s starts colons : List ℕ) (p : Places) : Type 0 where
  pub read : Some p ≡ reading (head_of s) (read_request s)
  pub starts_are : take p.fields starts ≡ starts_of (head_of s) (read_request s)
  pub colons_are : take p.fields colons ≡ colons_of (head_of s) (read_request s)

abbrev pub or_blank : Option Request → Request
or_blank none = record { method = []; uri = []; fields = []; body = [] }
or_blank (some q) = q

-- the request that is read from bytes, or one with nothing in it where they are unreadable
unfoldable pub request_of : List ℕ → Request
unfolding read_request
request_of s = or_blank (read_request s)

-- the bytes are readable, their head and how many fields it has, and the fields' places are those that `read` wrote
pub record Fielded (s starts colons : List ℕ) (head fields : ℕ) : Type 0 where
  pub read : read_request s ≡ some (request_of s)
  pub head_is : head ≡ length (head_of s)
  pub count : fields ≡ length (request_of s).fields
  pub starts_are : take fields starts ≡ starts_of (head_of s) (read_request s)
  pub colons_are : take fields colons ≡ colons_of (head_of s) (read_request s)

-- rooms for the fields' places and a value of a request; one longer than 65,535 bytes is not read
pub record Rooms (s starts colons room : List ℕ) : Type 0 where
  pub for_starts : Room s starts
  pub for_colons : Room s colons
  pub for_room : length s ≤ 65535 → length s ≤ length room

-- ---- one field

-- the parts of a line that starts at a place: the name as written, and the raw value
abbrev pub parts_of : ℕ → List ℕ → FieldParts
parts_of at l = record {
  name = at;
  stop = at + length (trim_right (take (colon_in l) l));
  value = at + colon_in l + 1;
  end = at + length l;
}

-- those of a head's field i
unfoldable pub field_parts : List ℕ → ℕ → FieldParts
unfolding field_lines line_starts colon_in trim_right
field_parts h i = parts_of (get_or (line_starts (fields_start h) (field_lines h)) i 0) (get_or (field_lines h) i [])

-- Field i of a request that was read: its name as written, and its raw value, which is no longer than the request. They are the bytes
-- between the places of its parts.
pub record FieldIs (s : List ℕ) (i : ℕ) (name value : List ℕ) : Type 0 where
  pub name_is : name ≡ part s (field_parts (head_of s) i).name (field_parts (head_of s) i).stop
  pub value_is : value ≡ part s (field_parts (head_of s) i).value (field_parts (head_of s) i).end
  pub list : drop i (request_of s).fields
      ≡ record { name = name_as_matched name; values = values_of (name_as_matched name) (reduced value) } ∷ drop (i + 1) (request_of s).fields
  pub inside : length value ≤ length s
  pub short : length value ≤ 65535

-- What the contracts of private functions say: the steps on the way to an answer.
use Rattle.std.specs.Prelude.{Bool, true, false, not, ◌&&◌, ◌≡◌, List, [], ◌++◌, ◌∷◌, ℕ, ◌+◌, ◌*◌, ◌≤◌, ◌<◌, length, drop, get_or, T, leb, Option as Answer, Some, None}
use Rattle.std.proofs.Math.Option.{Option, none, some}
use Rattle.octets.specs.Bytes.{token_byte, uri_byte, white}
use Rattle.octets.specs.Lists.{pick, every}
use Rattle.cuts.specs.Cutting.{cut_by, begins}
use Rattle.request.specs.Inner.Places.{fields_start, line_starts, line_colons}
use Rattle.request.specs.Request.{paired, head_lines, Start, whole_fields, field, Request}
use Rattle.request.specs.declared.HeadPlaces.{HeadPlaces}
use Rattle.request.specs.declared.start_lines.StartPlaces.{StartPlaces}

-- ---- the start line

-- a byte of a URI, or else of a token
abbrev pub word_byte : Bool → ℕ → Bool
word_byte uri b = pick uri (uri_byte b) (token_byte b)

abbrev pub start_at : ℕ → ℕ → Answer StartPlaces
start_at m u = Some (record { method = m; uri = u })

-- where the method and the URI of a start line end
abbrev pub start_places : Option Start → Answer StartPlaces
start_places none = None
start_places (some t) = start_at (length t.method) (length t.method + 1 + length t.uri)

-- ---- the lines of the head

-- a field's line ends here: CR LF that no SP or HTAB follows
abbrev pub line_break : List ℕ → Bool
line_break s = begins (13 ∷ 10 ∷ []) s && not (white (get_or s 2 0))

-- something was read
abbrev pub is_some {ℓ} : {A : Type ℓ} → Option A → Bool
is_some none = false
is_some (some a) = true

-- a line with its folds that is a field
abbrev pub is_field : List ℕ → Bool
is_field l = is_some (field l)

-- the fields with their folds, from a place in the head on; none past its end
unfoldable pub lines_from : List ℕ → ℕ → List (List ℕ)
unfolding cut_by whole_fields
lines_from h p = pick (leb p (length h)) (whole_fields (head_lines (drop p h))) []

abbrev pub head_at : ℕ → ℕ → ℕ → ℕ → Answer HeadPlaces
head_at e m u f = Some (record { head = e; method = m; uri = u; fields = f })

-- where the parts of a request with this head end, and where its fields start
abbrev pub judged : List ℕ → Option Request → Answer HeadPlaces
judged h none = None
judged h (some q) = head_at (length h) (length q.method) (length q.method + 1 + length q.uri) (fields_start h)

-- the lines from a place in the head on are fields, and there is room for a number of each: one takes at least four bytes
pub record Fillable (h : List ℕ) (from room room' : ℕ) : Type 0 where
  pub inside : from ≤ length h + 2
  pub short : length h ≤ 65535
  pub pairs : T (paired 0 (drop from h))
  pub fields : T (every is_field (lines_from h from))
  pub starts_room : length h < 4 * room
  pub colons_room : length h < 4 * room'

-- their places are written, first to last, and the rest of the lent places kept
pub record Filled (h : List ℕ) (from : ℕ) (starts colons starts' colons' : List ℕ) (n : ℕ) : Type 0 where
  pub count : n ≡ length (lines_from h from)
  pub starts_are : starts' ≡ line_starts from (lines_from h from) ++ drop n starts
  pub colons_are : colons' ≡ line_colons from (lines_from h from) ++ drop n colons

-- What the contracts of private functions say: the steps on the way to an answer.
use Rattle.std.specs.Prelude.{Bool, ◌||◌, List, [], ◌∷◌, ℕ, zero, suc, eqb}
use Rattle.octets.specs.Bytes.{same_any_case}
use Rattle.octets.specs.Lists.{text, pick, some_of}
use Rattle.contents.specs.Body.{drop_cr}
use Rattle.contents.specs.Names.{Short, short_names}
use Rattle.contents.specs.Values.{Mode, plain, quoted, escaped, angle}
use Rattle.contents.specs.declared.pieces.Within.{Within}
use Rattle.contents.specs.declared.pieces.Within.TheVariants.{Text, Quotes, Escape, Angles}

-- SP, HTAB, or the CR or LF of a fold: what `spaces` makes SP of
abbrev pub space : ℕ → Bool
space b = eqb b 32 || some_of (eqb b) (9 ∷ 10 ∷ 13 ∷ [])

-- where a byte stands, in the code's words
abbrev pub mode_of : Within → Mode
mode_of Text = plain
mode_of Quotes = quoted
mode_of Escape = escaped
mode_of Angles = angle

-- a line without the CR before its LF, if an LF ends it
abbrev pub ended_line : Bool → List ℕ → List ℕ
ended_line at_lf l = pick at_lf (drop_cr l) l

-- ---- names by their place in the table of ten

-- where a written name stands in a table of short names; past its end where it is none of them
abbrev pub place_in : List Short → List ℕ → ℕ
place_in [] written = 0
place_in (x ∷ xs) written = pick (same_any_case written x.letter) 0 (suc (place_in xs written))

unfoldable pub short_place : List ℕ → ℕ
short_place written = place_in short_names written

-- the long name at a place, or the written one past the table's end
abbrev pub long_at : List Short → ℕ → List ℕ → List ℕ
long_at [] k written = written
long_at (x ∷ xs) zero written = x.long
long_at (x ∷ xs) (suc k) written = long_at xs k written

-- the long name at a place of the ten
unfoldable pub long_name : ℕ → List ℕ
long_name k = long_at short_names k []

-- the ten long names, written one after the other; where each begins, and where the last ends
abbrev pub long_names : List ℕ
long_names = text "Call-IDContactContent-EncodingContent-LengthContent-TypeFromSubjectSupportedToVia"

abbrev pub long_starts : List ℕ
long_starts = 0 ∷ 7 ∷ 14 ∷ 30 ∷ 44 ∷ 56 ∷ 60 ∷ 67 ∷ 76 ∷ 78 ∷ 81 ∷ []

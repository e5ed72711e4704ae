-- Where the values of a reduced value and the lines of a body stand in their bytes.
use Rattle.std.specs.Prelude.{List, [], ◌∷◌, map, ℕ, ◌+◌, ◌-◌, length, drop, leb, eqb}
use Rattle.octets.specs.Lists.{pick}
use Rattle.cuts.specs.Cutting.{cut_by, cut_at, first_line}
use Rattle.cuts.specs.Trimming.{trim_left, trim_right, trim}
use Rattle.contents.specs.Body.{Line, ended, lines}
use Rattle.contents.specs.Values.{pieces}
use Rattle.contents.specs.declared.BodyLine.{BodyLine}
use Rattle.contents.specs.declared.BodyLine.TheVariants.{Typed, Other, Done}
use Rattle.contents.specs.declared.Piece.{Piece}

-- ---- values

-- the values of a reduced value from a place on; none past its end
unfoldable pub values_from : List ℕ → ℕ → List (List ℕ)
unfolding cut_by trim_left trim_right
values_from v p = map trim (pick (leb p (length v)) (pieces (drop p v)) [])

-- a piece t at p, trimmed; the next one starts past the comma
abbrev pub trimmed_at : ℕ → List ℕ → Piece
trimmed_at p t = record { start = p + (length (trim_right t) - length (trim t)); end = p + length (trim_right t); next = p + length t + 1 }

-- the first piece from a place on
unfoldable pub piece_at : List ℕ → ℕ → Piece
unfolding cut_by trim_left trim_right
piece_at v p = trimmed_at p (first_line (pieces (drop p v)))

-- ---- lines of a body

-- the places of a line l at p that is a field, as `line` has it
abbrev pub line_places : ℕ → List ℕ → ℕ → BodyLine
line_places p [] next = Other next
line_places p (t ∷ []) next = Other next
line_places p (t ∷ e ∷ v) next = pick (eqb e 61) (Typed p (p + 2) (p + 2 + length v) next) (Other next)

-- the line at a place; none past the end
unfoldable pub body_line : List ℕ → ℕ → BodyLine
unfolding cut_by ended
body_line b p =
    pick (leb p (length b))
    (line_places p (first_line (ended (cut_at 10 (drop p b)))) (p + length (first_line (cut_at 10 (drop p b))) + 1))
    Done

-- the lines that are fields, from a place on; none past the end
unfoldable pub session_from : List ℕ → ℕ → List Line
unfolding cut_by ended
session_from b p = pick (leb p (length b)) (lines (ended (cut_at 10 (drop p b)))) []

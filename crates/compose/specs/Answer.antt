-- Change request 3 whole: what is answered to a text and the room lent for its image.
use Rattle.std.specs.Prelude.{ℕ, List, ◌++◌, length, drop, leb, eqb}
use Rattle.octets.specs.Lists.{pick}
use Rattle.profile.specs.Image.{Judged, accepted, refused}
use Rattle.profile.specs.Judging.{profile, verdict}
use Rattle.scan.specs.Criteria.{Criterion}
use Rattle.grammar.specs.Reading.{Read, read_as, wrong, twice, read_text}
use Rattle.scan.specs.Table.{profile_text}
use Rattle.compose.specs.Composing.{image}

-- the image, which is written; or a refusal with its number and place
pub data Answer : Type 0 where
  writes : List ℕ → Answer
  refuses : ℕ → ℕ → Answer

-- "then the first of 4, 5, 6 that the image would get": an image that ends before a value without a place there (number 2) "counts as a 4"
abbrev pub counts_as : ℕ → ℕ
counts_as n = pick (eqb n 2) 4 n

-- "then 1, then 12 for lack of room"
abbrev pub fit : ℕ → List ℕ → Answer
fit room s = pick (leb (length s) 32768) (pick (leb (length s) room) (writes s) (refuses 12 0)) (refuses 1 0)

abbrev pub judged : ℕ → List ℕ → Judged → Answer
judged room s (accepted p) = fit room s
judged room s (refused n place) = refuses (counts_as n) 0

-- the faults are looked for as if there were no limit of 32,768
unfoldable pub composed : ℕ → List Criterion → Answer
unfolding image profile
composed room cs = judged room (image cs) (verdict (profile (image cs) 0))

-- (no text is read in two ways: scan proofs/Unique)
abbrev pub from_reading : ℕ → Read (List Criterion) → Answer
from_reading room (read_as cs) = composed room cs
from_reading room (wrong n) = refuses 14 n
from_reading room twice = refuses 14 0

-- "14 at 65,535 for a longer text, else at the first byte with which no text of this subset goes on, or at the end if more is needed"
unfoldable pub answer : List ℕ → ℕ → Answer
unfolding read_text profile_text composed
answer s room = pick (leb (length s) 65535) (from_reading room (read_text profile_text s)) (refuses 14 65535)

-- what the lent room holds: on a refusal "nothing written", and beyond the image what it held
abbrev pub after : Answer → List ℕ → List ℕ
after (writes s) before = s ++ drop (length s) before
after (refuses n place) before = before

-- "read operators' XML": the answer to the text s with the room lent, and the room at the end
unfoldable pub read_xml : List ℕ → List ℕ → Answer × List ℕ
unfolding answer
read_xml s before = (answer s (length before), after (answer s (length before)) before)

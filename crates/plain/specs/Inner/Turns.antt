-- One turn of the plain matcher, by places in the pattern and in the text. What cannot be read is said nothing of.
use Rattle.std.specs.Prelude.{◌≡◌, Bool, true, List, ℕ, ◌+◌, ◌<◌, ◌≤◌, eqb, length, drop}
use Rattle.std.specs.Prelude.{Option as Optional, Some, None}
use Rattle.std.proofs.Math.Option.{Option, none, some}
use Rattle.octets.specs.Lists.{pick, some_of, peek}
use Rattle.basic.specs.Pattern.{Range, Atom, in_range, meets}
use Rattle.basic.specs.Inner.Places.{items_of, body_of}
use Rattle.basic.specs.Reading.{Read, Body, atom}
use Rattle.place.specs.Place.{furthest, first_place, here_or, nowhere}
use Rattle.place.specs.declared.Place.{Place}
use Rattle.plain.specs.Plain.{answered}
use Rattle.plain.specs.declared.Answer.{Answer}
use Rattle.plain.specs.declared.Trial.{Trial}

-- ---- the pattern

-- a list whose ranges begin at `from`, on a byte
pub record Ranged (s : List ℕ) (from c : ℕ) (r : Trial) : Type 0 where
  pub onward : from ≤ r.end
  pub inside : r.end ≤ length s
  pub is : (l : Read (List Range)) → items_of true (drop from s) ≡ some l → (l.rest ≡ drop r.end s) × (some_of (in_range c) l.got ≡ r.takes)

-- the atom at i, on a byte
pub record Tried (s : List ℕ) (i c : ℕ) (r : Trial) : Type 0 where
  pub onward : i < r.end
  pub inside : r.end ≤ length s + 1
  pub is : (first : Bool) (a : Read Atom) → atom first (peek (drop i s)) (drop (i + 1) s) ≡ some a → (a.rest ≡ drop r.end s) × (meets a.got c ≡ r.takes)

-- ---- the text

-- a place in a short text
pub record Short (t : List ℕ) (j : ℕ) : Type 0 where
  pub inside : j ≤ length t
  pub limit : length t ≤ 256

-- a length, or none
abbrev pub told : Optional ℕ → Option ℕ
told None = none
told (Some n) = some n

-- how many bytes that is
abbrev pub taken : Optional ℕ → ℕ
taken None = 0
taken (Some n) = n

-- how far the elements from i on reach from j on
pub record Reaches (s : List ℕ) (i : ℕ) (t : List ℕ) (j : ℕ) (r : Optional ℕ) : Type 0 where
  pub inside : taken r + j ≤ length t
  pub far : (first : Bool) (b : Body) → body_of first (drop i s) ≡ some b → told r ≡ furthest meets b.anchored b.parts (drop j t)

-- a place that is counted from j on
abbrev pub from_place : ℕ → Place → Answer
from_place j r = pick r.found (record { refusal = 0; found = true; start = j + r.start; size = r.size }) (answered nowhere)

-- the first place from j on where the elements from i on fit; at j alone where an anchor stands before them
pub record Finds (s : List ℕ) (i : ℕ) (t : List ℕ) (j : ℕ) (r : Answer) : Type 0 where
  pub is : (b : Body) → body_of true (drop i s) ≡ some b
      → r ≡ from_place j (pick (eqb i 1) (here_or (furthest meets b.anchored b.parts (drop j t)) nowhere) (first_place (furthest meets b.anchored b.parts) (drop j t)))

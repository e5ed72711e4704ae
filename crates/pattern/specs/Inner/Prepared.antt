-- A prepared pattern: what its machine does, and how edition 1 makes one.
use Rattle.std.specs.Prelude.{◌≡◌, Bool, true, false, not, ◌&&◌, ◌||◌, ◌↔◌, List, [], ◌∷◌, ℕ, ◌+◌, ◌%◌, ◌^◌, ◌≤◌, T, eqb, length, get_or, drop, set, Some, None}
use Rattle.std.specs.Prelude as Std
use Rattle.std.proofs.Math.Option.{none}
use Rattle.std.specs.Int.Bits.{bit_or}
use Rattle.octets.specs.Bits.{bit}
use Rattle.octets.specs.Lists.{pick}
use Rattle.machine.specs.Inner.Machine.{StartsAt, Bytes, machine_of, Closed}
use Rattle.machine.specs.declared.Shape.{Shape}
use Rattle.part.specs.Inner.Part.{PartAt}
use Rattle.basic.specs.Pattern.{Atom, Elem, once, star}
use Rattle.basic.specs.Reading.{atom}
use Rattle.basic.specs.Inner.Judged.{is_pattern}
use Rattle.basic.specs.Inner.Places.{map_got, PieceHere}
use Rattle.basic.specs.Inner.Sets.{words}
use Rattle.pattern.specs.Inner.Answers.{meet_as, begins_at, FitsText}
use Rattle.pattern.specs.declared.edition1.Marks.{Marks}

-- ---- by what it does

-- a machine that takes part: it has a position, or the empty part fits
abbrev pub takes_part : Shape → Bool
takes_part h = not (eqb h.size 0) || h.whole

-- A machine that is ready for a pattern: it stands in places for 60 positions, its masks name its own, it takes part exactly if the string is
-- a pattern, it begins a part at a place of a text exactly if the pattern does, and the parts that it takes there are those that fit, by
-- their lengths. How it came about is not said.
pub record Ready (fold : Bool) (p : List ℕ) (h : Shape) (sets : List (List ℕ)) (before : List ℕ) : Type 0 where
  pub closed : Closed h before
  pub room_sets : length sets ≡ 60
  pub room_before : length before ≡ 60
  pub told : takes_part h ≡ is_pattern p
  pub begins : (t : List ℕ) → Bytes t → (j : ℕ) → j ≤ length t → StartsAt (machine_of h sets before) t j ↔ T (begins_at fold p t j)
  pub takes : (t : List ℕ) → Bytes t → (j n : ℕ) → j ≤ length t → PartAt (machine_of h sets before) t j n ↔ FitsText fold p t j n

-- ---- as edition 1 makes it: a position for each element

-- whether an element repeats
abbrev pub starred : Elem → Bool
starred (once a) = false
starred (star a) = true

-- what one byte of it has to meet
abbrev pub atom_of : Elem → Atom
atom_of (once a) = a
atom_of (star a) = a

-- Of the elements before the position `at`: `run` are those that may come right before it; `lead` are those that may come first, and
-- `at` is among them where all before it may be left out.
abbrev pub no_marks : Marks
no_marks = record { at = 0; run = 0; lead = 1 }

-- whether all elements before this position may be left out
abbrev pub may_lead : Marks → Bool
may_lead m = bit m.lead m.at

-- one element more
abbrev pub mark : Marks → Bool → Marks
mark m repeats = record {
  at = m.at + 1;
  run = pick repeats (bit_or m.run (2 ^ m.at)) (2 ^ m.at);
  lead = pick (repeats && may_lead m) (bit_or m.lead (2 ^ (m.at + 1))) m.lead;
}

-- what may come right before that element: one that repeats may follow itself
abbrev pub before_at : Marks → Bool → ℕ
before_at m repeats = pick repeats (bit_or m.run (2 ^ m.at)) m.run

-- all of them
abbrev pub marks : Marks → List Elem → Marks
marks m [] = m
marks m (e ∷ es) = marks (mark m (starred e)) es

-- the set of the bytes that an atom meets; fold: on a name
unfoldable pub set_as : Bool → Atom → List ℕ
unfolding words
set_as fold a = words (meet_as fold a)

-- a set for each element
abbrev pub sets_of : Bool → List Elem → List (List ℕ)
sets_of fold [] = []
sets_of fold (e ∷ es) = set_as fold (atom_of e) ∷ sets_of fold es

-- and what may come right before it
abbrev pub befores : Marks → List Elem → List ℕ
befores m [] = []
befores m (e ∷ es) = before_at m (starred e) ∷ befores (mark m (starred e)) es

-- what laying the atom at i leaves: where it ends, and its set at the place `at`
pub record LaidHere (fold first : Bool) (s : List ℕ) (i at end : ℕ) (old_sets sets : List (List ℕ)) : Type 0 where
  pub piece : PieceHere (map_got (set_as fold) (atom first (get_or s i 0) (drop (i + 1) s))) s i (record { end = end; set = get_or sets at [] })
  pub stored : sets ≡ set old_sets at (get_or sets at [])

-- where it is refused: nothing is laid
pub record NotLaid (fold first : Bool) (s : List ℕ) (i : ℕ) (old_sets sets : List (List ℕ)) : Type 0 where
  pub refused : map_got (set_as fold) (atom first (get_or s i 0) (drop (i + 1) s)) ≡ none
  pub same : sets ≡ old_sets

abbrev pub LaidAt : Bool → Bool → List ℕ → ℕ → ℕ → Std.Option ℕ → List (List ℕ) → List (List ℕ) → Type 0
LaidAt fold first s i at None old_sets sets = NotLaid fold first s i old_sets sets
LaidAt fold first s i at (Some end) old_sets sets = LaidHere fold first s i at end old_sets sets

-- `^` lets a part begin only at the text's start, `$` lets it end only at the text's end
abbrev pub shape_by : Marks → Bool → Bool → Shape
shape_by m left right = record {
  size = m.at;
  start = m.lead % 2 ^ m.at;
  inner = pick left 0 (m.lead % 2 ^ m.at);
  ends = m.run;
  stops = pick right 0 m.run;
  whole = may_lead m;
  head = may_lead m && not right;
  tail = may_lead m && not left;
  middle = may_lead m && not left && not right;
}

-- no part fits
abbrev pub no_shape : Shape
no_shape = record { size = 0; start = 0; inner = 0; ends = 0; stops = 0; whole = false; head = false; tail = false; middle = false }

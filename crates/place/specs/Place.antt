-- Where a pattern matches a text: "the smallest start, and of those the longest length" (document 02, change request 2).
use Rattle.std.specs.Prelude.{Bool, true, false, List, [], ◌∷◌, ℕ, suc, ◌≤◌, leb}
use Rattle.std.proofs.Math.Option.{Option, none, some}
use Rattle.octets.specs.Lists.{pick, empty}
use Rattle.basic.specs.Pattern.{Atom, Elem, once, star, Pattern}
use Rattle.pattern.specs.Parts.{FitsAt}
use Rattle.place.specs.declared.Place.{Place}

-- ---- the meaning

-- a part that fits, where none begins before it, and none that begins with it is longer
pub record IsPlace (meet : Atom → ℕ → Bool) (p : Pattern) (s : List ℕ) (j n : ℕ) : Type 0 where
  pub fits : FitsAt meet p s j n
  pub smallest : (i m : ℕ) → FitsAt meet p s i m → j ≤ i
  pub longest : (m : ℕ) → FitsAt meet p s j m → m ≤ n

-- ---- as a function

-- the larger of two lengths
abbrev pub longer : Option ℕ → Option ℕ → Option ℕ
longer none o = o
longer (some m) none = some m
longer (some m) (some n) = some (pick (leb m n) n m)

-- one byte more
abbrev pub one_more : Option ℕ → Option ℕ
one_more none = none
one_more (some n) = some (suc n)

-- one byte that m takes, and then as far as k goes
abbrev pub single_far : (ℕ → Bool) → (List ℕ → Option ℕ) → List ℕ → Option ℕ
single_far m k [] = none
single_far m k (b ∷ s) = pick (m b) (one_more (k s)) none

-- none here, and then as far as k goes, or one that m takes, and on from there
abbrev pub repeated_far : (ℕ → Bool) → (List ℕ → Option ℕ) → List ℕ → Option ℕ
repeated_far m k [] = k []
repeated_far m k (b ∷ s) = longer (k (b ∷ s)) (pick (m b) (one_more (repeated_far m k s)) none)

-- the largest length at which the elements fit at the front of s (true: with nothing left behind it)
unfoldable pub furthest : (Atom → ℕ → Bool) → Bool → List Elem → List ℕ → Option ℕ
furthest meet true [] s = pick (empty s) (some 0) none
furthest meet false [] s = some 0
furthest meet end (once a ∷ es) s = single_far (meet a) (furthest meet end es) s
furthest meet end (star a ∷ es) s = repeated_far (meet a) (furthest meet end es) s

-- no place
abbrev pub nowhere : Place
nowhere = record { found = false; start = 0; size = 0 }

-- at the front with this length, else where it is later, one byte on
abbrev pub here_or : Option ℕ → Place → Place
here_or (some n) later = record { found = true; start = 0; size = n }
here_or none later = pick later.found (record { found = true; start = suc later.start; size = later.size }) nowhere

-- at the front of s or at the first later place where k goes anywhere
abbrev pub first_place : (List ℕ → Option ℕ) → List ℕ → Place
first_place k [] = here_or (k []) nowhere
first_place k (b ∷ s) = here_or (k (b ∷ s)) (first_place k s)

-- from the front where `^` stands, else anywhere
unfoldable pub place_of : (Atom → ℕ → Bool) → Pattern → List ℕ → Place
unfolding furthest
place_of meet p s =
    let far : List ℕ → Option ℕ = furthest meet p.at_end p.elems in
    pick p.at_start (here_or (far s) nowhere) (first_place far s)

-- Which grammars are read as they mean, and what a reading then says.
use mathlib.Core.Bool.{Bool, true, false, ◌&&◌, ◌||◌}
use mathlib.Core.Path.{◌≡◌}
use Prim.Native.Nat.{ℕ, zero, suc, ◌+◌, ◌≤◌}
use native.Mathlib.Omega.{arith}
use mathlib.Core.List.{List, [], ◌∷◌}
use lib.ListN.{length}
use Rattle.octets.specs.Lists.{pick, some_of, empty}
use Rattle.grammar.specs.Grammar.{Grammar, word, one, span, ◌then◌, ◌or◌, option, many, into, Member, WrongAt}
use Rattle.grammar.specs.Reading.{Read, read_as, wrong, twice}

-- no text of it is empty
unfoldable pub solid : {A : Type 0} → Grammar A → Bool
solid (word w) = pick (empty w) false true
solid (one p) = true
solid (span o c) = pick (empty c) false true
solid (g then h) = solid g || solid h
solid (g or h) = solid g && solid h
solid (option g) = false
solid (many g) = false
solid (into f g) = solid g

-- the numbers below n
abbrev pub below : ℕ → List ℕ
below zero = []
below (suc n) = n ∷ below n

-- every set has a byte, every span an end, and what is repeated is not empty
unfoldable pub sound : {A : Type 0} → Grammar A → Bool
unfolding solid
sound (word w) = true
sound (one p) = some_of p (below 256)
sound (span o c) = pick (empty c) false true
sound (g then h) = sound g && sound h
sound (g or h) = sound g && sound h
sound (option g) = sound g
sound (many g) = solid g && sound g
sound (into f g) = sound g

-- ---- what a reading says

-- a is read from the text, and nothing else is
pub record ReadsOnly {A : Type 0} (g : Grammar A) (s : List ℕ) (a : A) : Type 0 where
  pub text : Member g s a
  pub only : (b : A) → Member g s b → b ≡ a

abbrev pub Says : {A : Type 0} → Grammar A → List ℕ → Read A → Type 0
Says g s (read_as a) = ReadsOnly g s a
Says g s (wrong n) = WrongAt g s n
Says g s twice = Unit {0}

-- ---- how long a text may be

-- how much longer than what the rest can read a text may be
abbrev pub room : Bool → ℕ → ℕ
room b n = pick b (suc n) n

pub room_then : (x y : Bool) (n : ℕ) → room (x || y) n ≤ room x (room y n)
room_then true true n = omega arith
room_then true false n = omega arith
room_then false true n = omega arith
room_then false false n = omega arith

pub room_left : (x y : Bool) (n : ℕ) → room (x && y) n ≤ room x n
room_left true true n = omega arith
room_left true false n = omega arith
room_left false true n = omega arith
room_left false false n = omega arith

pub room_right : (x y : Bool) (n : ℕ) → room (x && y) n ≤ room y n
room_right true true n = omega arith
room_right true false n = omega arith
room_right false true n = omega arith
room_right false false n = omega arith

pub room_none : (x : Bool) (n : ℕ) → n ≤ room x n
room_none true n = omega arith
room_none false n = omega arith

pub room_word : (w : List ℕ) (n : ℕ) → room (pick (empty w) false true) n ≤ n + length w
room_word [] n = omega arith
room_word (c ∷ w) n = omega arith

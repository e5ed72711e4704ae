-- What the scanner's code answers, point by point.
use Rattle.std.specs.Prelude.{◌≡◌, ℕ, ◌-◌, ◌≤◌, ◌<◌, List, [], length, drop}
use Rattle.grammar.specs.Reading.{Read, read_as, wrong}
use Rattle.grammar.specs.Inner.Made.{Only, shifted}
use Rattle.scan.specs.Inner.Points.{choices, first_word, word_count}
use Rattle.scan.specs.Inner.Rests.{Ahead, rest, plainly}
use Rattle.std.specs.Prelude.{⊤, Result, Ok, Err}
use Rattle.scan.specs.declared.scanner.Turn.{Turn}
use Rattle.scan.specs.declared.scanner.Turn.TheVariants.{Next, Whole, Wrong}

-- from `at` on the text goes on as `way` says, and that is: up to e, and from there on as from point p
pub record Reached {R : Type 0} (on : ℕ → List ℕ → Read R) (way : List ℕ → Read R) (s : List ℕ) (at e p : ℕ) : Type 0 where
  pub forward : at < e
  pub inside : e ≤ length s
  pub point : p < 42
  pub goes : way (drop at s) ≡ shifted (e - at) (on p (drop e s))

-- it goes wrong at n
pub record Broken {R : Type 0} (way : List ℕ → Read R) (s : List ℕ) (at n : ℕ) : Type 0 where
  pub forward : at ≤ n
  pub stops : way (drop at s) ≡ wrong (n - at)

-- it is whole
pub record Ended {R : Type 0} (none : R) (way : List ℕ → Read R) (s : List ℕ) (at : ℕ) : Type 0 where
  pub ends : way (drop at s) ≡ read_as none

abbrev pub Turning : {R : Type 0} → R → (ℕ → List ℕ → Read R) → (List ℕ → Read R) → List ℕ → ℕ → Turn → Type 0
Turning none on way s at (Next e p) = Reached on way s at e p
Turning none on way s at Whole = Ended none way s at
Turning none on way s at (Wrong n) = Broken way s at n

-- without the values, and with those to come
abbrev pub Turns : (List ℕ → Only) → List ℕ → ℕ → Turn → Type 0
Turns way s at t = Turning tt plainly way s at t

abbrev pub TurnsAhead : (List ℕ → Ahead) → List ℕ → ℕ → Turn → Type 0
TurnsAhead way s at t = Turning [] rest way s at t

abbrev pub scan_out : Result ⊤ ℕ → Only
scan_out (Ok u) = read_as tt
scan_out (Err n) = wrong n

-- by the words of point q
abbrev pub by_words : ℕ → List ℕ → Only
by_words q t = choices plainly (first_word q) (word_count q) t

abbrev pub words_ahead : ℕ → List ℕ → Ahead
words_ahead q t = choices rest (first_word q) (word_count q) t

-- How many lines of a block a pattern matches, and how many are patterns that match a text: two calls for tests and measures.
use Rattle.std.specs.Prelude.{Bool, not, List, [], ◌∷◌, ◌≡◌, ℕ, ◌%◌, eqb}
use Rattle.octets.specs.Lists.{pick, total}
use Rattle.basic.specs.Inner.Judged.{is_pattern}
use Rattle.pattern.specs.Inner.Answers.{meets_text}

-- a byte more at the front of the first line
abbrev pub longer : ℕ → List (List ℕ) → List (List ℕ)
longer b [] = []
longer b (l ∷ ls) = (b ∷ l) ∷ ls

-- the block cut at each LF (10): without one it is one line, and the empty block is one empty line
unfoldable pub lines : List ℕ → List (List ℕ)
lines [] = [] ∷ []
lines (b ∷ s) = pick (eqb b 10) ([] ∷ lines s) (longer b (lines s))

-- how many lines of the block pass
unfoldable pub passing : (List ℕ → Bool) → List ℕ → ℕ
unfolding lines
passing f block = total (λ line. pick (f line) 1 0) (lines block)

-- how many lines the pattern matches; fold: as on names
abbrev pub matched : Bool → List ℕ → List ℕ → ℕ
matched fold p block = passing (meets_text fold p) block

-- how many lines are patterns that match the text; fold: it is a name
abbrev pub matching : Bool → List ℕ → List ℕ → ℕ
matching fold text block = passing (λ p. meets_text fold p text) block

-- The answer: 5 and none met where the string is no pattern, else 0 and how many lines it matches, of which the lent number holds
-- the low 32 bits. fold 0: as written; any other: as on names.
pub record LinesTo (p : List ℕ) (fold : ℕ) (block : List ℕ) (number met : ℕ) : Type 0 where
  pub number_is : number ≡ pick (is_pattern p) 0 5
  pub met_is : met ≡ pick (is_pattern p) (matched (not (eqb fold 0)) p block % 4294967296) 0

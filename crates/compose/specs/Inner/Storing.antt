-- A string stored in an image under way.
use Rattle.std.specs.Prelude.{◌≡◌, Option, Some, None, ℕ, ◌+◌, ◌≤◌, ◌<◌, List, [], ◌∷◌, ◌++◌, length, get_or, take, drop}
use Rattle.cells.specs.Inner.Places.{word, text_at, texts}
use Rattle.cells.specs.Inner.Answers.{Table}
use Rattle.compose.specs.Composing.{index_of}

-- the string d stands at a place, behind its length; nothing else has changed
pub record StoredAt (d : List ℕ) (at : ℕ) (before after : List ℕ) : Type 0 where
  pub long : length after ≡ length before
  pub kept : take at after ≡ take at before
  pub sized : word after at ≡ length d
  pub text : text_at after at ≡ d
  pub beyond : drop (at + 2 + length d) after ≡ drop (at + 2 + length d) before

-- n strings are stored in an image under way, all of them below `at`
pub record Strings (image table : List ℕ) (n at : ℕ) : Type 0 where
  pub tabled : Table image n table
  pub below : (k : ℕ) → k < n → get_or table k 0 + 2 + word image (get_or table k 0) ≤ at
  pub inside : at ≤ length image

-- the strings of a text so far
abbrev pub so_far : List ℕ → List ℕ → ℕ → List (List ℕ)
so_far image table n = texts image n table

-- the string d is among them, and nothing changes; or it is stored behind them
abbrev pub Adds : List ℕ → List ℕ → List ℕ → ℕ → ℕ → List ℕ → List ℕ → Option ℕ → Type 0
Adds d image table n at image' table' None = (image' ≡ image) × (table' ≡ table) × (index_of d (so_far image table n) < n)
Adds d image table n at image' table' (Some e) = Strings image' table' (n + 1) e × (so_far image' table' (n + 1) ≡ so_far image table n ++ (d ∷ [])) × (n ≤ index_of d (so_far image table n))

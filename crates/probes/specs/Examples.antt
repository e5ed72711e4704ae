-- Worked examples: where a block is cut, how many of its lines a pattern matches, and how many are patterns that match a text.
use Rattle.std.specs.Prelude.{Bool, true, false, ◌&&◌, List, [], ◌∷◌, ℕ, T, eqb}
use Prim.Native.String.{String}
use Rattle.octets.specs.Lists.{text, every, same}
use Rattle.pattern.specs.Inner.Answers.{meets_text}
use Rattle.pattern.specs.Matching.{written_matches, name_matches}
use Rattle.probes.specs.Inner.Lines.{lines, passing, matched, matching}

-- the lines of a block; how many a pattern matches, as written and (true) as on names; how many are patterns that match a text
pub data Example : Type 0 where
  cut : List ℕ → List (List ℕ) → Example
  met : Bool → String → List ℕ → ℕ → Example
  meeting : Bool → String → List ℕ → ℕ → Example

abbrev all_same : List (List ℕ) → List (List ℕ) → Bool
all_same [] [] = true
all_same [] (l ∷ ls) = false
all_same (k ∷ ks) [] = false
all_same (k ∷ ks) (l ∷ ls) = same k l && all_same ks ls

unfoldable pub right : Example → Bool
unfolding lines passing meets_text written_matches name_matches
right (cut block expected) = all_same (lines block) expected
right (met fold p block expected) = eqb (matched fold (text p) block) expected
right (meeting fold t block expected) = eqb (matching fold (text t) block) expected

unfoldable pub examples : List Example
examples =
    -- a block without LF is one line, and the empty block is one empty line
    cut [] ([] ∷ [])
    ∷ cut (97 ∷ 98 ∷ []) ((97 ∷ 98 ∷ []) ∷ [])
    -- an LF ends a line and begins one; CR is a byte of its line
    ∷ cut (10 ∷ []) ([] ∷ [] ∷ [])
    ∷ cut (97 ∷ 13 ∷ 10 ∷ 98 ∷ []) ((97 ∷ 13 ∷ []) ∷ (98 ∷ []) ∷ [])
    ∷ cut (97 ∷ 10 ∷ 10 ∷ 98 ∷ 10 ∷ []) ((97 ∷ []) ∷ [] ∷ (98 ∷ []) ∷ [] ∷ [])
    -- every line is a text of its own, with its own start and end
    ∷ met false "^$" [] 1
    ∷ met false "^b$" (97 ∷ 10 ∷ 98 ∷ 10 ∷ 98 ∷ []) 2
    ∷ met false "a.*b" (97 ∷ 10 ∷ 98 ∷ []) 0
    -- as written, and as on names
    ∷ met false "B" (97 ∷ 98 ∷ 10 ∷ 66 ∷ []) 1
    ∷ met true "B" (97 ∷ 98 ∷ 10 ∷ 66 ∷ []) 2
    -- what is no pattern matches nothing
    ∷ met false "" (97 ∷ 10 ∷ []) 0
    -- each line is a pattern of its own: b, B, none (the empty line), ^b$
    ∷ meeting false "b" (98 ∷ 10 ∷ 66 ∷ 10 ∷ 10 ∷ 94 ∷ 98 ∷ 36 ∷ []) 2
    ∷ meeting true "b" (98 ∷ 10 ∷ 66 ∷ 10 ∷ 10 ∷ 94 ∷ 98 ∷ 36 ∷ []) 3
    -- what is no pattern ([) leaves the lines around it as they are
    ∷ meeting false "ab" (97 ∷ 10 ∷ 91 ∷ 10 ∷ 98 ∷ []) 2
    ∷ []

-- every example is right
pub all_right : T (every right examples)
unfolding right examples
all_right = tt

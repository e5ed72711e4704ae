-- Places worked out by hand. One claim about all of them, proved by computing.
use Rattle.std.specs.Prelude.{Bool, true, false, ◌&&◌, List, [], ◌∷◌, ℕ, T, eqb}
use Prim.Native.String.{String}
use Rattle.octets.specs.Lists.{text, every, agree}
use Rattle.place.specs.Inner.Texts.{place_text}
use Rattle.place.specs.declared.Place.{Place}

-- what a pattern does on a text: it matches at a start with a length, or nowhere
pub data Example : Type 0 where
  on : String → String → ℕ → ℕ → Example
  nowhere_on : String → String → Example

abbrev same_place : Place → Bool → ℕ → ℕ → Bool
same_place r found start size = agree r.found found && eqb r.start start && eqb r.size size

unfoldable pub right : Example → Bool
unfolding place_text
right (on p t start length) = same_place (place_text false (text p) (text t)) true start length
right (nowhere_on p t) = same_place (place_text false (text p) (text t)) false 0 0

unfoldable pub examples : List Example
examples =
    -- the smallest start
    on "Jo" "a Joe Jo" 2 2
    ∷ on "b" "abab" 1 1
    -- and of those the longest length, whichever star takes the bytes
    ∷ on "ab*" "xabbbab" 1 4
    ∷ on "a*ab" "aaab" 0 4
    ∷ on "a*.b*" "aabb" 0 4
    ∷ on ".*" "abc" 0 3
    -- an empty part fits, at the smallest start too
    ∷ on "a*" "baa" 0 0
    ∷ on "a*" "" 0 0
    ∷ on "b*$" "baa" 3 0
    ∷ on "$" "ab" 2 0
    ∷ on "^" "ab" 0 0
    ∷ on "^$" "" 0 0
    -- anchors
    ∷ on "^a*" "aab" 0 2
    ∷ on "a*$" "aabaa" 3 2
    ∷ on "[^b]*$" "ab/c" 2 2
    ∷ nowhere_on "^b" "ab"
    ∷ nowhere_on "^$" "a"
    -- no match, and no pattern
    ∷ nowhere_on "ac" "abab"
    ∷ nowhere_on "[z-a]" "z"
    ∷ nowhere_on "" "a"
    ∷ []

-- every example is right
pub all_right : T (every right examples)
unfolding right examples
all_right = tt

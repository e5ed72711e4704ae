-- Worked examples: what the plain matcher answers, refusals too. One list, one claim.
use Rattle.std.specs.Prelude.{Bool, true, false, ◌&&◌, List, [], ◌∷◌, ℕ, T, eqb, replicate}
use Prim.Native.String.{String}
use Rattle.octets.specs.Lists.{text, every, agree}
use Rattle.plain.specs.Plain.{plain_answer}
use Rattle.plain.specs.declared.Answer.{Answer}

-- a pattern on a text: its place, or none; a pattern on so many bytes `a`: the refusal's number
pub data Example : Type 0 where
  on : String → String → ℕ → ℕ → Example
  nowhere_on : String → String → Example
  refused_on : String → ℕ → ℕ → Example

abbrev same_answer : Answer → ℕ → Bool → ℕ → ℕ → Bool
same_answer a refusal found start size = eqb a.refusal refusal && agree a.found found && eqb a.start start && eqb a.size size

unfoldable pub right : Example → Bool
unfolding plain_answer
right (on p t start size) = same_answer (plain_answer (text p) (text t)) 0 true start size
right (nowhere_on p t) = same_answer (plain_answer (text p) (text t)) 0 false 0 0
right (refused_on p n refusal) = same_answer (plain_answer (text p) (replicate n 97)) refusal false 0 0

unfoldable pub examples : List Example
examples =
    -- "places of CR 2 included"
    on "ab*" "xabbbab" 1 4
    ∷ on "a*" "baa" 0 0
    ∷ on "a*ab" "aaab" 0 4
    ∷ nowhere_on "ac" "abab"
    -- lists, byte by byte: a first `]`, a `-` that is last, a range, `^`
    ∷ on "[]a]b*" "x]b" 1 2
    ∷ on "[a-]" "b-a" 1 1
    ∷ on "[+--]" "a," 1 1
    ∷ on "[^a-c]" "abcd" 3 1
    -- "for edition 1 patterns": `a|b` is three bytes
    ∷ on "a|b" "aa|b" 1 3
    ∷ nowhere_on "a|b" "ab"
    -- "Refusals: 5, then 17 for a longer text"
    ∷ refused_on "" 0 5
    ∷ refused_on "a**" 257 5
    ∷ refused_on "a" 257 17
    ∷ []

-- every example is right
pub all_right : T (every right examples)
unfolding right examples
all_right = tt

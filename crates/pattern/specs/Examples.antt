-- Worked examples of reading and matching: one list, one claim. Each line's answer is from document 01, source 001 or
-- IEEE 1003.1-2004, or one of our readings where these leave room (docs/DECISIONS.md).
use Rattle.std.specs.Prelude.{Bool, true, false, not, ℕ, zero, suc, List, [], ◌∷◌, T}
use Rattle.std.proofs.Math.Option.{Option, none, some}
use Prim.Native.String.{String}
use Rattle.octets.specs.Lists.{text, every, agree}
use Rattle.basic.specs.Reading.{read_pattern}
use Rattle.basic.specs.Inner.Judged.{was_read}
use Rattle.basic.specs.Pattern.{Pattern}
use Rattle.pattern.specs.Matching.{written_matches, name_matches}

-- a string that is refused; so many elements, which are refused or not; what a pattern does on a text, and on a name
pub data Example : Type 0 where
  is_refused : String → Example
  counted : ℕ → Bool → Example
  on : String → List ℕ → Bool → Example
  on_bytes : List ℕ → List ℕ → Bool → Example
  on_name : String → String → Bool → Example

abbrev passes : (Pattern → List ℕ → Bool) → Option Pattern → List ℕ → Bool → Bool
passes test none s expected = false
passes test (some p) s expected = agree expected (test p s)

-- n times `a*`, then `$`
abbrev stars : ℕ → List ℕ
stars zero = text "$"
stars (suc n) = 97 ∷ 42 ∷ stars n

unfoldable pub right : Example → Bool
unfolding read_pattern written_matches name_matches
right (is_refused p) = not (was_read (read_pattern (text p)))
right (counted n expected) = agree expected (was_read (read_pattern (94 ∷ stars n)))
right (on p s expected) = passes written_matches (read_pattern (text p)) s expected
right (on_bytes p s expected) = passes written_matches (read_pattern p) s expected
right (on_name p s expected) = passes name_matches (read_pattern (text p)) (text s) expected

unfoldable pub examples : List Example
examples =
    -- "the empty pattern"; an anchor alone is none, and has no element
    is_refused ""
    ∷ on "^" (text "a") true
    ∷ on "$" (text "a") true
    ∷ on "^$" (text "a") false
    ∷ on "^$" [] true
    -- some part fits, unless an anchor holds it
    ∷ on "Jo" (text "a Joe") true
    ∷ on "^Jo" (text "a Joe") false
    ∷ on "Joe$" (text "a Joe") true
    ∷ on "a Jo$" (text "a Joe") false
    ∷ on "^^" (text "^") true
    ∷ on "$$" (text "a$") true
    ∷ on "\\$" (text "$b") true
    -- "`*` first, or right after the leading `^`, is ordinary"
    ∷ on "^*a" (text "*a") true
    ∷ on "^*a" (text "a") false
    ∷ on "^**$" (text "***") true
    ∷ on "$*x" (text "x") true
    ∷ is_refused "***"
    ∷ is_refused "^***"
    ∷ is_refused "a**"
    ∷ is_refused "\\***"
    -- more than 60 elements; a `*` that repeats is no element
    ∷ counted 60 true
    ∷ counted 61 false
    -- the six pairs, and no other
    ∷ on "^\\.\\[\\\\\\*\\^\\$$" (text ".[\\*^$") true
    ∷ is_refused "a\\"
    ∷ is_refused "\\]"
    ∷ is_refused "\\(a\\)"
    ∷ is_refused "a\\{2\\}"
    ∷ is_refused "\\1"
    -- lists: `]` first, `\` always ordinary, `^` only first
    ∷ on "^[]a]$" (text "]") true
    ∷ on "^[^]a]$" (text "]") false
    ∷ on "^[\\]]$" (text "\\]") true
    ∷ on "^[a^]$" (text "^") true
    ∷ is_refused "[a"
    ∷ is_refused "[]"
    ∷ is_refused "[^]"
    -- ranges by byte number; one byte is a range, one that falls is refused
    ∷ on "^[a-a]$" (text "a") true
    ∷ on "^[a-c]$" (text "c") true
    ∷ on "^[a-c]$" (text "d") false
    ∷ is_refused "[z-a]"
    ∷ on "^[]-a]$" (text "_") true
    ∷ on "^[]-]]$" (text "-]") true
    ∷ is_refused "[]--]"
    ∷ on "^[A-\\]$" (text "Z") true
    ∷ on "^[a-cc-e]$" (text "d") true
    -- `-` first, last, or an end of a range, and nowhere else
    ∷ on "^[-a]$" (text "-") true
    ∷ on "^[a-]$" (text "-") true
    ∷ on "^[a-c-]$" (text "-") true
    ∷ on "^[--]$" (text "-") true
    ∷ on "^[---]$" (text "-") true
    ∷ on "^[---a]$" (text "a") true
    ∷ on "^[--/]$" (text ".") true
    ∷ on "^[^--/]$" (text ".") false
    ∷ on "^[%--]$" (text "+") true
    ∷ on "^[%---]$" (text "-") true
    ∷ is_refused "[a--]"
    ∷ is_refused "[a-c-e]"
    ∷ is_refused "[a-c--]"
    ∷ is_refused "[a-c--e]"
    ∷ is_refused "[%---/]"
    ∷ is_refused "[----a]"
    -- `[.` `[=` `[:` inside a list
    ∷ on "^[.]$" (text ".") true
    ∷ on "^[:a:]$" (text ":") true
    ∷ on "^[[-a]$" (text "[") true
    ∷ is_refused "[[.a.]]"
    ∷ is_refused "[a[=]"
    ∷ is_refused "[^[:]"
    ∷ is_refused "[A-[.]"
    -- ordinary outside a list
    ∷ on "^(a|b)+?{1}]$" (text "(a|b)+?{1}]") true
    -- "`.` and a `^` list never meet byte 0"; a plain byte or range may
    ∷ on "^.$" (0 ∷ []) false
    ∷ on "^[^a]$" (0 ∷ []) false
    ∷ on "^.$" (255 ∷ []) true
    ∷ on_bytes (94 ∷ 0 ∷ 36 ∷ []) (0 ∷ []) true
    ∷ on_bytes (94 ∷ 91 ∷ 0 ∷ 45 ∷ 9 ∷ 93 ∷ 36 ∷ []) (0 ∷ []) true
    -- on a name, after negation, both forms are tried
    ∷ on_name "^from$" "FROM" true
    ∷ on_name "^FROM$" "from" true
    ∷ on_name "^[^f]$" "f" true
    ∷ on_name "^[^Ff]$" "f" false
    ∷ on "^[^f]$" (text "f") false
    ∷ []

-- every example is right
pub all_right : T (every right examples)
unfolding right examples
all_right = tt

-- Matching as a test that computes. proofs/Meaning shows that it is true exactly if some part fits.
use Rattle.std.specs.Prelude.{Bool, true, false, ◌&&◌, ◌||◌, ℕ, List, [], ◌∷◌}
use Rattle.octets.specs.Lists.{pick, empty}
use Rattle.octets.specs.Bytes.{lower, upper}
use Rattle.basic.specs.Pattern.{Atom, Elem, once, star, Pattern, meets}

-- "On a name an element meets a byte if it meets its lower or its upper form"
abbrev pub meets_name : Atom → ℕ → Bool
meets_name a b = meets a (lower b) || meets a (upper b)

-- any number of bytes that m takes, and then k says of what is left whether the later elements fit at its front
abbrev pub repeated : (ℕ → Bool) → (List ℕ → Bool) → List ℕ → Bool
repeated m k [] = k []
repeated m k (b ∷ s) = k (b ∷ s) || (m b && repeated m k s)

-- one byte, and then k
abbrev pub single_then : (ℕ → Bool) → (List ℕ → Bool) → List ℕ → Bool
single_then m k [] = false
single_then m k (b ∷ s) = m b && k s

-- the elements fit at the front of s, and (true) nothing is left
unfoldable pub front : (Atom → ℕ → Bool) → Bool → List Elem → List ℕ → Bool
front meet true [] s = empty s
front meet false [] s = true
front meet end (once a ∷ es) s = single_then (meet a) (front meet end es) s
front meet end (star a ∷ es) s = repeated (meet a) (front meet end es) s

-- at the front of s or of some later part
abbrev pub somewhere : (List ℕ → Bool) → List ℕ → Bool
somewhere k [] = k []
somewhere k (b ∷ s) = k (b ∷ s) || somewhere k s

-- from the front where `^` stands, else anywhere
unfoldable pub matches : (Atom → ℕ → Bool) → Pattern → List ℕ → Bool
unfolding front
matches meet p s = pick p.at_start (front meet p.at_end p.elems s) (somewhere (front meet p.at_end p.elems) s)

-- "Line and Content are matched as written"
unfoldable pub written_matches : Pattern → List ℕ → Bool
unfolding matches
written_matches p s = matches meets p s

-- "On a name": Header patterns
unfoldable pub name_matches : Pattern → List ℕ → Bool
unfolding matches
name_matches p s = matches meets_name p s

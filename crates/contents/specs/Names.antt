-- Header names as they are matched (document 02, change request 1): the short ones of RFC 3261 stand for the long ones.
use Rattle.std.specs.Prelude.{ℕ, List, [], ◌∷◌}
use Prim.Native.String.{String}
use Rattle.octets.specs.Lists.{text, pick}
use Rattle.octets.specs.Bytes.{same_any_case}

-- a one-letter name and the long one
pub record Short : Type 0 where
  pub letter : List ℕ
  pub long : List ℕ

abbrev is : String → String → Short
is letter long = record { letter = text letter; long = text long }

-- "i Call-ID, m Contact, e Content-Encoding, l Content-Length, c Content-Type, f From, s Subject, k Supported, t To, v Via"
abbrev pub short_names : List Short
short_names =
    is "i" "Call-ID"
    ∷ is "m" "Contact"
    ∷ is "e" "Content-Encoding"
    ∷ is "l" "Content-Length"
    ∷ is "c" "Content-Type"
    ∷ is "f" "From"
    ∷ is "s" "Subject"
    ∷ is "k" "Supported"
    ∷ is "t" "To"
    ∷ is "v" "Via"
    ∷ []

-- "in either case"; every other name stays as written
abbrev pub long_by : List Short → List ℕ → List ℕ
long_by [] written = written
long_by (x ∷ xs) written = pick (same_any_case written x.letter) x.long (long_by xs written)

-- "Before matching, the one-letter names of RFC 3261 become the long ones"
unfoldable pub name_as_matched : List ℕ → List ℕ
name_as_matched written = long_by short_names written

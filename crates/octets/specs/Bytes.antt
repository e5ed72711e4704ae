-- Bytes: the token rule, white space, and the two case forms of a letter.
use Rattle.std.specs.Prelude.{Bool, not, ◌&&◌, ◌||◌, ℕ, ◌+◌, ◌-◌, List, [], ◌∷◌, leb, eqb}
use Rattle.octets.specs.Lists.{text, pick, every, some_of, empty, same}

-- from lo to hi, both counted
abbrev pub within : ℕ → ℕ → ℕ → Bool
within lo hi b = leb lo b && leb b hi

-- ---- case

-- the lower form of a byte: A..Z are 65..90, a..z are 97..122
abbrev pub lower : ℕ → ℕ
lower b = pick (within 65 90 b) (b + 32) b

-- the upper form
abbrev pub upper : ℕ → ℕ
upper b = pick (within 97 122 b) (b - 32) b

-- each byte's lower form
abbrev pub lowers : List ℕ → List ℕ
lowers [] = []
lowers (b ∷ s) = lower b ∷ lowers s

-- "in any case"
abbrev pub same_any_case : List ℕ → List ℕ → Bool
same_any_case s t = same (lowers s) (lowers t)

-- ---- classes

-- RFC 3261 token: alphanum / "-" / "." / "!" / "%" / "*" / "_" / "+" / "`" / "'" / "~"
abbrev pub token_byte : ℕ → Bool
token_byte b = within 48 57 b || within 65 90 b || within 97 122 b || some_of (eqb b) (text "-.!%*_+`'~")

-- one or more token bytes
abbrev pub token : List ℕ → Bool
token s = not (empty s) && every token_byte s

-- SP or HTAB
abbrev pub white : ℕ → Bool
white b = eqb b 32 || eqb b 9

-- "URI of one or more bytes 33..126"
abbrev pub uri_byte : ℕ → Bool
uri_byte b = within 33 126 b

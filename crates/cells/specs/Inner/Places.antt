-- The fields and the strings of an image as the code reads them, by places in the bytes. The definition to believe is profile
-- `Judging`; profile `proofs/Same` shows that both give the same number and place.
use Rattle.std.specs.Prelude.{ℕ, zero, suc, ◌+◌, ◌*◌, ◌≤◌, ◌<◌, Bool, not, ◌||◌, List, [], ◌∷◌, ◌++◌, map, length, get_or, take, drop, leb, ltb, eqb}
use Rattle.octets.specs.Lists.{pick, empty}
use Rattle.octets.specs.Bytes.{token}
use Rattle.basic.specs.Inner.Judged.{is_pattern}
use Rattle.cells.specs.declared.Suits.{Suits}
use Rattle.cells.specs.Inner.Out.{Out, good, bad, ◌>>=◌, must, ◌>>◌}

-- ---- integers are big-endian

abbrev pub byte : List ℕ → ℕ → ℕ
byte s at = get_or s at 0

abbrev pub word : List ℕ → ℕ → ℕ
word s at = byte s at * 256 + byte s (at + 1)

abbrev pub long : List ℕ → ℕ → ℕ
long s at = word s at * 65536 + word s (at + 2)

-- a field of k bytes at `at`: refused with 2, at the image's length, where it is cut
unfoldable pub whole : List ℕ → ℕ → ℕ → Out Unit
whole s at k = must (leb (at + k) (length s)) 2 (length s)

unfoldable pub u8 : List ℕ → ℕ → Out ℕ
u8 s at = do
  whole s at 1
  good (byte s at)

unfoldable pub u16 : List ℕ → ℕ → Out ℕ
u16 s at = do
  whole s at 2
  good (word s at)

unfoldable pub u32 : List ℕ → ℕ → Out ℕ
u32 s at = do
  whole s at 4
  good (long s at)

-- a byte that is at most `most`
unfoldable pub limited : List ℕ → ℕ → ℕ → Out ℕ
limited s at most = do
  v ← u8 s at
  must (leb v most) 4 at
  good v

-- ---- a section: a count, at most `most`, and as many items one after another. An item is read by `f`, which is told the items before it

unfoldable pub many : {A : Type 0} → (List A → ℕ → Out (A × ℕ)) → ℕ → ℕ → List A → Out (List A × ℕ)
many f zero at before = good (before, at)
many f (suc n) at before = do
  (a, next) ← f before at
  many f n next (before ++ (a ∷ []))

unfoldable pub counted : List ℕ → ℕ → ℕ → Out ℕ
counted s at most = do
  n ← u16 s at
  must (leb n most) 4 at
  good n

-- ---- strings: a 2-byte length (0..1,024), bytes

unfoldable pub sized : List ℕ → ℕ → Out ℕ
sized s at = do
  n ← counted s at 1024
  whole s (at + 2) n
  good n

unfoldable pub string : List ℕ → ℕ → Out (List ℕ × ℕ)
string s at = do
  n ← sized s at
  good (take n (drop (at + 2) s), at + 2 + n)

unfoldable pub reading_strings : List ℕ → ℕ → ℕ → Out (List (List ℕ) × ℕ)
reading_strings s n at = many (λ _. string s) n at []

-- ---- fields that name a string

-- what a string must be for its use: 0 RequestURI or server, 1 Method, 2 and 4 patterns, 5 service information
unfoldable pub usable : ℕ → List ℕ → Bool
usable purpose t = pick (eqb purpose 1) (token t) (pick (eqb purpose 2 || eqb purpose 4) (is_pattern t) (eqb purpose 5 || not (empty t)))

-- all that a string may be used for
unfoldable pub uses_of : List ℕ → Suits
uses_of t = record { server = not (empty t); method = token t; pattern = is_pattern t }

abbrev pub absent : ℕ
absent = 65535

-- a 2-byte string index in the table, of a string that may be used so
unfoldable pub named : List ℕ → List (List ℕ) → ℕ → ℕ → Out ℕ
named s strs kind at = do
  i ← u16 s at
  must (ltb i (length strs)) 4 at
  must (usable kind (get_or strs i [])) 5 at
  good i

-- the same, or 65535
unfoldable pub named_or_absent : List ℕ → List (List ℕ) → ℕ → ℕ → Out ℕ
named_or_absent s strs kind at = do
  i ← u16 s at
  must (eqb i absent || ltb i (length strs)) 4 at
  must (eqb i absent || usable kind (get_or strs i [])) 5 at
  good i

-- a 2-byte number that is v
unfoldable pub exactly : List ℕ → ℕ → ℕ → Out ℕ
exactly s v at = do
  i ← u16 s at
  must (eqb i v) 4 at
  good i

-- ---- where the strings lie

-- the places of n strings from a place on: each has its length in two bytes before it
unfoldable pub offsets : List ℕ → ℕ → ℕ → List ℕ
offsets s zero at = []
offsets s (suc n) at = at ∷ offsets s n (at + 2 + word s at)

-- the place after them
unfoldable pub past : List ℕ → ℕ → ℕ → ℕ
past s zero at = at
past s (suc n) at = past s n (at + 2 + word s at)

-- ---- what the contracts of the code cite

-- where a reading ends, without what it read
abbrev pub ends : {A : Type 0} → Out (A × ℕ) → Out ℕ
ends (good p) = good p.1
ends (bad n q) = bad n q

-- the string at an offset, and the strings at a table's first n offsets
abbrev pub text_at : List ℕ → ℕ → List ℕ
text_at s o = take (word s o) (drop (o + 2) s)

abbrev pub texts : List ℕ → ℕ → List ℕ → List (List ℕ)
texts s n table = map (text_at s) (take n table)

-- the strings of the table's first n offsets lie in s
abbrev pub Inside : List ℕ → ℕ → List ℕ → Type 0
Inside s n table = (k : ℕ) → k < n → get_or table k 0 + 2 + word s (get_or table k 0) ≤ length s

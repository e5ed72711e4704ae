-- Reading an image field by field: what was read with the next place, or the first fault with its number and its place.
use Rattle.std.specs.Prelude.{Bool, ℕ, zero, suc, ◌+◌, ◌*◌, List, [], ◌∷◌, ◌++◌, length, take, drop, get_or, leb}
use Rattle.octets.specs.Lists.{pick}

-- read, with the next place; or a fault: its number and its place
pub data Got (A : Type 0) : Type 0 where
  got : A → ℕ → Got A
  fault : ℕ → ℕ → Got A

-- a reading of the image s from the place at
abbrev pub Reader : Type 0 → Type 0
Reader A = List ℕ → ℕ → Got A

-- go on with what was read; a fault stops the reading
abbrev pub and_then : {A B : Type 0} → Got A → (A → ℕ → Got B) → Got B
and_then (got a at) f = f a at
and_then (fault n place) f = fault n place

-- one field after the other
infixl 10 ◌>>=◌
abbrev pub ◌>>=◌ : {A B : Type 0} → Reader A → (A → Reader B) → Reader B
◌>>=◌ r f = λ s at. and_then (r s at) (λ a next. f a s next)

-- the result
abbrev pub give : {A : Type 0} → A → Reader A
give a = λ s at. got a at

-- a refusal with this number at this place, unless the test holds
abbrev pub unless : Bool → ℕ → ℕ → Reader (Unit {0})
unless ok number place = λ s at. pick ok (got tt at) (fault number place)

-- the place that is read next
abbrev pub here : Reader ℕ
here = λ s at. got at at

-- "Number 2 is placed at the image's length and met at the field that is cut."
abbrev pub room : ℕ → Reader (Unit {0})
room n = λ s at. pick (leb (at + n) (length s)) (got tt at) (fault 2 (length s))

-- "Integers are big-endian": n bytes from a place, as a number
abbrev pub number : ℕ → List ℕ → ℕ → ℕ → ℕ
number zero s at acc = acc
number (suc n) s at acc = number n s (at + 1) (acc * 256 + get_or s at 0)

-- a whole integer of n bytes
abbrev pub integer : ℕ → Reader ℕ
integer n = do
  _ ← room n
  λ s at. got (number n s at 0) (at + n)

-- an integer of n bytes that must pass a test, or number 4 "at the field's first byte"
abbrev pub field : ℕ → (ℕ → Bool) → Reader ℕ
field n ok = do
  at ← here
  v ← integer n
  _ ← unless (ok v) 4 at
  give v

-- n bytes as they stand
abbrev pub plain : ℕ → Reader (List ℕ)
plain n = do
  _ ← room n
  λ s at. got (take n (drop at s)) (at + n)

-- n entries one after the other; each reading is given the entries before it
unfoldable pub entries : {A : Type 0} → (List A → Reader A) → ℕ → List A → Reader (List A)
entries one zero before = give before
entries one (suc n) before = do
  a ← one before
  entries one n (before ++ (a ∷ []))

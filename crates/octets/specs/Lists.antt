-- Choosing by a test, tests on lists, and the bytes of a text: the words that every other definition is written in.
use Rattle.std.specs.Prelude.{Bool, true, false, not, ◌&&◌, ◌||◌, ℕ, ◌+◌, List, [], ◌∷◌, eqb}
use Prim.Native.Char.{code}
use Prim.Native.String as S
use Prim.Native.String.{String}

-- the bytes of an ASCII text
abbrev pub text : String → List ℕ
text S.[] = []
text (S.◌∷◌ c s) = code c ∷ text s

-- the first where the test holds, else the second
abbrev pub pick {ℓ} : {A : Type ℓ} → Bool → A → A → A
pick true a b = a
pick false a b = b

-- two tests with one answer
abbrev pub agree : Bool → Bool → Bool
agree true b = b
agree false b = not b

-- every element passes
abbrev pub every {ℓ} : {A : Type ℓ} → (A → Bool) → List A → Bool
every f [] = true
every f (a ∷ l) = f a && every f l

-- some element passes
abbrev pub some_of {ℓ} : {A : Type ℓ} → (A → Bool) → List A → Bool
some_of f [] = false
some_of f (a ∷ l) = f a || some_of f l

-- the elements that pass
abbrev pub only {ℓ} : {A : Type ℓ} → (A → Bool) → List A → List A
only f [] = []
only f (a ∷ l) = let r = only f l in pick (f a) (a ∷ r) r

-- a sum over a list
abbrev pub total {ℓ} : {A : Type ℓ} → (A → ℕ) → List A → ℕ
total f [] = 0
total f (a ∷ l) = f a + total f l

-- nothing in it
abbrev pub empty {ℓ} : {A : Type ℓ} → List A → Bool
empty [] = true
empty (a ∷ l) = false

-- equal bytes
abbrev pub same : List ℕ → List ℕ → Bool
same [] [] = true
same [] (b ∷ t) = false
same (a ∷ s) [] = false
same (a ∷ s) (b ∷ t) = eqb a b && same s t

-- the first byte that is left, or 256 where none is
abbrev pub peek : List ℕ → ℕ
peek [] = 256
peek (b ∷ s) = b

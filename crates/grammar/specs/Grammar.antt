-- A small grammar of texts: which texts there are, and what is read from each. No algorithm, no proof.
use Rattle.std.specs.Prelude.{Bool, ◌≡◌, ◌⊎◌, ℕ, suc, ◌<◌, ◌≤◌, List, [], ◌∷◌, ◌++◌, reverse, T, length, take}
use Rattle.std.proofs.Math.Option.{Option, none, some}
use Rattle.octets.specs.Lists.{pick}
use Rattle.cuts.specs.Cutting.{begins}

-- ---- what it is

infixr 30 ◌then◌
infixr 20 ◌or◌
-- texts from which an A is read
pub data Grammar : Type 0 → Type 1 where
  -- these bytes
  word : List ℕ → Grammar (Unit {0})
  -- one byte of a set
  one : (ℕ → Bool) → Grammar ℕ
  -- the first bytes, and then all up to and with the first of the second
  span : List ℕ → List ℕ → Grammar (Unit {0})
  -- one after the other
  ◌then◌ : {A B : Type 0} → Grammar A → Grammar B → Grammar (A × B)
  -- either
  ◌or◌ : {A : Type 0} → Grammar A → Grammar A → Grammar A
  -- none or one
  option : {A : Type 0} → Grammar A → Grammar (Option A)
  -- none or more
  many : {A : Type 0} → Grammar A → Grammar (List A)
  -- the same texts, and what is read is made into something else
  into : {A B : Type 0} → (A → B) → Grammar A → Grammar B

-- ---- what it means

-- the bytes passed, the last of them first, end with w
abbrev pub ended : List ℕ → List ℕ → Bool
ended w passed = begins (reverse w) passed

-- behind these bytes passed, s goes up to and with the first w
abbrev pub UpTo : List ℕ → List ℕ → List ℕ → Type 0
UpTo w passed [] = ⊥
UpTo w passed (b ∷ s) = pick (ended w (b ∷ passed)) (s ≡ []) (UpTo w (b ∷ passed) s)

-- a list of texts, one after the other
abbrev pub Each : {A : Type 0} → (List ℕ → A → Type 0) → List ℕ → List A → Type 0
Each M s [] = s ≡ []
Each M s (a ∷ l) = (u : List ℕ) × (v : List ℕ) × (s ≡ u ++ v) × M u a × Each M v l

-- a text or none
abbrev pub AtMost : {A : Type 0} → (List ℕ → A → Type 0) → List ℕ → Option A → Type 0
AtMost M s none = s ≡ []
AtMost M s (some a) = M s a

-- s is a text of the grammar, and a is read from it
unfoldable pub Member : {A : Type 0} → Grammar A → List ℕ → A → Type 0
Member (word w) s a = s ≡ w
Member (one p) s b = (s ≡ b ∷ []) × T (p b)
Member (span o c) s a = (t : List ℕ) × (s ≡ o ++ t) × UpTo c [] t
Member (g then h) s p = (u : List ℕ) × (v : List ℕ) × (s ≡ u ++ v) × Member g u p.0 × Member h v p.1
Member (g or h) s a = Member g s a ⊎ Member h s a
Member (option g) s o = AtMost (λ t a. Member g t a) s o
Member (many g) s l = Each (λ t a. Member g t a) s l
Member (into {A} f g) s b = (a : A) × (b ≡ f a) × Member g s a

-- ---- where a text goes wrong

-- some text of the grammar begins with these bytes
pub record GoesOn {A : Type 0} (g : Grammar A) (s : List ℕ) : Type 0 where
  pub rest : List ℕ
  pub value : A
  pub whole : Member g (s ++ rest) value

-- "at the first byte with which no text of this subset goes on, or at the end if more is needed"
pub record WrongAt {A : Type 0} (g : Grammar A) (s : List ℕ) (n : ℕ) : Type 0 where
  pub no_text : (a : A) → Member g s a → ⊥
  pub within : n ≤ length s
  pub before : GoesOn g (take n s)
  pub here : n < length s → GoesOn g (take (suc n) s) → ⊥

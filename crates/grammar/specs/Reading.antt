-- Reading as a function that computes: what is read from a text of the grammar, or the place where it goes wrong.
-- proofs/Meaning shows that this is what Member and WrongAt say.
use Rattle.std.specs.Prelude.{Bool, ℕ, zero, suc, List, [], ◌∷◌, eqb, length}
use Rattle.std.proofs.Math.Option.{none, some}
use Rattle.octets.specs.Lists.{pick}
use Rattle.grammar.specs.Grammar.{Grammar, word, one, span, ◌then◌, ◌or◌, option, many, into, ended}

-- read; or wrong behind so many bytes; or read in two ways
pub data Read (R : Type 0) : Type 0 where
  read_as : R → Read R
  wrong : ℕ → Read R
  twice : Read R

-- one byte was passed
abbrev pub later : {R : Type 0} → Read R → Read R
later (read_as r) = read_as r
later (wrong n) = wrong (suc n)
later twice = twice

abbrev pub larger : ℕ → ℕ → ℕ
larger zero n = n
larger (suc m) zero = suc m
larger (suc m) (suc n) = suc (larger m n)

-- two ways to go on: the one that is right, or else the one that goes on longer
abbrev pub better : {R : Type 0} → Read R → Read R → Read R
better (read_as r) (read_as q) = twice
better (read_as r) (wrong n) = read_as r
better (read_as r) twice = twice
better (wrong m) (read_as q) = read_as q
better (wrong m) (wrong n) = wrong (larger m n)
better (wrong m) twice = twice
better twice y = twice

-- these bytes, and then k reads the rest
abbrev pub expect : {R : Type 0} → List ℕ → (List ℕ → Read R) → List ℕ → Read R
expect [] k s = k s
expect (c ∷ w) k [] = wrong 0
expect (c ∷ w) k (b ∷ s) = pick (eqb c b) (later (expect w k s)) (wrong 0)

-- one byte of a set, and then k
abbrev pub expect_one : {R : Type 0} → (ℕ → Bool) → (ℕ → List ℕ → Read R) → List ℕ → Read R
expect_one p k [] = wrong 0
expect_one p k (b ∷ s) = pick (p b) (later (k b s)) (wrong 0)

-- all up to and with the first w, behind these bytes passed, and then k
abbrev pub up_to : {R : Type 0} → List ℕ → List ℕ → (List ℕ → Read R) → List ℕ → Read R
up_to w passed k [] = wrong 0
up_to w passed k (b ∷ s) = later (pick (ended w (b ∷ passed)) (k s) (up_to w (b ∷ passed) k s))

-- fewer than n times r, and then k
abbrev pub repeat : {A R : Type 0} → ((A → List ℕ → Read R) → List ℕ → Read R) → ℕ → (List A → List ℕ → Read R) → List ℕ → Read R
repeat r zero k s = wrong 0
repeat r (suc n) k s = better (r (λ a. repeat r n (λ l. k (a ∷ l))) s) (k [] s)

-- a text of the grammar, and then k is given what was read and reads the rest
unfoldable pub read : {A R : Type 0} → Grammar A → (A → List ℕ → Read R) → List ℕ → Read R
read (word w) k s = expect w (k tt) s
read (one p) k s = expect_one p k s
read (span o c) k s = expect o (up_to c [] (k tt)) s
read (g then h) k s = read g (λ a t. read h (λ b. k (a, b)) t) s
read (g or h) k s = better (read g k s) (read h k s)
read (option g) k s = better (read g (λ a. k (some a)) s) (k none s)
read (many g) k s = repeat (λ l t. read g l t) (suc (length s)) k s
read (into f g) k s = read g (λ a. k (f a)) s

-- and then the text's end
abbrev pub end : {A : Type 0} → A → List ℕ → Read A
end a [] = read_as a
end a (b ∷ s) = wrong 0

unfoldable pub read_text : {A : Type 0} → Grammar A → List ℕ → Read A
unfolding read
read_text g s = read g end s

-- Cutting bytes: at the first mark, or at every byte that a test finds.
use Rattle.std.specs.Prelude.{Bool, true, false, ◌&&◌, ℕ, List, [], ◌∷◌, length, drop, eqb}
use Rattle.std.proofs.Math.Option.{Option, none, some}
use Rattle.octets.specs.Lists.{pick}
use Rattle.octets.specs.Option.{◌>>=◌}

-- what stands before a cut and after it
pub record Cut : Type 0 where
  pub before : List ℕ
  pub after : List ℕ

-- s begins with the mark
abbrev pub begins : List ℕ → List ℕ → Bool
begins [] s = true
begins (a ∷ mark) [] = false
begins (a ∷ mark) (b ∷ s) = eqb a b && begins mark s

-- at the first place where the mark begins, which is dropped; none where it stands nowhere
unfoldable pub first_cut : List ℕ → List ℕ → Option Cut
first_cut mark [] = none
first_cut mark (b ∷ s) =
    let later : Option Cut = first_cut mark s in
    pick (begins mark (b ∷ s)) (some (record { before = []; after = drop (length mark) (b ∷ s) })) (do
      c ← later
      some (record { before = b ∷ c.before; after = c.after }))

-- what stands before a cut, or everything where there is none
abbrev pub before_cut : List ℕ → Option Cut → List ℕ
before_cut s none = s
before_cut s (some c) = c.before

-- a byte before the first piece
abbrev pub push : ℕ → List (List ℕ) → List (List ℕ)
push b [] = (b ∷ []) ∷ []
push b (l ∷ ls) = (b ∷ l) ∷ ls

-- at every byte that stops in the mode it is met in, which is dropped; each byte leads to the next mode
unfoldable pub cut_by : {M : Type 0} → (M → ℕ → Bool) → (M → ℕ → M) → M → List ℕ → List (List ℕ)
cut_by stops next m [] = [] ∷ []
cut_by stops next m (b ∷ s) =
    let later : List (List ℕ) = cut_by stops next (next m b) s in
    pick (stops m b) ([] ∷ later) (push b later)

-- at every byte c
abbrev pub cut_at : ℕ → List ℕ → List (List ℕ)
cut_at c s = cut_by (λ (u : Unit {0}) b. eqb b c) (λ u b. u) tt s

-- the first line, or nothing
abbrev pub first_line : List (List ℕ) → List ℕ
first_line [] = []
first_line (l ∷ ls) = l

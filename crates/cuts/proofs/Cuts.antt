-- The laws of `cut_by` by place, once for every way to stop and every mode: the first piece with what follows it, and the pieces from a place on.
use mathlib.Core.Bool.{Bool, true, false, and-true}
use mathlib.Core.Path.{◌≡◌, refl, sym, ap, ◌∙◌}
use mathlib.Core.List.{List, [], ◌∷◌}
use Prim.Native.Nat.{ℕ, suc, ◌+◌, ◌-◌, ◌≤◌, ◌<◌, zero-le, suc-le-suc}
use native.Mathlib.Nat.{suc-add}
use native.Mathlib.Omega.{arith}
use lib.ListN.{length, take, drop}
use lib.Dec.{eqb}
use lib.Seq.{take_all}
use borrow.Author.Tests.{eq-eqb, ne_eqb, eqb-true, eqb-false}
use Rattle.octets.specs.Lists.{pick}
use Rattle.octets.proofs.Tests.{either}
use Rattle.cuts.specs.Cutting.{begins, push, cut_by, cut_at}
use Rattle.cuts.specs.Inner.Parts.{part}
use Rattle.cuts.specs.Inner.Searching.{first, span}
use Rattle.cuts.proofs.From as F

-- the pieces from a place on; none past the end
abbrev pub pieces_from : {M : Type 0} → (M → ℕ → Bool) → (M → ℕ → M) → M → List ℕ → ℕ → List (List ℕ)
pieces_from stops next again = F.from (cut_by stops next again)

-- `again` is the mode after each cut, as it is at the start
module _ {M : Type 0} (stops : M → ℕ → Bool) (next : M → ℕ → M) (again : M) (reset : (m : M) (b : ℕ) → stops m b ≡ true → next m b ≡ again) where
  abbrev cuts_from : List ℕ → ℕ → List (List ℕ)
  cuts_from = pieces_from stops next again

  abbrev all : List ℕ → List (List ℕ)
  all = cut_by stops next again

  pub span_yes : (m : M) (b : ℕ) (s : List ℕ) → stops m b ≡ true → span stops next m (b ∷ s) ≡ 0
  unfolding span
  span_yes m b s e = ap (λ (t : Bool). pick t 0 (suc (span stops next (next m b) s))) e

  pub span_no : (m : M) (b : ℕ) (s : List ℕ) → stops m b ≡ false → span stops next m (b ∷ s) ≡ suc (span stops next (next m b) s)
  unfolding span
  span_no m b s e = ap (λ (t : Bool). pick t 0 (suc (span stops next (next m b) s))) e

  span_le_by : (m : M) (b : ℕ) (s : List ℕ) → span stops next (next m b) s ≤ length s → (t : Bool) → stops m b ≡ t → span stops next m (b ∷ s) ≤ suc (length s)
  span_le_by m b s h true e = rw (span_yes m b s e) zero-le
  span_le_by m b s h false e = rw (span_no m b s e) (suc-le-suc h)

  pub span_le : (m : M) (s : List ℕ) → span stops next m s ≤ length s
  unfolding span
  span_le m [] = zero-le
  span_le m (b ∷ s) = span_le_by m b s (span_le (next m b) s) (stops m b) refl

  -- the first piece, and the others
  abbrev Splits : M → List ℕ → Type 0
  Splits m s = cut_by stops next m s ≡ take (span stops next m s) s ∷ cuts_from s (span stops next m s + 1)

  by_stop : (m : M) (b : ℕ) (s : List ℕ) (t : Bool) → stops m b ≡ t
      → cut_by stops next m (b ∷ s) ≡ pick t ([] ∷ cut_by stops next (next m b) s) (push b (cut_by stops next (next m b) s))
  unfolding cut_by
  by_stop m b s t e = ap (λ (u : Bool). pick u ([] ∷ cut_by stops next (next m b) s) (push b (cut_by stops next (next m b) s))) e

  splits_by : (m : M) (b : ℕ) (s : List ℕ) → Splits (next m b) s → (t : Bool) → stops m b ≡ t → Splits m (b ∷ s)
  splits_by m b s h true e =
      by_stop m b s true e
      ∙ ap (λ (n : M). [] ∷ cut_by stops next n s) (reset m b e)
      ∙ ap (λ (ls : List (List ℕ)). [] ∷ ls) (sym (F.from_start all s) ∙ sym (F.from_suc all b s 0))
      ∙ sym (ap (λ (k : ℕ). take k (b ∷ s) ∷ cuts_from (b ∷ s) (k + 1)) (span_yes m b s e))
  splits_by m b s h false e =
      let k = span stops next (next m b) s in
      by_stop m b s false e ∙ ap (push b) h
      ∙ ap (λ (ls : List (List ℕ)). (b ∷ take k s) ∷ ls) (sym (F.from_suc all b s (k + 1)) ∙ ap (cuts_from (b ∷ s)) (sym (suc-add k 1)))
      ∙ sym (ap (λ (j : ℕ). take j (b ∷ s) ∷ cuts_from (b ∷ s) (j + 1)) (span_no m b s e))

  pub splits : (m : M) (s : List ℕ) → Splits m s
  unfolding cut_by span
  splits m [] = refl
  splits m (b ∷ s) = splits_by m b s (splits (next m b) s) (stops m b) refl

  -- the piece at p ends at e, and the next one starts past the cut
  pub piece_from : (s : List ℕ) (p e : ℕ) → p ≤ length s → e ≡ p + span stops next again (drop p s) → cuts_from s p ≡ part s p e ∷ cuts_from s (e + 1)
  piece_from s p e h q =
      let k = span stops next again (drop p s) in
      let on : p + (k + 1) ≡ e + 1 = omega arith in
      let long : k ≡ e - p = omega arith in
      F.from_here all s p h ∙ splits again (drop p s)
      ∙ ap (λ (ls : List (List ℕ)). take k (drop p s) ∷ ls) (F.from_drop all s p (k + 1) h ∙ ap (cuts_from s) on)
      ∙ ap (λ (j : ℕ). take j (drop p s) ∷ cuts_from s (e + 1)) long

-- ---- at every byte c

eqb_swap : (a b : ℕ) → eqb a b ≡ eqb b a
eqb_swap a b = go (eqb b a) refl
  where
    go : (t : Bool) → eqb b a ≡ t → eqb a b ≡ t
    go true e = eq-eqb a b (sym (eqb-true b a e))
    go false e = ne_eqb a b (λ q. eqb-false b a e (sym q))

module _ (c : ℕ) where
  abbrev is_c : Unit {0} → ℕ → Bool
  is_c u b = eqb b c

  abbrev stay : Unit {0} → ℕ → Unit {0}
  stay u b = u

  begins_c : (b : ℕ) (s : List ℕ) → begins (c ∷ []) (b ∷ s) ≡ eqb b c
  begins_c b s = and-true (eqb c b) ∙ eqb_swap c b

  -- the search for one byte is the span up to it
  pub span_first : (s : List ℕ) → span is_c stay tt s ≡ first (begins (c ∷ [])) s
  unfolding span first
  span_first [] = refl
  span_first (b ∷ s) =
      ap (λ (t : Bool). pick t 0 (suc (span is_c stay tt s))) (sym (begins_c b s))
      ∙ ap (λ (k : ℕ). pick (begins (c ∷ []) (b ∷ s)) 0 (suc k)) (span_first s)

  same_mode : (m : Unit {0}) (b : ℕ) → is_c m b ≡ true → stay m b ≡ tt
  same_mode m b e = refl

  -- cut where the byte stands, and where it stands nowhere
  pub cut_on : (s : List ℕ) → first (begins (c ∷ [])) s < length s
      → cut_at c s ≡ take (first (begins (c ∷ [])) s) s ∷ cut_at c (drop (first (begins (c ∷ [])) s + 1) s)
  cut_on s h =
      let k = first (begins (c ∷ [])) s in
      splits is_c stay tt same_mode tt s
      ∙ ap (λ (j : ℕ). take j s ∷ pieces_from is_c stay tt s (j + 1)) (span_first s)
      ∙ ap (λ (ls : List (List ℕ)). take k s ∷ ls) (F.from_here (cut_by is_c stay tt) s (k + 1) (omega arith))

  pub cut_last : (s : List ℕ) → length s ≤ first (begins (c ∷ [])) s → cut_at c s ≡ s ∷ []
  cut_last s h =
      let k = first (begins (c ∷ [])) s in
      splits is_c stay tt same_mode tt s
      ∙ ap (λ (j : ℕ). take j s ∷ pieces_from is_c stay tt s (j + 1)) (span_first s)
      ∙ ap (λ (ls : List (List ℕ)). take k s ∷ ls) (F.from_past (cut_by is_c stay tt) s (k + 1) (omega arith))
      ∙ ap (λ (l : List ℕ). l ∷ []) (take_all k s h)

  pub nonempty : (s : List ℕ) → cut_at c s ≡ [] → ⊥
  nonempty s e = let z : ◌≡◌ {A = ℕ} 0 1 = cc (splits is_c stay tt same_mode tt s) in omega (arith, z)

-- ---- cutting makes nothing longer

push_length : (b : ℕ) (ls : List (List ℕ)) → length (push b ls) ≤ 1 + length ls
push_length b [] = omega arith
push_length b (l ∷ ls) = omega arith

module _ {M : Type 0} (stops : M → ℕ → Bool) (next : M → ℕ → M) where
  pub cut_length : (m : M) (s : List ℕ) → length (cut_by stops next m s) ≤ 1 + length s
  unfolding cut_by
  cut_length m [] = omega arith
  cut_length m (b ∷ s) =
      let later : List (List ℕ) = cut_by stops next (next m b) s in
      either (λ (k : List (List ℕ)). length k ≤ 1 + suc (length s)) (stops m b) ([] ∷ later) (push b later)
      (omega (arith, cut_length (next m b) s)) (omega (arith, cut_length (next m b) s, push_length b later))

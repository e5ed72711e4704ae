-- The laws of readings behind some bytes, and of the one that goes on longer.
use mathlib.Core.Path.{◌≡◌, refl, sym, ap, ◌∙◌}
use Prim.Native.Nat.{ℕ, zero, suc, ◌+◌, ◌≤◌, ◌<◌}
use native.Mathlib.Omega.{arith}
use Rattle.grammar.specs.Reading.{Read, read_as, wrong, later, larger, better}
use Rattle.grammar.specs.Inner.Made.{made, shifted}
use Rattle.grammar.proofs.Made.{made_later}
use Rattle.grammar.proofs.Better.{better_none, better_comm, later_better}

-- ---- the larger of two

pub larger_less : (m n : ℕ) → m < n → n ≡ larger m n
larger_less zero n h = refl
larger_less (suc m) zero h = absurd (omega (arith, h))
larger_less (suc m) (suc n) h = ap suc (larger_less m n (omega (arith, h)))

pub larger_more : (m n : ℕ) → n ≤ m → m ≡ larger m n
larger_more zero zero h = refl
larger_more zero (suc n) h = absurd (omega (arith, h))
larger_more (suc m) zero h = refl
larger_more (suc m) (suc n) h = ap suc (larger_more m n (omega (arith, h)))

pub larger_under : (l m n : ℕ) → l ≤ n → m ≤ n → larger l m ≤ n
larger_under zero m n h k = k
larger_under (suc l) zero n h k = h
larger_under (suc l) (suc m) zero h k = absurd (omega (arith, h))
larger_under (suc l) (suc m) (suc n) h k = let p : larger l m ≤ n = larger_under l m n (omega (arith, h)) (omega (arith, k)) in omega (arith, p)

-- ---- behind some bytes

module _ {R : Type 0} where
  pub shifted_later : (n : ℕ) (x : Read R) → shifted n (later x) ≡ later (shifted n x)
  shifted_later zero x = refl
  shifted_later (suc n) x = ap later (shifted_later n x)

  pub shifted_wrong : (n m : ℕ) → shifted {R = R} n (wrong m) ≡ wrong (n + m)
  shifted_wrong zero m = ap wrong (omega arith)
  shifted_wrong (suc n) m = ap later (shifted_wrong n m) ∙ ap wrong (omega arith)

  pub shifted_add : (m n : ℕ) (x : Read R) → shifted m (shifted n x) ≡ shifted (m + n) x
  shifted_add zero n x = let e : n ≡ 0 + n = omega arith in ap (λ (i : ℕ). shifted i x) e
  shifted_add (suc m) n x =
      let e : suc (m + n) ≡ suc m + n = omega arith in
      ap later (shifted_add m n x) ∙ ap (λ (i : ℕ). shifted i x) e

  pub shifted_read : (n : ℕ) (r : R) → shifted n (read_as r) ≡ read_as r
  shifted_read zero r = refl
  shifted_read (suc n) r = ap later (shifted_read n r)

  -- what goes on longer wins
  pub shifted_wins : (n m : ℕ) (x : Read R) → m ≤ n → better (shifted n x) (wrong m) ≡ shifted n x
  shifted_wins zero zero x h = better_none x
  shifted_wins zero (suc m) x h = absurd (omega (arith, h))
  shifted_wins (suc n) zero x h = better_none (later (shifted n x))
  shifted_wins (suc n) (suc m) x h = sym (later_better (shifted n x) (wrong m)) ∙ ap later (shifted_wins n m x (omega (arith, h)))

  pub wins_shifted : (n m : ℕ) (x : Read R) → m ≤ n → better (wrong m) (shifted n x) ≡ shifted n x
  wins_shifted n m x h = better_comm (wrong m) (shifted n x) ∙ shifted_wins n m x h

pub made_shifted : {R Q : Type 0} (f : R → Q) (n : ℕ) (x : Read R) → made f (shifted n x) ≡ shifted n (made f x)
made_shifted f zero x = refl
made_shifted f (suc n) x = made_later f (shifted n x) ∙ ap later (made_shifted f n x)

-- How `many` goes: one item more, the end, and a refusal. k items of n are read.
use Prim.Native.Nat.{ℕ, zero, suc, ◌+◌, ◌-◌, ◌≤◌, ◌<◌}
use native.Mathlib.Omega.{arith}
use mathlib.Core.Path.{◌≡◌, sym, ap}
use mathlib.Core.List.{List, [], ◌∷◌, ◌++◌}
use Rattle.cells.specs.Inner.Out.{Out, good, bad, ◌>>=◌}
use Rattle.cells.specs.Inner.Places.{many, ends}
use Rattle.cells.proofs.Laws.{good_inj, bad_good}

pub left : (n k : ℕ) → k < n → n - k ≡ suc (n - (k + 1))
left n k h = omega arith

module _ {A : Type 0} (f : List A → ℕ → Out (A × ℕ)) (n k at : ℕ) (l : List A) where
  pub many_step : (a : A) (next : ℕ) → k < n → f l at ≡ good (a, next) → many f (n - k) at l ≡ many f (n - (k + 1)) next (l ++ (a ∷ []))
  unfolding many
  many_step a next h e = rw (left n k h, e)

  pub many_bad : (m p : ℕ) → k < n → f l at ≡ bad m p → many f (n - k) at l ≡ bad m p
  unfolding many
  many_bad m p h e = rw (left n k h, e)

  pub many_end : n ≤ k → many f (n - k) at l ≡ good (l, at)
  unfolding many
  many_end h = let z : n - k ≡ zero = omega arith in rw z

-- ---- where a reading ends

pub ends_inv : {A : Type 0} (o : Out (A × ℕ)) (v : ℕ) → ends o ≡ good v → (a : A) × (o ≡ good (a, v))
ends_inv (good p) v e = (p.0, ap good (pair p.0 (good_inj e)))
  where
    pair : {A : Type 0} (a : A) {x y : ℕ} → x ≡ y → ◌≡◌ {A = A × ℕ} (a, x) (a, y)
    pair a e = ap (λ (z : ℕ). (a, z)) e
ends_inv (bad n p) v e = bad_good e

pub ends_bad : {A : Type 0} (o : Out (A × ℕ)) (m q : ℕ) → ends o ≡ bad m q → o ≡ bad m q
ends_bad (good p) m q e = bad_good (sym e)
ends_bad (bad n p) m q e = cc

pub ends_bind : {A B : Type 0} (o : Out A) (f : A → Out (B × ℕ)) (v w : ℕ) → ((a : A) → ends (f a) ≡ good v → v ≡ w) → ends (o >>= f) ≡ good v → v ≡ w
ends_bind (good a) f v w h e = h a e
ends_bind (bad n p) f v w h e = bad_good e

-- Laws of tests: `&&`, `||`, `not`, `pick`, equal bytes.
use mathlib.Core.Bool.{Bool, true, false, not, ◌&&◌, ◌||◌, true≢false}
use mathlib.Core.Path.{◌≡◌, refl, sym, ap₂, subst}
use Prim.Native.Nat.{ℕ}
use mathlib.Core.List.{List, [], ◌∷◌}
use lib.Dec.{T, eqb, eqb→eq}
use Rattle.octets.specs.Lists.{pick, same}

pub both : (a b : Bool) → T a → T b → T (a && b)
both true b p q = q
both false b p q = p

pub left : (a b : Bool) → T (a && b) → T a
left true b p = tt
left false b p = p

pub right : (a b : Bool) → T (a && b) → T b
right true b p = p
right false b p = absurd p

pub or_left : (a b : Bool) → T a → T (a || b)
or_left true b p = tt
or_left false b p = absurd p

pub or_right : (a b : Bool) → T b → T (a || b)
or_right true b p = tt
or_right false b p = p

pub or_cases {ℓ} : {X : Type ℓ} (a b : Bool) → T (a || b) → (T a → X) → (T b → X) → X
or_cases true b p f g = f tt
or_cases false b p f g = g p

-- a test is passed or not
pub test_cases {ℓ} : {X : Type ℓ} (a : Bool) → (a ≡ true → X) → (a ≡ false → X) → X
test_cases true f g = f refl
test_cases false f g = g refl

pub T_of : {a : Bool} → a ≡ true → T a
T_of e = subst T (sym e) tt

pub is_true : (a : Bool) → T a → a ≡ true
is_true true p = refl
is_true false p = absurd p

pub is_false : (a : Bool) → T (not a) → a ≡ false
is_false true p = absurd p
is_false false p = refl

pub not_T_of : {a : Bool} → a ≡ false → T a → ⊥
not_T_of e t = subst T e t

pub or_neither : (a b : Bool) → (a || b) ≡ false → (a ≡ false) × (b ≡ false)
or_neither true b e = absurd (true≢false e)
or_neither false b e = (refl, e)

pub not_or : (a b : Bool) → not (a || b) ≡ (not a && not b)
not_or true b = refl
not_or false b = refl

-- what holds of both choices holds of the one picked; each may use how the test came out
pub either {ℓ} : {A : Type 0} (P : A → Type ℓ) (b : Bool) (u v : A) → P u → P v → P (pick b u v)
either P true u v h k = h
either P false u v h k = k

pub by_test {ℓ} : {A : Type 0} (P : A → Type ℓ) (b : Bool) (u v : A) → (b ≡ true → P u) → (b ≡ false → P v) → P (pick b u v)
by_test P true u v h k = h refl
by_test P false u v h k = k refl

-- equal bytes
pub same_eq : (s t : List ℕ) → T (same s t) → s ≡ t
same_eq [] [] h = refl
same_eq [] (b ∷ t) h = absurd h
same_eq (a ∷ s) [] h = absurd h
same_eq (a ∷ s) (b ∷ t) h = ap₂ (λ (x : ℕ) (y : List ℕ). x ∷ y) (eqb→eq a b (left (eqb a b) (same s t) h)) (same_eq s t (right (eqb a b) (same s t) h))

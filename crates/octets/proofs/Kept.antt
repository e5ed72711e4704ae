-- What `only` keeps: exactly the members that pass, no more of them than there were.
use mathlib.Core.Bool.{Bool, true, false}
use mathlib.Core.Path.{◌≡◌, refl, sym, ap, subst}
use Prim.Native.Nat.{ℕ, suc, ◌+◌, ◌*◌, ◌≤◌, ◌<◌, zero-le, suc-le-suc}
use native.Mathlib.Nat.{le_step, le_trans, le_of_eq, add-le-add}
use native.Mathlib.Omega.{arith}
use mathlib.Core.List.Memᴰ
use mathlib.Core.List.{List, [], ◌∷◌, Memᴰ}
use lib.ListN.{length}
use lib.Dec.{T}
use Rattle.octets.specs.Lists.{pick, only, total}
use Rattle.octets.proofs.Tests.{T_of, not_T_of, either}

-- ---- members

module _ {A : Type 0} (f : A → Bool) where
  kept : (x : A) (l : List A) (b : Bool) (a : A) → f x ≡ b → (Memᴰ a (only f l) → Memᴰ a l × T (f a))
      → Memᴰ a (pick b (x ∷ only f l) (only f l)) → Memᴰ a (x ∷ l) × T (f a)
  kept x l true a e ih (Memᴰ.head q) = (Memᴰ.head q, subst (λ (k : A). T (f k)) (sym q) (T_of e))
  kept x l true a e ih (Memᴰ.tail d) = let r = ih d in (Memᴰ.tail r.0, r.1)
  kept x l false a e ih d = let r = ih d in (Memᴰ.tail r.0, r.1)

  pub only_sound : (l : List A) (a : A) → Memᴰ a (only f l) → Memᴰ a l × T (f a)
  only_sound [] a d = absurd (Memᴰ.not-nil d)
  only_sound (x ∷ l) a d = kept x l (f x) a refl (only_sound l a) d

  keep_head : (x : A) (l : List A) (b : Bool) (a : A) → f x ≡ b → a ≡ x → T (f a) → Memᴰ a (pick b (x ∷ only f l) (only f l))
  keep_head x l true a e q t = Memᴰ.head q
  keep_head x l false a e q t = absurd (not_T_of e (subst (λ (k : A). T (f k)) q t))

  keep_tail : (x : A) (l : List A) (b : Bool) (a : A) → Memᴰ a (only f l) → Memᴰ a (pick b (x ∷ only f l) (only f l))
  keep_tail x l true a d = Memᴰ.tail d
  keep_tail x l false a d = d

  pub only_complete : {a : A} {l : List A} → Memᴰ a l → T (f a) → Memᴰ a (only f l)
  only_complete {a} (Memᴰ.head {x = x} {xs = l} q) t = keep_head x l (f x) a refl q t
  only_complete {a} (Memᴰ.tail {x = x} {xs = l} d) t = keep_tail x l (f x) a (only_complete d t)

-- ---- a stricter test keeps fewer

module _ {A : Type 0} (f g : A → Bool) (stricter : (a : A) → T (g a) → T (f a)) where
  mono_step : (x : A) (F G : List A) (bg bf : Bool) → (T bg → T bf) → length G ≤ length F → length (pick bg (x ∷ G) G) ≤ length (pick bf (x ∷ F) F)
  mono_step x F G true true h i = suc-le-suc i
  mono_step x F G true false h i = absurd (h tt)
  mono_step x F G false true h i = le_step i
  mono_step x F G false false h i = i

  pub mono : (l : List A) → length (only g l) ≤ length (only f l)
  mono [] = zero-le
  mono (x ∷ l) = mono_step x (only f l) (only g l) (g x) (f x) (stricter x) (mono l)

  strict_step : (x : A) (F G : List A) (bg bf : Bool) → (T bg → T bf) → length G < length F → length (pick bg (x ∷ G) G) < length (pick bf (x ∷ F) F)
  strict_step x F G true true h i = suc-le-suc i
  strict_step x F G true false h i = absurd (h tt)
  strict_step x F G false true h i = le_step i
  strict_step x F G false false h i = i

  strict_here : (x : A) (F G : List A) (bg bf : Bool) → (T bg → ⊥) → T bf → length G ≤ length F → length (pick bg (x ∷ G) G) < length (pick bf (x ∷ F) F)
  strict_here x F G true bf h t i = absurd (h tt)
  strict_here x F G false true h t i = suc-le-suc i
  strict_here x F G false false h t i = absurd t

  pub fewer : {a : A} {l : List A} → Memᴰ a l → T (f a) → (T (g a) → ⊥) → length (only g l) < length (only f l)
  fewer {a} (Memᴰ.head {x = x} {xs = l} e) t n =
      strict_here x (only f l) (only g l) (g x) (f x)
      (λ h. n (subst (λ (k : A). T (g k)) (sym e) h)) (subst (λ (k : A). T (f k)) e t) (mono l)
  fewer (Memᴰ.tail {x = x} {xs = l} d) t n = strict_step x (only f l) (only g l) (g x) (f x) (stricter x) (fewer d t n)

pub kept_le : {A : Type 0} (f : A → Bool) (l : List A) → length (only f l) ≤ length l
kept_le {A} f l = le_trans (mono (λ a. true) f (λ a t. tt) l) (le_of_eq (all l))
  where
    all : (l : List A) → length (only (λ (a : A). true) l) ≡ length l
    all [] = refl
    all (x ∷ l) = ap suc (all l)

-- ---- sums

module _ {A : Type 0} where
  pub total_only : (f : A → ℕ) (g : A → Bool) (l : List A) → total f (only g l) ≤ total f l
  total_only f g [] = zero-le
  total_only f g (a ∷ l) =
      either (λ (k : List A). total f k ≤ f a + total f l) (g a) (a ∷ only g l) (only g l)
      (omega (arith, total_only f g l)) (omega (arith, total_only f g l))

  pub total_mono : (f g : A → ℕ) → ((a : A) → f a ≤ g a) → (l : List A) → total f l ≤ total g l
  total_mono f g h [] = zero-le
  total_mono f g h (a ∷ l) = add-le-add (h a) (total_mono f g h l)

  pub total_const : (n : ℕ) (l : List A) → total (λ (a : A). n) l ≡ length l * n
  total_const n [] = omega arith
  total_const n (a ∷ l) = omega (arith, total_const n l)

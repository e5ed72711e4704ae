-- What was written and is read is right, section by section: the converse of `WrittenSections`.
use mathlib.Core.Bool.{Bool, true, false, ◌&&◌}
use mathlib.Core.Path.{◌≡◌, refl, subst}
use Prim.Native.Nat.{ℕ, zero, suc, ◌+◌, ◌≤◌, ◌<◌}
use native.Mathlib.Omega.{arith}
use mathlib.Core.List.{List, [], ◌∷◌, ◌++◌, append_assoc}
use lib.ListN.{length}
use lib.Dec.{leb, eqb, leb→le}
use borrow.Author.Tests.{eqb-true, eqb-false}
use Rattle.octets.proofs.Tests.{left, right, test_cases, T_of}
use Rattle.octets.proofs.Each.{Each}
use Rattle.cells.specs.Inner.Out.{Out, good, must, ◌>>=◌}
use Rattle.cells.specs.Inner.Places.{many, counted}
use Rattle.entries.specs.Inner.Places.{placed}
use Rattle.cells.proofs.Laws.{bind_inv, bad_good}
use Rattle.profile.specs.Written.{joined, section}
use Rattle.profile.specs.Inner.Writable.{InTurn}
use Rattle.profile.proofs.WrittenFields.{Rest, further, after}
use Rattle.profile.proofs.WrittenSections.{beyond, section_back}
use Rattle.profile.proofs.RightFields.{read_on, counted_on}

-- ---- a section

-- its entries are as many as there may be, each is right, and after it the reading g goes on
pub record Taken {A B : Type 0} (P : List A → A → Type 0) (bytes : A → List ℕ) (most at : ℕ) (l : List A) (g : ℕ → List A × ℕ → Out B) (b : B) : Type 0 where
  pub few : length l ≤ most
  pub turn : InTurn P [] l
  pub on : g (length l) (l, beyond bytes l at) ≡ good b

-- L: what has a place in its fields
module _ {A : Type 0} (s : List ℕ) (f : List A → ℕ → Out (A × ℕ)) (bytes : A → List ℕ) (L : A → Type 0) (P : List A → A → Type 0)
    (back : (before : List A) (a : A) (at : ℕ) (t : List ℕ) → P before a → Rest s at (bytes a ++ t) → f before at ≡ good (a, at + length (bytes a)))
    (right : (before : List A) (a : A) (at : ℕ) (t : List ℕ) (b : A × ℕ) → L a → Rest s at (bytes a ++ t) → f before at ≡ good b → P before a) where
  many_right : (l before : List A) (at : ℕ) (t : List ℕ) (q : List A × ℕ) → Each L l → Rest s at (joined bytes l ++ t)
      → many f (length l) at before ≡ good q → InTurn P before l
  unfolding many
  many_right [] before at t q h r e = tt
  many_right (a ∷ l) before at t q h r e =
      let r' : Rest s at (bytes a ++ (joined bytes l ++ t)) = rw (append_assoc (bytes a) (joined bytes l) t) at r in
      let (b, g, _) = bind_inv (f before at) _ q e in
      let p : P before a = right before a at (joined bytes l ++ t) b h.0 r' g in
      let e' = read_on (f before at) (a, at + length (bytes a)) _ q (back before a at (joined bytes l ++ t) p r') e in
      (p, many_right l (before ++ (a ∷ [])) (at + length (bytes a)) t q h.1 (after s at (bytes a) (joined bytes l ++ t) r') e')

  pub section_on : {B : Type 0} (most at : ℕ) (l : List A) (t : List ℕ) (g : ℕ → List A × ℕ → Out B) (b : B) → length l < 65536 → most < 65536 → Each L l
      → Rest s at (section bytes l ++ t) → (counted s at most >>= λ n. many f n (at + 2) [] >>= g n) ≡ good b → Taken P bytes most at l g b
  section_on most at l t g b low m h r e =
      let w = counted_on s at (joined bytes l ++ t) _ b (length l) low r most e in
      let (q, items, _) = bind_inv (many f (length l) (at + 2) []) (g (length l)) b w.1 in
      let turn : InTurn P [] l = many_right l [] (at + 2) t q h (further r 2 (omega arith)) items in
      record {
        few = w.0;
        turn = turn;
        on = read_on (many f (length l) (at + 2) []) (l, beyond bytes l at) (g (length l)) b
            (section_back s f bytes P back most at l t w.0 m turn r).items w.1;
      }

-- ---- every row has 1 to 8

pub within : (v : ℕ) (n p : ℕ) (u : Unit {0}) → must (leb 1 v && leb v 8) n p ≡ good u → (1 ≤ v) × (v ≤ 8)
within v n p u e = by (leb 1 v && leb v 8) refl e
  where
    by : (t : Bool) → (leb 1 v && leb v 8) ≡ t → must t n p ≡ good u → (1 ≤ v) × (v ≤ 8)
    by true h e = (leb→le 1 v (left (leb 1 v) (leb v 8) (T_of h)), leb→le v 8 (right (leb 1 v) (leb v 8) (T_of h)))
    by false h e = bad_good e

pub placed_right : (m : ℕ → ℕ) (n r at : ℕ) (u : Unit {0}) → placed m n r at ≡ good u → (k : ℕ) → r ≤ k → k < r + n → (1 ≤ m k) × (m k ≤ 8)
unfolding placed
placed_right m zero r at u e k l h = absurd (omega arith)
placed_right m (suc n) r at u e k l h =
    let (v, q, g) = bind_inv (must (leb 1 (m r) && leb (m r) 8) 4 at) _ u e in
    test_cases (eqb r k)
    (λ y. subst (λ (j : ℕ). (1 ≤ m j) × (m j ≤ 8)) (eqb-true r k y) (within (m r) 4 at v q))
    (λ x. let other : r ≡ k → ⊥ = eqb-false r k x in placed_right m n (r + 1) (at + 7) u g k (omega arith) (omega arith))

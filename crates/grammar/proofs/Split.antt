-- What is read is read from a text of the grammar at the front, and the rest goes on from there.
use mathlib.Core.Path.{◌≡◌, refl, sym, ap, ap₂, ◌∙◌}
use mathlib.Core.Bool.{Bool, true, false}
use mathlib.Core.Option.{none, some}
use mathlib.Core.Logic.{◌⊎◌, inl, inr, ⊎_elim}
use Prim.Native.Nat.{ℕ, zero, suc}
use native.Mathlib.Omega.{arith}
use mathlib.Core.List.{List, [], ◌∷◌, ◌++◌, append_assoc}
use lib.Dec.{T, eqb, eqb→eq}
use lib.ListN.{length}
use Rattle.octets.specs.Lists.{pick}
use Rattle.octets.proofs.Tests.{T_of}
use Rattle.grammar.specs.Grammar.{Grammar, word, one, span, ◌then◌, ◌or◌, option, many, into, ended, UpTo, Member}
use Rattle.grammar.specs.Reading.{Read, read_as, wrong, twice, later, better, expect, expect_one, up_to, repeat, read}
use Rattle.grammar.specs.Inner.Made.{made, shifted}

pub never : {R : Type 0} {X : Type 0} (n : ℕ) (r : R) → wrong n ≡ read_as r → X
never n r e = let z : ◌≡◌ {A = ℕ} 0 1 = cc in absurd (omega arith)

module _ {R : Type 0} where
  later_read : (x : Read R) (r : R) → later x ≡ read_as r → x ≡ read_as r
  later_read (read_as q) r e = e
  later_read (wrong n) r e = never (suc n) r e
  later_read twice r e = e

  pub shifted_read_as : (n : ℕ) (x : Read R) (r : R) → shifted n x ≡ read_as r → x ≡ read_as r
  shifted_read_as zero x r e = e
  shifted_read_as (suc n) x r e = shifted_read_as n x r (later_read (shifted n x) r e)

  better_read : (x y : Read R) (r : R) → better x y ≡ read_as r → (x ≡ read_as r) ⊎ (y ≡ read_as r)
  better_read (read_as a) (read_as b) r e = let z : ◌≡◌ {A = ℕ} 0 1 = cc in absurd (omega arith)
  better_read (read_as a) (wrong n) r e = inl e
  better_read (read_as a) twice r e = let z : ◌≡◌ {A = ℕ} 0 1 = cc in absurd (omega arith)
  better_read (wrong m) (read_as b) r e = inr e
  better_read (wrong m) (wrong n) r e = let z : ◌≡◌ {A = ℕ} 0 1 = cc in absurd (omega arith)
  better_read (wrong m) twice r e = let z : ◌≡◌ {A = ℕ} 0 1 = cc in absurd (omega arith)
  better_read twice y r e = let z : ◌≡◌ {A = ℕ} 0 1 = cc in absurd (omega arith)

  step_read : (b : Bool) (x : Read R) (r : R) → pick b (later x) (wrong 0) ≡ read_as r → (b ≡ true) × (x ≡ read_as r)
  step_read true x r e = (refl, later_read x r e)
  step_read false x r e = never 0 r e

  pub expect_read : (w : List ℕ) (k : List ℕ → Read R) (s : List ℕ) (r : R) → expect w k s ≡ read_as r → (v : List ℕ) × (s ≡ w ++ v) × (k v ≡ read_as r)
  expect_read [] k s r e = (s, refl, e)
  expect_read (c ∷ w) k [] r e = never 0 r e
  expect_read (c ∷ w) k (b ∷ s) r e =
      let p = step_read (eqb c b) (expect w k s) r e in
      let q = expect_read w k s r p.1 in
      (q.0, ap₂ (λ (x : ℕ) (y : List ℕ). x ∷ y) (sym (eqb→eq c b (T_of p.0))) q.1, q.2)

  one_read : (p : ℕ → Bool) (k : ℕ → List ℕ → Read R) (s : List ℕ) (r : R) → expect_one p k s ≡ read_as r
      → (b : ℕ) × (v : List ℕ) × (s ≡ b ∷ v) × T (p b) × (k b v ≡ read_as r)
  one_read p k [] r e = never 0 r e
  one_read p k (b ∷ s) r e = let q = step_read (p b) (k b s) r e in (b, s, refl, T_of q.0, q.1)

  ends_read : (t : Bool) (w p : List ℕ) (k : List ℕ → Read R) (b : ℕ) (s : List ℕ) (r : R)
      → (up_to w (b ∷ p) k s ≡ read_as r → (u : List ℕ) × (v : List ℕ) × (s ≡ u ++ v) × UpTo w (b ∷ p) u × (k v ≡ read_as r))
      → pick t (k s) (up_to w (b ∷ p) k s) ≡ read_as r
      → (u : List ℕ) × (v : List ℕ) × (s ≡ u ++ v) × pick t (u ≡ []) (UpTo w (b ∷ p) u) × (k v ≡ read_as r)
  ends_read true w p k b s r f e = ([], s, refl, refl, e)
  ends_read false w p k b s r f e = f e

  up_to_read : (w p : List ℕ) (k : List ℕ → Read R) (s : List ℕ) (r : R) → up_to w p k s ≡ read_as r
      → (u : List ℕ) × (v : List ℕ) × (s ≡ u ++ v) × UpTo w p u × (k v ≡ read_as r)
  up_to_read w p k [] r e = never 0 r e
  up_to_read w p k (b ∷ s) r e =
      let q = ends_read (ended w (b ∷ p)) w p k b s r (up_to_read w (b ∷ p) k s r) (later_read (pick (ended w (b ∷ p)) (k s) (up_to w (b ∷ p) k s)) r e) in
      (b ∷ q.0, q.1, ap (λ (l : List ℕ). b ∷ l) q.2, q.3, q.4)

  -- a text of g with what is read from it, and how the rest goes on
  abbrev pub Split : {A : Type 0} → Grammar A → (A → List ℕ → Read R) → List ℕ → R → Type 0
  Split {A} g k s r = (a : A) × (u : List ℕ) × (v : List ℕ) × (s ≡ u ++ v) × Member g u a × (k a v ≡ read_as r)

  repeat_read : {A : Type 0} (g : Grammar A) → ((k : A → List ℕ → Read R) (s : List ℕ) (r : R) → read g k s ≡ read_as r → Split g k s r)
      → (n : ℕ) (k : List A → List ℕ → Read R) (s : List ℕ) (r : R) → repeat (read g) n k s ≡ read_as r → Split (many g) k s r
  unfolding Member
  repeat_read g f zero k s r e = never 0 r e
  repeat_read {A} g f (suc n) k s r e =
      ⊎_elim
      (λ x. let p = f (λ a. repeat (read g) n (λ l. k (a ∷ l))) s r x in
      let q = repeat_read g f n (λ l. k (p.0 ∷ l)) p.2 r p.5 in
      (p.0 ∷ q.0, p.1 ++ q.1, q.2, p.3 ∙ ap (λ (z : List ℕ). p.1 ++ z) q.3 ∙ sym (append_assoc p.1 q.1 q.2), (p.1, q.1, refl, p.4, q.4), q.5))
      (λ x. ([], [], s, refl, refl, x))
      (better_read (read g (λ a. repeat (read g) n (λ l. k (a ∷ l))) s) (k [] s) r e)

  pub split : {A : Type 0} (g : Grammar A) (k : A → List ℕ → Read R) (s : List ℕ) (r : R) → read g k s ≡ read_as r → Split g k s r
  unfolding read Member
  split (word w) k s r e = let p = expect_read w (k tt) s r e in (tt, w, p.0, p.1, refl, p.2)
  split (one p) k s r e = let q = one_read p k s r e in (q.0, q.0 ∷ [], q.1, q.2, (refl, q.3), q.4)
  split (span o c) k s r e =
      let p = expect_read o (up_to c [] (k tt)) s r e in
      let q = up_to_read c [] (k tt) p.0 r p.2 in
      (tt, o ++ q.0, q.1, p.1 ∙ ap (λ (z : List ℕ). o ++ z) q.2 ∙ sym (append_assoc o q.0 q.1), (q.0, refl, q.3), q.4)
  split (g then h) k s r e =
      let p = split g (λ a t. read h (λ b. k (a, b)) t) s r e in
      let q = split h (λ b. k (p.0, b)) p.2 r p.5 in
      ((p.0, q.0), p.1 ++ q.1, q.2, p.3 ∙ ap (λ (z : List ℕ). p.1 ++ z) q.3 ∙ sym (append_assoc p.1 q.1 q.2), (p.1, q.1, refl, p.4, q.4), q.5)
  split (g or h) k s r e =
      ⊎_elim (λ x. let p = split g k s r x in (p.0, p.1, p.2, p.3, inl p.4, p.5))
      (λ x. let p = split h k s r x in (p.0, p.1, p.2, p.3, inr p.4, p.5)) (better_read (read g k s) (read h k s) r e)
  split (option g) k s r e =
      ⊎_elim (λ x. let p = split g (λ a. k (some a)) s r x in (some p.0, p.1, p.2, p.3, p.4, p.5))
      (λ x. (none, [], s, refl, refl, x)) (better_read (read g (λ a. k (some a)) s) (k none s) r e)
  split (many g) k s r e = repeat_read g (λ l t q h. split g l t q h) (suc (length s)) k s r e
  split (into f g) k s r e = let p = split g (λ a. k (f a)) s r e in (f p.0, p.1, p.2, p.3, (p.0, refl, p.4), p.5)

pub made_read_as : {R Q : Type 0} (f : R → Q) (x : Read R) (q : Q) → made f x ≡ read_as q → (r : R) × (x ≡ read_as r) × (q ≡ f r)
made_read_as f (read_as r) q e = (r, refl, cc)
made_read_as f (wrong n) q e = never n q e
made_read_as f twice q e = let z : ◌≡◌ {A = ℕ} 0 1 = cc in absurd (omega arith)

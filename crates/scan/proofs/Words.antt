-- Words at the front of a text: how much of one stands there, and that of several words that are apart at most one does.
use mathlib.Core.Path.{◌≡◌, refl, ap, subst}
use mathlib.Core.Bool.{Bool, true, false}
use Prim.Native.Nat.{ℕ, suc, ◌+◌, ◌≤◌, ◌<◌}
use native.Mathlib.Numerals.{add-one}
use native.Mathlib.Omega.{arith}
use mathlib.Core.List.{List, [], ◌∷◌}
use lib.Dec.{T, eqb, eqb→eq}
use lib.ListN.{length, get_or, drop, drop_of_length-le}
use lib.Seq.{drop-cons}
use borrow.Author.Tests.{eq-eqb, ne_eqb}
use Rattle.octets.specs.Lists.{pick}
use Rattle.octets.proofs.Tests.{is_true, test_cases, T_of}
use Rattle.grammar.specs.Reading.{Read, wrong, later, expect}
use Rattle.grammar.specs.Inner.Made.{shifted}
use Rattle.scan.specs.Inner.Points.{common}

-- ---- what stands there and what is read

miss_by : {R : Type 0} (e : Bool) (m n : ℕ) (x : Read R) → ((m ≡ n → ⊥) → x ≡ wrong m) → (pick e (suc m) 0 ≡ suc n → ⊥)
    → pick e (later x) (wrong 0) ≡ wrong (pick e (suc m) 0)
miss_by true m n x f h = ap later (f (λ e. h (ap suc e)))
miss_by false m n x f h = refl

pub expect_miss : {R : Type 0} (w : List ℕ) (k : List ℕ → Read R) (t : List ℕ) → (common w t ≡ length w → ⊥) → expect w k t ≡ wrong (common w t)
expect_miss [] k t h = absurd (h refl)
expect_miss (c ∷ w) k [] h = refl
expect_miss (c ∷ w) k (b ∷ t) h = miss_by (eqb c b) (common w t) (length w) (expect w k t) (expect_miss w k t) h

whole_by : {R : Type 0} (e : Bool) (m n : ℕ) (x y : Read R) → (m ≡ n → x ≡ y) → pick e (suc m) 0 ≡ suc n → pick e (later x) (wrong 0) ≡ later y
whole_by true m n x y f h = ap later (f (omega (arith, h)))
whole_by false m n x y f h = absurd (omega (arith, h))

pub expect_whole : {R : Type 0} (w : List ℕ) (k : List ℕ → Read R) (t : List ℕ) → common w t ≡ length w
    → expect w k t ≡ shifted (length w) (k (drop (length w) t))
expect_whole [] k t h = refl
expect_whole (c ∷ w) k [] h = absurd (omega (arith, h))
expect_whole (c ∷ w) k (b ∷ t) h =
    whole_by (eqb c b) (common w t) (length w) (expect w k t) (shifted (length w) (k (drop (length w) t))) (expect_whole w k t) h

le_by : (e : Bool) (m n : ℕ) → m ≤ n → pick e (suc m) 0 ≤ suc n
le_by true m n h = omega (arith, h)
le_by false m n h = omega arith

pub common_le : (w t : List ℕ) → common w t ≤ length t
common_le [] t = omega arith
common_le (c ∷ w) [] = omega arith
common_le (c ∷ w) (b ∷ t) = le_by (eqb c b) (common w t) (length t) (common_le w t)

-- ---- the loop that compares

pub record Reaching (w t : List ℕ) (i : ℕ) : Type 0 where
  pub inside : i ≤ length w
  pub behind : i ≤ length t
  pub same : i + common (drop i w) (drop i t) ≡ common w t

pub reaching_first : (w t : List ℕ) → Reaching w t 0
reaching_first w t = record { inside = omega arith; behind = omega arith; same = omega arith }

module _ (w t : List ℕ) (i : ℕ) (h : Reaching w t i) where
  pub reaching_next : i < length w → i < length t → get_or w i 0 ≡ get_or t i 0 → Reaching w t (i + 1)
  reaching_next l m e =
      let r : common (drop i w) (drop i t) ≡ suc (common (drop (suc i) w) (drop (suc i) t)) =
      rw (drop-cons w i 0 l, drop-cons t i 0 m, eq-eqb (get_or w i 0) (get_or t i 0) e) in
      record {
        inside = omega (arith, l);
        behind = omega (arith, m);
        same = rw add-one (omega (arith, r, h.same));
      }

  pub reaching_other : i < length w → i < length t → (get_or w i 0 ≡ get_or t i 0 → ⊥) → i ≡ common w t
  reaching_other l m e =
      let r : common (drop i w) (drop i t) ≡ 0 = rw (drop-cons w i 0 l, drop-cons t i 0 m, ne_eqb (get_or w i 0) (get_or t i 0) e) in
      omega (arith, r, h.same)

  pub reaching_short : length t ≤ i → i ≡ common w t
  reaching_short l =
      let r : common (drop i w) (drop i t) ≡ 0 = rw (drop_of_length-le t l) (common_nil (drop i w)) in
      omega (arith, r, h.same)
    where
      common_nil : (v : List ℕ) → common v [] ≡ 0
      common_nil [] = refl
      common_nil (c ∷ v) = refl

  pub reaching_whole : length w ≤ i → i ≡ common w t
  reaching_whole l =
      let r : common (drop i w) (drop i t) ≡ 0 = rw (drop_of_length-le w l) in
      omega (arith, r, h.same)

-- ---- words that are apart

-- neither begins the other
abbrev pub apart : List ℕ → List ℕ → Bool
apart [] w = false
apart (c ∷ v) [] = false
apart (c ∷ v) (d ∷ w) = pick (eqb c d) (apart v w) true

pub record Off (v w t : List ℕ) : Type 0 where
  pub not_whole : common v t ≡ length v → ⊥
  pub less : common v t ≤ length w

-- where w stands at the front of t, v does not, and no more of v stands there than w is long
pub off : (v w t : List ℕ) → T (apart v w) → common w t ≡ length w → Off v w t
off [] w t a h = absurd a
off (c ∷ v) [] t a h = absurd a
off (c ∷ v) (d ∷ w) [] a h = absurd (omega (arith, h))
off (c ∷ v) (d ∷ w) (b ∷ t) a h =
    test_cases (eqb d b)
    (λ e. let db : d ≡ b = eqb→eq d b (T_of e) in
    let n : common w t ≡ length w = omega (arith, rw e at h) in
    test_cases (eqb c d)
    (λ f. let cb : eqb c b ≡ true = is_true (eqb c b) (subst (λ (x : ℕ). T (eqb c x)) db (T_of f)) in
    let r : Off v w t = off v w t (subst (λ (x : Bool). T (pick x (apart v w) true)) f a) n in
    record { not_whole = λ q. r.not_whole (omega (arith, rw cb at q)); less = rw cb (omega (arith, r.less)) })
    (λ f. let cb : eqb c b ≡ false = subst (λ (x : ℕ). eqb c x ≡ false) db f in
    record { not_whole = λ q. absurd (omega (arith, rw cb at q)); less = rw cb (omega arith) }))
    (λ e. absurd (omega (arith, rw e at h)))

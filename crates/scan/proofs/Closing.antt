-- The loop that looks for the end of a comment or a `<?`.
use mathlib.Core.Path.{◌≡◌, refl, sym, ap, ap₂, ◌∙◌}
use mathlib.Core.Bool.{Bool, true, false, ◌&&◌}
use Prim.Native.Nat.{ℕ, suc, ◌+◌, ◌-◌, ◌≤◌, ◌<◌}
use native.Mathlib.Numerals.{add-one}
use native.Mathlib.Omega.{arith}
use mathlib.Core.List.{List, [], ◌∷◌}
use lib.Dec.{eqb}
use lib.ListN.{length, get_or, drop, drop_of_length-le}
use lib.Seq.{drop-cons}
use Rattle.octets.specs.Lists.{pick}
use Rattle.grammar.specs.Grammar.{ended}
use Rattle.grammar.specs.Reading.{wrong, later, up_to}
use Rattle.grammar.specs.Inner.Made.{shifted}
use Rattle.scan.specs.Inner.Rests.{Ahead}
use Rattle.grammar.proofs.Shifted.{shifted_later, shifted_wrong}
use Rattle.scan.specs.Inner.Points.{closing, ends_by, ClosedAt, NotClosed}

-- the two bytes passed last, 0 where there is none, say whether the next one ends it
and_true : (x : Bool) → (x && true) ≡ x
and_true true = refl
and_true false = refl

ends_is : (comment : Bool) (b : ℕ) (l : List ℕ) → ended (closing comment) (b ∷ l) ≡ ends_by comment (get_or l 1 0) (get_or l 0 0) b
ends_is true b [] = refl
ends_is true b (p ∷ []) = refl
ends_is true b (p ∷ q ∷ l) = ap (λ (z : Bool). eqb 62 b && (eqb 45 p && z)) (and_true (eqb 45 q))
ends_is false b [] = refl
ends_is false b (p ∷ l) = ap (λ (z : Bool). eqb 62 b && z) (and_true (eqb 63 p))

-- from `at` as far as i no end stands, and q and p were passed last
pub record Closing (comment : Bool) (s : List ℕ) (at q p i : ℕ) : Type 0 where
  pub passed : List ℕ
  pub last : p ≡ get_or passed 0 0
  pub before : q ≡ get_or passed 1 0
  pub forward : at ≤ i
  pub inside : i ≤ length s
  pub same : (k : List ℕ → Ahead) → up_to (closing comment) [] k (drop at s) ≡ shifted (i - at) (up_to (closing comment) passed k (drop i s))

pub closing_first : (comment : Bool) (s : List ℕ) (at : ℕ) → at ≤ length s → Closing comment s at 0 0 at
closing_first c s at h = record {
  passed = [];
  last = refl;
  before = refl;
  forward = omega arith;
  inside = h;
  same = λ k. let z : at - at ≡ 0 = omega arith in ap (λ (n : ℕ). shifted n (up_to (closing c) [] k (drop at s))) (sym z);
}

module _ (comment : Bool) (s : List ℕ) (at q p i : ℕ) (c : Closing comment s at q p i) where
  abbrev w : List ℕ
  w = closing comment

  test_is : (b : ℕ) → ended w (b ∷ c.passed) ≡ ends_by comment q p b
  test_is b = ends_is comment b c.passed ∙ ap₂ (λ (x y : ℕ). ends_by comment x y b) (sym c.before) (sym c.last)

  pub closing_open : length s ≤ i → NotClosed w s at
  closing_open h = record {
    stops = λ k.
        let e : length s - at ≡ (i - at) + 0 = omega (arith, h, c.inside, c.forward) in
        c.same k
        ∙ ap (λ (l : List ℕ). shifted (i - at) (up_to w c.passed k l)) (drop_of_length-le s h)
        ∙ shifted_wrong (i - at) 0
        ∙ ap wrong (sym e);
  }

  -- one byte more
  more : (h : i < length s) (t : Bool) → t ≡ ends_by comment q p (get_or s i 0) → (k : List ℕ → Ahead)
      → up_to w [] k (drop at s) ≡ shifted (i + 1 - at) (pick t (k (drop (i + 1) s)) (up_to w (get_or s i 0 ∷ c.passed) k (drop (i + 1) s)))
  more h t e k =
      let n : i + 1 - at ≡ suc (i - at) = omega (arith, c.forward) in
      c.same k
      ∙ ap (λ (l : List ℕ). shifted (i - at) (up_to w c.passed k l)) (drop-cons s i 0 h)
      ∙ ap (λ (x : Bool). shifted (i - at) (later (pick x (k (drop (suc i) s)) (up_to w (get_or s i 0 ∷ c.passed) k (drop (suc i) s))))) (test_is (get_or s i 0) ∙ sym e)
      ∙ shifted_later (i - at) (pick t (k (drop (suc i) s)) (up_to w (get_or s i 0 ∷ c.passed) k (drop (suc i) s)))
      ∙ ap₂ (λ (m j : ℕ). shifted m (pick t (k (drop j s)) (up_to w (get_or s i 0 ∷ c.passed) k (drop j s)))) (sym n) (sym (add-one i))

  pub closing_found : i < length s → (t : Bool) → t ≡ ends_by comment q p (get_or s i 0) → t ≡ true → ClosedAt w s at (i + 1)
  closing_found h t e f = record {
    forward = omega (arith, c.forward);
    inside = omega (arith, h);
    goes = λ k. more h t e k
        ∙ ap (λ (x : Bool). shifted (i + 1 - at) (pick x (k (drop (i + 1) s)) (up_to w (get_or s i 0 ∷ c.passed) k (drop (i + 1) s)))) f;
  }

  pub closing_next : i < length s → (t : Bool) → t ≡ ends_by comment q p (get_or s i 0) → t ≡ false → Closing comment s at p (get_or s i 0) (i + 1)
  closing_next h t e f = record {
    passed = get_or s i 0 ∷ c.passed;
    last = refl;
    before = c.last;
    forward = omega (arith, c.forward);
    inside = omega (arith, h);
    same = λ k. more h t e k
        ∙ ap (λ (x : Bool). shifted (i + 1 - at) (pick x (k (drop (i + 1) s)) (up_to w (get_or s i 0 ∷ c.passed) k (drop (i + 1) s)))) f;
  }

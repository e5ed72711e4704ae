-- Masks read the other way round: which positions may come right after each, by those that may stand before each.
use mathlib.Core.Path.{◌≡◌, refl, sym, ap, ap₂, ◌∙◌, subst, subst⁻¹}
use mathlib.Core.Bool.{Bool, true, false, not, ◌&&◌, ◌||◌, or-false, and-true, and-false}
use mathlib.Core.List.{List}
use Prim.Native.Nat.{ℕ, zero, suc, ◌+◌, ◌*◌, ◌-◌, ◌%◌, ◌^◌, ◌<◌, ◌≤◌}
use native.Mathlib.Nat.{lt_trans}
use native.Mathlib.Omega.{arith}
use lib.Bits.{bit_and, bit_or, bit_xor}
use lib.Count.{count_trailing_zeros}
use lib.Dec.{T, eqb, ltb}
use lib.ListN.{length, get_or, set, replicate}
use lib.Seq.{get_or-set_same, get_or-set_other}
use borrow.Author.Tests.{ltb-true, ltb-false, lt-ltb, le-ltb, eqb-true, eqb-false, eq-eqb}
use Rattle.octets.specs.Bits.{bit}
use Rattle.octets.specs.Inner.Masks.{Below}
use Rattle.octets.proofs.Bits.{bit_zero, bit_inside, bit_add, bit_drop, drop_lt, lowest_set, lowest_drop, shl_one}
use Rattle.octets.proofs.Tests.{T_of, is_true, left}
use Rattle.machine.specs.Inner.Machine.{Closed}
use Rattle.machine.specs.declared.Shape.{Shape}
use Rattle.part.specs.Inner.Part.{Added, Turned}

-- ---- one bit, added to the masks of some positions

module _ (positions q : ℕ) (masks : List ℕ) where
  -- those of them that are left come later
  pub record Adding (rest : ℕ) (masks' : List ℕ) : Type 0 where
    pub fits : rest < 2 ^ 64
    pub among : (k : ℕ) → T (bit rest k) → T (bit positions k)
    pub is : (p k : ℕ) → bit (get_or masks' p 0) k ≡ (bit (get_or masks p 0) k || ((bit positions p && not (bit rest p)) && eqb k q))

  pub adding_none : positions < 2 ^ 64 → Adding positions masks
  adding_none h = record {
    fits = h;
    among = λ k t. t;
    is = λ p k.
        sym (or-false (bit (get_or masks p 0) k))
        ∙ ap (λ (t : Bool). bit (get_or masks p 0) k || (t && eqb k q)) (sym (never (bit positions p)));
  }
    where
      never : (b : Bool) → (b && not b) ≡ false
      never true = refl
      never false = refl

  pub adding_all : (rest : ℕ) (masks' : List ℕ) → Adding rest masks' → rest ≡ 0 → length masks' ≡ length masks → Added positions q masks masks'
  adding_all rest masks' s e long = record {
    long = long;
    is = λ p k.
        s.is p k
        ∙ ap (λ (t : Bool). bit (get_or masks p 0) k || ((bit positions p && not t) && eqb k q)) (ap (λ (n : ℕ). bit n p) e ∙ bit_zero p)
        ∙ ap (λ (t : Bool). bit (get_or masks p 0) k || (t && eqb k q)) (and-true (bit positions p));
  }

  -- the lowest that is left is taken
  module _ (rest : ℕ) (masks' : List ℕ) (s : Adding rest masks') (n : rest ≡ 0 → ⊥) (p : ℕ) (e : p ≡ count_trailing_zeros 64 rest) where
    set_at : bit rest p ≡ true
    set_at = ap (bit rest) e ∙ lowest_set 64 rest s.fits n

    pub lowest_below : Below 60 positions → p < 60
    lowest_below few = bit_inside 60 positions p few (s.among p (T_of set_at))

    abbrev rest' : ℕ
    rest' = bit_and rest (rest - 1)

    without : rest' ≡ bit_xor rest (2 ^ p)
    without = lowest_drop 64 rest p s.fits n e

    taken : (k : ℕ) → bit rest' k ≡ (bit rest k && not (eqb k p))
    taken k = ap (λ (m : ℕ). bit m k) without ∙ bit_drop rest p k set_at

    pub adding_less : rest' < rest
    adding_less = subst⁻¹ (λ (m : ℕ). m < rest) without (drop_lt rest p set_at)

    module _ (room : p < length masks') (few : q < 64) where
      abbrev more : ℕ
      more = bit_or (get_or masks' p 0) (1 * 2 ^ q % 2 ^ 64)

      more_bit : (k : ℕ) → bit more k ≡ (bit (get_or masks' p 0) k || eqb k q)
      more_bit k = ap (λ (m : ℕ). bit (bit_or (get_or masks' p 0) m) k) (shl_one 64 q few) ∙ bit_add (get_or masks' p 0) q k

      -- p was one of them and left, and is left no longer
      joined : (a b c d d' : Bool) → c ≡ true → d ≡ true → d' ≡ false → ((a || ((c && not d) && b)) || b) ≡ (a || ((c && not d') && b))
      joined true b c d d' ec ed ed' = refl
      joined false b c d d' ec ed ed' =
          ap₂ (λ (x y : Bool). ((x && not y) && b) || b) ec ed ∙ sym (ap₂ (λ (x y : Bool). (x && not y) && b) ec ed')

      pub adding_next : Adding rest' (set masks' p more)
      adding_next = record {
        fits = lt_trans adding_less s.fits;
        among = λ k t. s.among k (left (bit rest k) (not (eqb k p)) (subst T (taken k) t));
        is = λ r k. at r k (eqb r p) refl;
      }
        where
          old : ℕ → ℕ → Bool
          old r k = bit (get_or masks r 0) k

          at_p : (k : ℕ) → bit (get_or (set masks' p more) p 0) k ≡ (old p k || ((bit positions p && not (bit rest' p)) && eqb k q))
          at_p k =
              ap (λ (m : ℕ). bit m k) (get_or-set_same masks' p more 0 room) ∙ more_bit k
              ∙ ap (λ (t : Bool). t || eqb k q) (s.is p k)
              ∙ joined (old p k) (eqb k q) (bit positions p) (bit rest p) (bit rest' p) (is_true (bit positions p) (s.among p (T_of set_at))) set_at
              (taken p ∙ ap (λ (t : Bool). bit rest p && not t) (eq-eqb p p refl) ∙ and-false (bit rest p))

          at : (r k : ℕ) (t : Bool) → eqb r p ≡ t → bit (get_or (set masks' p more) r 0) k ≡ (old r k || ((bit positions r && not (bit rest' r)) && eqb k q))
          at r k true z =
              subst⁻¹ (λ (j : ℕ). bit (get_or (set masks' p more) j 0) k ≡ (old j k || ((bit positions j && not (bit rest' j)) && eqb k q))) (eqb-true r p z) (at_p k)
          at r k false z =
              ap (λ (m : ℕ). bit m k) (get_or-set_other masks' p r more 0 (eqb-false r p z)) ∙ s.is r k
              ∙ ap (λ (t : Bool). old r k || ((bit positions r && not t) && eqb k q))
              (sym (taken r ∙ ap (λ (t : Bool). bit rest r && not t) z ∙ and-true (bit rest r)))

-- ---- all of them

-- those of the positions below q are read the other way round
pub record Turns (before : List ℕ) (q : ℕ) (after : List ℕ) : Type 0 where
  pub is : (p k : ℕ) → bit (get_or after p 0) k ≡ (ltb k q && bit (get_or before k 0) p)

blank : (n p : ℕ) → ◌≡◌ {A = ℕ} (get_or (replicate n 0) p 0) 0
blank zero p = refl
blank (suc n) zero = refl
blank (suc n) (suc p) = blank n p

pub turns_none : (before after : List ℕ) → after ≡ replicate 60 0 → Turns before 0 after
turns_none before after e = record {
  is = λ p k.
      ap (λ (l : List ℕ). bit (get_or l p 0) k) e ∙ ap (λ (n : ℕ). bit n k) (blank 60 p) ∙ bit_zero k
      ∙ sym (ap (λ (t : Bool). t && bit (get_or before k 0) p) (le-ltb k 0 (omega arith)));
}

pub turns_next : (before after : List ℕ) (q : ℕ) → Turns before q after → (after' : List ℕ) → Added (get_or before q 0) q after after' → Turns before (q + 1) after'
turns_next before after q s after' w = record {
  is = λ p k. w.is p k ∙ ap (λ (t : Bool). t || (bit (get_or before q 0) p && eqb k q)) (s.is p k) ∙ go p k (ltb k q) refl (eqb k q) refl;
}
  where
    has : ℕ → ℕ → Bool
    has k p = bit (get_or before k 0) p

    go : (p k : ℕ) (u : Bool) → ltb k q ≡ u → (v : Bool) → eqb k q ≡ v → ((u && has k p) || (has q p && v)) ≡ (ltb k (q + 1) && has k p)
    go p k true a true b = let l = ltb-true k q a in let z = eqb-true k q b in absurd (omega arith)
    go p k true a false b =
        let l : k < q = ltb-true k q a in
        ap (λ (t : Bool). has k p || t) (and-false (has q p)) ∙ or-false (has k p) ∙ sym (ap (λ (t : Bool). t && has k p) (lt-ltb k (q + 1) (omega arith)))
    go p k false a true b =
        let z : k ≡ q = eqb-true k q b in
        and-true (has q p) ∙ ap (λ (j : ℕ). has j p) (sym z) ∙ sym (ap (λ (t : Bool). t && has k p) (lt-ltb k (q + 1) (omega arith)))
    go p k false a false b =
        let l : q ≤ k = ltb-false k q a in
        let z : k ≡ q → ⊥ = eqb-false k q b in
        and-false (has q p) ∙ sym (ap (λ (t : Bool). t && has k p) (le-ltb k (q + 1) (omega (arith, z))))

pub turns_all : (before after : List ℕ) (q size : ℕ) → Turns before q after → q ≤ size → size ≤ q → Turned size before after
turns_all before after q size s l g = let z : q ≡ size = omega arith in record { is = λ p k. s.is p k ∙ ap (λ (n : ℕ). ltb k n && bit (get_or before k 0) p) z }

-- the masks name positions alone
pub before_below : (h : Shape) (before : List ℕ) → Closed h before → (q : ℕ) → q < h.size → Below 60 (get_or before q 0)
before_below h before c q l k past = let few : h.size ≤ 60 = c.few in c.befores q l k (omega arith)

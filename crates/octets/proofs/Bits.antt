-- Laws of a number's bits and of masks, for any width.
use mathlib.Core.Path.{◌≡◌, refl, sym, ap, ap₂, ◌∙◌, subst⁻¹}
use mathlib.Core.Bool.{Bool, true, false, not, ◌&&◌, ◌||◌, true≢false, or-true, or-false, and-true, and-false}
use Prim.Native.Nat.{ℕ, zero, suc, ◌+◌, ◌*◌, ◌-◌, ◌/◌, ◌%◌, ◌^◌, ◌<◌, ◌≤◌, min, max}
use native.Mathlib.Omega.{arith}
use native.Mathlib.Nat.{mod-lt, mul-add-mod_self_right, mul-mod_left, mod-eq_of_lt, min-le_left, lt_of_le_of_lt, div-eq_of_lt, div-le_self, zero-div, pow-suc, div_self, div-one, add_comm, div-lt_iff_lt-mul, div-add-mod', le_refl, one-mul, mul_assoc, lt_of_lt_of_le, zero-add, add-zero}
use native.Mathlib.Numerals.{add-one}
use lib.Bits.{bit_and, bit_or, bit_xor, differ, and_step, or_step, xor_step, and_shr, or_shr, or_lt, xor_lt, xor_shr, and_mask, and_self, and_le_r, or_add_and, xor_add_and, or_shifted_r}
use lib.Count.{count_trailing_zeros, under}
use lib.Dec.{T, T_not, eqb, ltb, leb}
use lib.Pow.{pow_pos, pow-lt, pow_mono, pow-add, shl-shr, shr-shr}
use borrow.Author.Tests.{eq-eqb, ne_eqb, eqb-true, eqb-false, ltb-true, ltb-false, lt-ltb, le-ltb, leb-true, leb-false}
use borrow.Author.Count.{below_none, below_more}
use Rattle.octets.specs.Bits.{bit}
use Rattle.octets.specs.Inner.Masks.{Below, mask}
use Rattle.octets.specs.Lists.{pick}
use Rattle.octets.proofs.Tests.{both, left, right, T_of, is_true}

-- ---- a bit, as code tests it

pub low_bit : (n k : ℕ) → eqb (bit_and (n / 2 ^ k) 1) 1 ≡ bit n k
unfolding bit
low_bit n k = ap (λ (x : ℕ). eqb x 1) (and_mask (n / 2 ^ k) 1)

-- `1 << q`
pub shl_one : (w q : ℕ) → q < w → 1 * 2 ^ q % 2 ^ w ≡ 2 ^ q
shl_one w q h = ap (λ (x : ℕ). x % 2 ^ w) (one-mul (2 ^ q)) ∙ mod-eq_of_lt (pow-lt h)

pub shl_some : (w q : ℕ) → q < w → 1 ≤ 1 * 2 ^ q % 2 ^ w
shl_some w q h = subst⁻¹ (λ (n : ℕ). 1 ≤ n) (shl_one w q h) (pow_pos q)

-- ---- and, or, exclusive or

two_pos : zero < 2
two_pos = omega arith

-- one digit of each
module _ (f : ℕ → ℕ → ℕ) (g : Bool → Bool → Bool) (zz : eqb (f 0 0) 1 ≡ g false false) (zo : eqb (f 0 1) 1 ≡ g false true)
    (oz : eqb (f 1 0) 1 ≡ g true false) (oo : eqb (f 1 1) 1 ≡ g true true) where
  digit : (a b : ℕ) → a < 2 → b < 2 → eqb (f a b) 1 ≡ g (eqb a 1) (eqb b 1)
  digit zero zero ha hb = zz
  digit zero (suc zero) ha hb = zo
  digit zero (suc (suc b)) ha hb = absurd (omega arith)
  digit (suc zero) zero ha hb = oz
  digit (suc zero) (suc zero) ha hb = oo
  digit (suc zero) (suc (suc b)) ha hb = absurd (omega arith)
  digit (suc (suc a)) b ha hb = absurd (omega arith)

  -- an operation that takes the digits apart takes the bits apart
  module _ (F : ℕ → ℕ → ℕ) (shr : (a b k : ℕ) → F a b / 2 ^ k ≡ F (a / 2 ^ k) (b / 2 ^ k)) (odd : (a b : ℕ) → F a b % 2 ≡ f (a % 2) (b % 2)) where
    bitwise : (a b k : ℕ) → bit (F a b) k ≡ g (bit a k) (bit b k)
    unfolding bit
    bitwise a b k =
        ap (λ (x : ℕ). eqb (x % 2) 1) (shr a b k) ∙ ap (λ (x : ℕ). eqb x 1) (odd (a / 2 ^ k) (b / 2 ^ k))
        ∙ digit (a / 2 ^ k % 2) (b / 2 ^ k % 2) (mod-lt (a / 2 ^ k) two_pos) (mod-lt (b / 2 ^ k) two_pos)

and_odd : (a b : ℕ) → bit_and a b % 2 ≡ min (a % 2) (b % 2)
and_odd a b =
    ap (λ (x : ℕ). x % 2) (and_step a b) ∙ mul-add-mod_self_right (bit_and (a / 2) (b / 2)) 2 (min (a % 2) (b % 2))
    ∙ mod-eq_of_lt (lt_of_le_of_lt (min-le_left (a % 2) (b % 2)) (mod-lt a two_pos))

or_odd : (a b : ℕ) → bit_or a b % 2 ≡ max (a % 2) (b % 2)
or_odd a b =
    ap (λ (x : ℕ). x % 2) (or_step a b) ∙ mul-add-mod_self_right (bit_or (a / 2) (b / 2)) 2 (max (a % 2) (b % 2))
    ∙ mod-eq_of_lt (omega (arith, mod-lt a two_pos, mod-lt b two_pos))

differ_lt : (a b : ℕ) → a < 2 → b < 2 → differ a b < 2
differ_lt zero zero ha hb = omega arith
differ_lt zero (suc b) ha hb = hb
differ_lt (suc a) zero ha hb = ha
differ_lt (suc a) (suc b) ha hb = differ_lt a b (omega arith) (omega arith)

xor_odd : (a b : ℕ) → bit_xor a b % 2 ≡ differ (a % 2) (b % 2)
xor_odd a b =
    ap (λ (x : ℕ). x % 2) (xor_step a b) ∙ mul-add-mod_self_right (bit_xor (a / 2) (b / 2)) 2 (differ (a % 2) (b % 2))
    ∙ mod-eq_of_lt (differ_lt (a % 2) (b % 2) (mod-lt a two_pos) (mod-lt b two_pos))

pub bit_of_and : (a b k : ℕ) → bit (bit_and a b) k ≡ (bit a k && bit b k)
bit_of_and a b k = bitwise min (λ x y. x && y) refl refl refl refl bit_and and_shr and_odd a b k

pub bit_of_or : (a b k : ℕ) → bit (bit_or a b) k ≡ (bit a k || bit b k)
bit_of_or a b k = bitwise max (λ x y. x || y) refl refl refl refl bit_or or_shr or_odd a b k

pub bit_of_xor : (a b k : ℕ) → bit (bit_xor a b) k ≡ pick (bit b k) (not (bit a k)) (bit a k)
bit_of_xor a b k = bitwise differ (λ x y. pick y (not x) x) refl refl refl refl bit_xor xor_shr xor_odd a b k

-- ---- 0 and the powers of 2

pub bit_zero : (k : ℕ) → bit 0 k ≡ false
unfolding bit
bit_zero k = rw (zero-div (2 ^ k)) refl

bit_pow_same : (k : ℕ) → bit (2 ^ k) k ≡ true
unfolding bit
bit_pow_same k = rw (div_self (pow_pos k)) refl

-- 2 ^ (k + suc d) / 2 ^ k is even
pow_even : (k d : ℕ) → 2 ^ (k + suc d) / 2 ^ k % 2 ≡ 0
pow_even k d =
    ap (λ (x : ℕ). 2 ^ x / 2 ^ k % 2) (add_comm k (suc d)) ∙ ap (λ (x : ℕ). x / 2 ^ k % 2) (pow-add 2 (suc d) k)
    ∙ ap (λ (x : ℕ). x % 2) (shl-shr (2 ^ suc d) k) ∙ ap (λ (x : ℕ). x % 2) (pow-suc 2 d) ∙ mul-mod_left (2 ^ d) 2

bit_pow_above : (p k : ℕ) → p < k → bit (2 ^ p) k ≡ false
unfolding bit
bit_pow_above p k h = rw (div-eq_of_lt (pow-lt h)) refl

bit_pow_below : (p k : ℕ) → k < p → bit (2 ^ p) k ≡ false
unfolding bit
bit_pow_below p k h =
    let e : p ≡ k + suc (p - suc k) = omega arith in
    ap (λ (x : ℕ). eqb (2 ^ x / 2 ^ k % 2) 1) e ∙ ap (λ (x : ℕ). eqb x 1) (pow_even k (p - suc k))

pub bit_pow : (p k : ℕ) → bit (2 ^ p) k ≡ eqb k p
bit_pow p k = go (ltb k p) refl (ltb p k) refl
  where
    go : (t : Bool) → ltb k p ≡ t → (u : Bool) → ltb p k ≡ u → bit (2 ^ p) k ≡ eqb k p
    go true a u b = let h : k < p = ltb-true k p a in bit_pow_below p k h ∙ sym (ne_eqb k p (λ e. omega arith))
    go false a true b = let h : p < k = ltb-true p k b in bit_pow_above p k h ∙ sym (ne_eqb k p (λ e. omega arith))
    go false a false b =
        let h : p ≤ k = ltb-false k p a in
        let g : k ≤ p = ltb-false p k b in
        let e : k ≡ p = omega arith in
        rw e (bit_pow_same p ∙ sym (eq-eqb p p refl))

-- one bit more
pub bit_add : (n p k : ℕ) → bit (bit_or n (2 ^ p)) k ≡ (bit n k || eqb k p)
bit_add n p k = bit_of_or n (2 ^ p) k ∙ ap (λ (x : Bool). bit n k || x) (bit_pow p k)

-- ---- shifts

pub bit_shr : (n s k : ℕ) → bit (n / 2 ^ s) k ≡ bit n (s + k)
unfolding bit
bit_shr n s k = ap (λ (x : ℕ). eqb (x % 2) 1) (shr-shr n s k)

pub bit_shl : (n s k : ℕ) → bit (n * 2 ^ s) (s + k) ≡ bit n k
unfolding bit
bit_shl n s k = ap (λ (x : ℕ). eqb (x % 2) 1) (sym (shr-shr (n * 2 ^ s) s k) ∙ ap (λ (x : ℕ). x / 2 ^ k) (shl-shr n s))

pub bit_shl_low : (n s k : ℕ) → k < s → bit (n * 2 ^ s) k ≡ false
unfolding bit
bit_shl_low n s k h =
    let e : s ≡ suc (s - suc k) + k = omega arith in
    ap (λ (x : ℕ). eqb (n * 2 ^ x / 2 ^ k % 2) 1) e
    ∙ ap (λ (x : ℕ). eqb (n * x / 2 ^ k % 2) 1) (pow-add 2 (suc (s - suc k)) k)
    ∙ ap (λ (x : ℕ). eqb (x / 2 ^ k % 2) 1) (sym (mul_assoc n (2 ^ suc (s - suc k)) (2 ^ k)))
    ∙ ap (λ (x : ℕ). eqb (x % 2) 1) (shl-shr (n * 2 ^ suc (s - suc k)) k)
    ∙ ap (λ (x : ℕ). eqb (n * x % 2) 1) (pow-suc 2 (s - suc k))
    ∙ ap (λ (x : ℕ). eqb (x % 2) 1) (sym (mul_assoc n (2 ^ (s - suc k)) 2))
    ∙ ap (λ (x : ℕ). eqb x 1) (mul-mod_left (n * 2 ^ (s - suc k)) 2)

-- ---- a number is its bits

half_bit : (n k : ℕ) → bit (n / 2) k ≡ bit n (suc k)
unfolding bit
half_bit n k = ap (λ (x : ℕ). eqb (x % 2) 1) (shr-shr n 1 k ∙ ap (λ (x : ℕ). n / 2 ^ x) (add_comm 1 k ∙ add-one k))

half_lt : (w n : ℕ) → n < 2 ^ suc w → n / 2 < 2 ^ w
half_lt w n h = (div-lt_iff_lt-mul two_pos).1 (rw (pow-suc 2 w) at h)

odd_of : (m n : ℕ) → bit m 0 ≡ bit n 0 → m % 2 ≡ n % 2
unfolding bit
odd_of m n e =
    go (m % 2) (n % 2) (mod-lt m two_pos) (mod-lt n two_pos)
    (ap (λ (x : ℕ). eqb (x % 2) 1) (sym (div-one m)) ∙ e ∙ ap (λ (x : ℕ). eqb (x % 2) 1) (div-one n))
  where
    go : (a b : ℕ) → a < 2 → b < 2 → eqb a 1 ≡ eqb b 1 → a ≡ b
    go zero zero ha hb q = refl
    go zero (suc zero) ha hb q = absurd (true≢false (sym q))
    go zero (suc (suc b)) ha hb q = absurd (omega arith)
    go (suc zero) zero ha hb q = absurd (true≢false q)
    go (suc zero) (suc zero) ha hb q = refl
    go (suc zero) (suc (suc b)) ha hb q = absurd (omega arith)
    go (suc (suc a)) b ha hb q = absurd (omega arith)

pub bit_ext : (w m n : ℕ) → m < 2 ^ w → n < 2 ^ w → ((k : ℕ) → k < w → bit m k ≡ bit n k) → m ≡ n
bit_ext zero m n hm hn e = omega arith
bit_ext (suc w) m n hm hn e =
    let halves : m / 2 ≡ n / 2 =
    bit_ext w (m / 2) (n / 2) (half_lt w m hm) (half_lt w n hn)
    (λ k h. half_bit m k ∙ e (suc k) (omega arith) ∙ sym (half_bit n k))
    in
    let odds : m % 2 ≡ n % 2 = odd_of m n (e 0 (omega arith)) in
    omega (arith, div-add-mod' m 2, div-add-mod' n 2)

-- ---- the lowest bit of a number that is not 0

pub lowest_set : (w n : ℕ) → n < 2 ^ w → (n ≡ 0 → ⊥) → bit n (count_trailing_zeros w n) ≡ true
unfolding count_trailing_zeros bit
lowest_set zero n h z = absurd (z (omega arith))
lowest_set (suc w) n h z = go (n % 2) refl (λ m. lowest_set w (n / 2) (half_lt w n h) m)
  where
    go : (r : ℕ) → n % 2 ≡ r → ((n / 2 ≡ 0 → ⊥) → bit (n / 2) (count_trailing_zeros w (n / 2)) ≡ true) → bit n (under r (count_trailing_zeros w (n / 2))) ≡ true
    go zero e ih = sym (half_bit n (count_trailing_zeros w (n / 2))) ∙ ih (λ q. z (omega (arith, div-add-mod' n 2)))
    go (suc r) e ih = rw (div-one n) (eq-eqb (n % 2) 1 (omega (arith, mod-lt n two_pos)))

lt_pow : (n : ℕ) → n < 2 ^ n
lt_pow zero = omega arith
lt_pow (suc n) = omega (arith, pow-suc 2 n, lt_pow n)

-- some bit is set
pub some_bit : (n : ℕ) → (n ≡ 0 → ⊥) → (k : ℕ) × (bit n k ≡ true)
some_bit n z = (count_trailing_zeros n n, lowest_set n n (lt_pow n) z)

pub bit_nonzero : (n k : ℕ) → bit n k ≡ true → n ≡ 0 → ⊥
bit_nonzero n k e q = true≢false (sym e ∙ ap (λ (x : ℕ). bit x k) q ∙ bit_zero k)

-- where two numbers together have no bit, neither has one
pub or_none_left : (a b : ℕ) → bit_or a b ≡ 0 → a ≡ 0
or_none_left a b e = omega (arith, e, or_add_and a b, and_le_r a b)

pub or_none_right : (a b : ℕ) → bit_or a b ≡ 0 → b ≡ 0
or_none_right a b e = sym (ap (λ (n : ℕ). bit_or n b) (or_none_left a b e)) ∙ e

pub bit_below : (w n k : ℕ) → n < 2 ^ w → bit n k ≡ true → k < w
unfolding bit
bit_below w n k h e = go (ltb k w) refl
  where
    go : (t : Bool) → ltb k w ≡ t → k < w
    go true t = ltb-true k w t
    go false t = absurd (true≢false (sym e ∙ ap (λ (x : ℕ). eqb (x % 2) 1) (div-eq_of_lt (lt_of_lt_of_le h (pow_mono (ltb-false k w t))))))

-- ---- a bit taken away, `n ^ 1 << p`

pub bit_drop : (n p k : ℕ) → bit n p ≡ true → bit (bit_xor n (2 ^ p)) k ≡ (bit n k && not (eqb k p))
bit_drop n p k e = bit_of_xor n (2 ^ p) k ∙ ap (λ (x : Bool). pick x (not (bit n k)) (bit n k)) (bit_pow p k) ∙ go (eqb k p) refl
  where
    go : (t : Bool) → eqb k p ≡ t → pick t (not (bit n k)) (bit n k) ≡ (bit n k && not t)
    go true t =
        let f : bit n k ≡ true = ap (λ (x : ℕ). bit n x) (eqb-true k p t) ∙ e in
        ap not f ∙ sym (ap (λ (x : Bool). x && false) f)
    go false t = sym (and-true (bit n k))

-- a bit that is set, alone
and_pow : (n p : ℕ) → bit n p ≡ true → bit_and n (2 ^ p) ≡ 2 ^ p
and_pow n p e =
    bit_ext (suc p) (bit_and n (2 ^ p)) (2 ^ p) (lt_of_le_of_lt (and_le_r n (2 ^ p)) (pow-lt (lt_suc p))) (pow-lt (lt_suc p)) (λ k h. same k)
  where
    lt_suc : (k : ℕ) → k < suc k
    lt_suc k = omega arith

    same : (k : ℕ) → bit (bit_and n (2 ^ p)) k ≡ bit (2 ^ p) k
    same k = bit_of_and n (2 ^ p) k ∙ ap (λ (x : Bool). bit n k && x) (bit_pow p k) ∙ go (eqb k p) refl ∙ sym (bit_pow p k)
      where
        go : (t : Bool) → eqb k p ≡ t → (bit n k && t) ≡ t
        go true t = ap (λ (x : Bool). x && true) (ap (λ (x : ℕ). bit n x) (eqb-true k p t) ∙ e)
        go false t = and-false (bit n k)

pub drop_lt : (n p : ℕ) → bit n p ≡ true → bit_xor n (2 ^ p) < n
drop_lt n p e = omega (arith, xor_add_and n (2 ^ p), and_pow n p e, pow_pos p)

-- the lowest bit taken away, `n & (n - 1)`
lowest_gone : (w n : ℕ) → n < 2 ^ w → (n ≡ 0 → ⊥) → bit_and n (n - 1) + 2 ^ count_trailing_zeros w n ≡ n
unfolding count_trailing_zeros
lowest_gone zero n h z = absurd (z (omega arith))
lowest_gone (suc w) n h z = go (n % 2) refl (λ m. lowest_gone w (n / 2) (half_lt w n h) m)
  where
    odd : n % 2 ≡ 1 → bit_and n (n - 1) ≡ n / 2 * 2
    odd e =
        let d : (n - 1) / 2 ≡ n / 2 = omega (arith, div-add-mod' n 2, div-add-mod' (n - 1) 2, mod-lt (n - 1) two_pos) in
        let m : (n - 1) % 2 ≡ 0 = omega (arith, div-add-mod' n 2, div-add-mod' (n - 1) 2, mod-lt (n - 1) two_pos) in
        and_step n (n - 1) ∙ ap (λ (x : ℕ). bit_and (n / 2) x * 2 + min (n % 2) ((n - 1) % 2)) d
        ∙ ap (λ (x : ℕ). x * 2 + min (n % 2) ((n - 1) % 2)) (and_self (n / 2)) ∙ ap₂ (λ (x y : ℕ). n / 2 * 2 + min x y) e m ∙ add-zero (n / 2 * 2)

    even : n % 2 ≡ 0 → bit_and n (n - 1) ≡ bit_and (n / 2) (n / 2 - 1) * 2
    even e =
        let d : (n - 1) / 2 ≡ n / 2 - 1 = omega (arith, z, div-add-mod' n 2, div-add-mod' (n - 1) 2, mod-lt (n - 1) two_pos) in
        let m : (n - 1) % 2 ≡ 1 = omega (arith, z, div-add-mod' n 2, div-add-mod' (n - 1) 2, mod-lt (n - 1) two_pos) in
        and_step n (n - 1) ∙ ap (λ (x : ℕ). bit_and (n / 2) x * 2 + min (n % 2) ((n - 1) % 2)) d
        ∙ ap₂ (λ (x y : ℕ). bit_and (n / 2) (n / 2 - 1) * 2 + min x y) e m ∙ add-zero (bit_and (n / 2) (n / 2 - 1) * 2)

    go : (r : ℕ) → n % 2 ≡ r → ((n / 2 ≡ 0 → ⊥) → bit_and (n / 2) (n / 2 - 1) + 2 ^ count_trailing_zeros w (n / 2) ≡ n / 2)
        → bit_and n (n - 1) + 2 ^ under r (count_trailing_zeros w (n / 2)) ≡ n
    go zero e ih =
        let half = ih (λ q. z (omega (arith, div-add-mod' n 2))) in
        omega (arith, half, even e, pow-suc 2 (count_trailing_zeros w (n / 2)), div-add-mod' n 2)
    go (suc r) e ih =
        let one : n % 2 ≡ 1 = omega (arith, mod-lt n two_pos) in
        omega (arith, odd one, one, div-add-mod' n 2)

pub lowest_drop : (w n p : ℕ) → n < 2 ^ w → (n ≡ 0 → ⊥) → p ≡ count_trailing_zeros w n → bit_and n (n - 1) ≡ bit_xor n (2 ^ p)
lowest_drop w n p h z e =
    let s : bit n p ≡ true = ap (bit n) e ∙ lowest_set w n h z in
    let g : bit_and n (n - 1) + 2 ^ p ≡ n = ap (λ (q : ℕ). bit_and n (n - 1) + 2 ^ q) e ∙ lowest_gone w n h z in
    omega (arith, g, xor_add_and n (2 ^ p), and_pow n p s)

-- ---- no bit from w on

pub bit_inside : (w n k : ℕ) → Below w n → T (bit n k) → k < w
bit_inside w n k b t = go (ltb k w) refl
  where
    go : (u : Bool) → ltb k w ≡ u → k < w
    go true e = ltb-true k w e
    go false e = absurd (true≢false (sym (is_true (bit n k) t) ∙ b k (ltb-false k w e)))

pub below_wider : (w v n : ℕ) → w ≤ v → Below w n → Below v n
below_wider w v n l b k h = b k (omega arith)

-- ---- bits in common, as code tests them: `f & s != 0`

pub common : (f s : ℕ) → T (not (eqb (bit_and f s) 0)) → (q : ℕ) × T (bit f q) × T (bit s q)
common f s t =
    let r : (k : ℕ) × (bit (bit_and f s) k ≡ true) = some_bit (bit_and f s) (λ e. T_not (eqb (bit_and f s) 0) t (T_of (eq-eqb (bit_and f s) 0 e))) in
    let b : T (bit f r.0 && bit s r.0) = T_of (sym (bit_of_and f s r.0) ∙ r.1) in
    (r.0, left (bit f r.0) (bit s r.0) b, right (bit f r.0) (bit s r.0) b)

pub share : (f s q : ℕ) → T (bit f q) → T (bit s q) → T (not (eqb (bit_and f s) 0))
share f s q g h =
    T_of (ap not (ne_eqb (bit_and f s) 0 (bit_nonzero (bit_and f s) q (bit_of_and f s q ∙ is_true (bit f q && bit s q) (both (bit f q) (bit s q) g h)))))

-- ---- the number whose bits a test gives

pub mask_lt : (w : ℕ) (f : ℕ → Bool) → mask w f < 2 ^ w
unfolding mask
mask_lt zero f = omega arith
mask_lt (suc w) f = go (f w) (mask_lt w f)
  where
    go : (t : Bool) → mask w f < 2 ^ w → pick t (2 ^ w) 0 + mask w f < 2 ^ suc w
    go true h = omega (arith, pow-suc 2 w)
    go false h = omega (arith, pow-suc 2 w)

-- a power above a number is joined by a sum
add_pow : (w n : ℕ) → n < 2 ^ w → 2 ^ w + n ≡ bit_or n (2 ^ w)
add_pow w n h = ap (λ (x : ℕ). x + n) (sym (one-mul (2 ^ w))) ∙ sym (or_shifted_r 1 w n h) ∙ ap (bit_or n) (one-mul (2 ^ w))

pub bit_mask : (w : ℕ) (f : ℕ → Bool) (k : ℕ) → bit (mask w f) k ≡ (ltb k w && f k)
unfolding mask
bit_mask zero f k = bit_zero k ∙ sym (ap (λ (x : Bool). x && f k) (le-ltb k 0 (omega arith)))
bit_mask (suc w) f k = go (f w) refl (bit_mask w f k)
  where
    past : (t : Bool) → f w ≡ t → ((ltb k w && f k) || (eqb k w && t)) ≡ (ltb k (suc w) && f k)
    past t e = at (ltb k w) refl (eqb k w) refl
      where
        at : (u : Bool) → ltb k w ≡ u → (v : Bool) → eqb k w ≡ v → ((u && f k) || (v && t)) ≡ (ltb k (suc w) && f k)
        at true a true b = let l = ltb-true k w a in let q = eqb-true k w b in absurd (omega arith)
        at true a false b = let l = ltb-true k w a in or-false (f k) ∙ sym (ap (λ (x : Bool). x && f k) (lt-ltb k (suc w) (omega arith)))
        at false a true b =
            let q = eqb-true k w b in
            sym (ap (λ (x : Bool). x && f k) (lt-ltb k (suc w) (omega arith)) ∙ ap f q ∙ e)
        at false a false b =
            let l = ltb-false k w a in
            let q = eqb-false k w b in
            sym (ap (λ (x : Bool). x && f k) (le-ltb k (suc w) (omega arith)))

    go : (t : Bool) → f w ≡ t → bit (mask w f) k ≡ (ltb k w && f k) → bit (pick t (2 ^ w) 0 + mask w f) k ≡ (ltb k (suc w) && f k)
    go true e ih =
        ap (λ (x : ℕ). bit x k) (add_pow w (mask w f) (mask_lt w f)) ∙ bit_add (mask w f) w k ∙ ap (λ (x : Bool). x || eqb k w) ih
        ∙ ap (λ (x : Bool). (ltb k w && f k) || x) (sym (and-true (eqb k w))) ∙ past true e
    go false e ih =
        ap (λ (x : ℕ). bit x k) (zero-add (mask w f)) ∙ ih
        ∙ sym (ap (λ (x : Bool). (ltb k w && f k) || x) (and-false (eqb k w)) ∙ or-false (ltb k w && f k)) ∙ past false e

-- the w low bits, all set
ones : (w : ℕ) → mask w (λ k. true) ≡ 2 ^ w - 1
unfolding mask
ones zero = refl
ones (suc w) = ap (λ (x : ℕ). 2 ^ w + x) (ones w) ∙ omega (arith, pow-suc 2 w, pow_pos w)

pub bit_ones : (w k : ℕ) → bit (2 ^ w - 1) k ≡ ltb k w
bit_ones w k = ap (λ (n : ℕ). bit n k) (sym (ones w)) ∙ bit_mask w (λ k. true) k ∙ and-true (ltb k w)

pub mask_bit : (w : ℕ) (f : ℕ → Bool) (k : ℕ) → k < w → bit (mask w f) k ≡ f k
mask_bit w f k h = bit_mask w f k ∙ ap (λ (x : Bool). x && f k) (lt-ltb k w h)

-- a number below 2 ^ w is the mask of its bits
pub mask_of : (w n : ℕ) (f : ℕ → Bool) → n < 2 ^ w → ((k : ℕ) → k < w → bit n k ≡ f k) → n ≡ mask w f
mask_of w n f h e =
    bit_ext w n (mask w f) h (mask_lt w f) (λ k l. e k l ∙ sym (mask_bit w f k l))

pub mask_and : (w : ℕ) (f g : ℕ → Bool) → bit_and (mask w f) (mask w g) ≡ mask w (λ k. f k && g k)
mask_and w f g =
    mask_of w (bit_and (mask w f) (mask w g)) (λ k. f k && g k) (lt_of_le_of_lt (and_le_r (mask w f) (mask w g)) (mask_lt w g))
    (λ k h. bit_of_and (mask w f) (mask w g) k ∙ ap₂ (λ (x y : Bool). x && y) (mask_bit w f k h) (mask_bit w g k h))

pub mask_or : (w : ℕ) (f g : ℕ → Bool) → bit_or (mask w f) (mask w g) ≡ mask w (λ k. f k || g k)
mask_or w f g =
    mask_of w (bit_or (mask w f) (mask w g)) (λ k. f k || g k) (or_lt w (mask w f) (mask w g) (mask_lt w f) (mask_lt w g))
    (λ k h. bit_of_or (mask w f) (mask w g) k ∙ ap₂ (λ (x y : Bool). x || y) (mask_bit w f k h) (mask_bit w g k h))

pub mask_ext : (w : ℕ) (f g : ℕ → Bool) → ((k : ℕ) → k < w → f k ≡ g k) → mask w f ≡ mask w g
mask_ext w f g e = mask_of w (mask w f) g (mask_lt w f) (λ k h. mask_bit w f k h ∙ e k h)

pub mask_with : (w : ℕ) (f : ℕ → Bool) (j : ℕ) → j < w → bit_or (mask w f) (2 ^ j) ≡ mask w (λ k. f k || eqb k j)
mask_with w f j h =
    mask_of w (bit_or (mask w f) (2 ^ j)) (λ k. f k || eqb k j) (or_lt w (mask w f) (2 ^ j) (mask_lt w f) (pow-lt h))
    (λ k l. bit_add (mask w f) j k ∙ ap (λ (x : Bool). x || eqb k j) (mask_bit w f k l))

pub mask_not : (w : ℕ) (f : ℕ → Bool) → bit_xor (mask w f) (2 ^ w - 1) ≡ mask w (λ k. not (f k))
mask_not w f =
    mask_of w (bit_xor (mask w f) (2 ^ w - 1)) (λ k. not (f k)) (xor_lt w (mask w f) (2 ^ w - 1) (mask_lt w f) (omega (arith, pow_pos w)))
    (λ k h. bit_of_xor (mask w f) (2 ^ w - 1) k ∙ ap₂ (λ (x y : Bool). pick x (not y) y) (bit_ones w k ∙ lt-ltb k w h) (mask_bit w f k h))

-- the bits below w
pub bit_cut : (n w k : ℕ) → bit (n % 2 ^ w) k ≡ (bit n k && ltb k w)
bit_cut n w k = ap (λ (x : ℕ). bit x k) (sym (and_mask n w)) ∙ bit_of_and n (2 ^ w - 1) k ∙ ap (λ (x : Bool). bit n k && x) (bit_ones w k)

-- the bits from s on, as code makes them: `ALL << s`
pub ones_up : (w s : ℕ) → (2 ^ w - 1) * 2 ^ s % 2 ^ w ≡ mask w (leb s)
ones_up w s = mask_of w ((2 ^ w - 1) * 2 ^ s % 2 ^ w) (leb s) (mod-lt ((2 ^ w - 1) * 2 ^ s) (pow_pos w)) (λ k h. at k h (leb s k) refl)
  where
    cut : (n k : ℕ) → k < w → bit (n % 2 ^ w) k ≡ bit n k
    cut n k h = bit_cut n w k ∙ ap (λ (x : Bool). bit n k && x) (lt-ltb k w h) ∙ and-true (bit n k)

    at : (k : ℕ) → k < w → (t : Bool) → leb s k ≡ t → bit ((2 ^ w - 1) * 2 ^ s % 2 ^ w) k ≡ t
    at k h true e =
        let l = leb-true s k e in
        let z : k ≡ s + (k - s) = omega arith in
        cut ((2 ^ w - 1) * 2 ^ s) k h ∙ ap (bit ((2 ^ w - 1) * 2 ^ s)) z ∙ bit_shl (2 ^ w - 1) s (k - s) ∙ bit_ones w (k - s) ∙ lt-ltb (k - s) w (omega arith)
    at k h false e = cut ((2 ^ w - 1) * 2 ^ s) k h ∙ bit_shl_low (2 ^ w - 1) s k (leb-false s k e)

-- and those below w - s: `ALL >> s`
pub ones_down : (w s : ℕ) → (2 ^ w - 1) / 2 ^ s ≡ mask w (λ k. ltb (s + k) w)
ones_down w s =
    mask_of w ((2 ^ w - 1) / 2 ^ s) (λ k. ltb (s + k) w) (lt_of_le_of_lt (div-le_self (2 ^ w - 1) (2 ^ s)) (omega (arith, pow_pos w)))
    (λ k h. bit_shr (2 ^ w - 1) s k ∙ bit_ones w (s + k))

-- ---- a mask under way: of the bits below q each says what f says, and no other is set

pub record Mask (f : ℕ → Bool) (q n : ℕ) : Type 0 where
  pub set : (k : ℕ) → k < q → bit n k ≡ f k
  pub rest : Below q n

pub mask_none : (f : ℕ → Bool) → Mask f 0 0
mask_none f = record { set = below_none (λ k. bit 0 k ≡ f k); rest = λ k h. bit_zero k }

pub mask_skip : (f : ℕ → Bool) (q n : ℕ) → Mask f q n → f q ≡ false → Mask f (q + 1) n
mask_skip f q n m e =
    record {
      set = below_more (λ k. bit n k ≡ f k) q m.set (m.rest q (le_refl q) ∙ sym e);
      rest = λ k h. m.rest k (omega arith);
    }

pub mask_add : (f : ℕ → Bool) (q n : ℕ) → Mask f q n → f q ≡ true → Mask f (q + 1) (bit_or n (2 ^ q))
mask_add f q n m e =
    record {
      set = below_more (λ k. bit (bit_or n (2 ^ q)) k ≡ f k) q
          (λ k h. bit_add n q k ∙ ap (λ (x : Bool). bit n k || x) (ne_eqb k q (λ z. omega arith)) ∙ or-false (bit n k) ∙ m.set k h)
          (bit_add n q q ∙ ap (λ (x : Bool). bit n q || x) (eq-eqb q q refl) ∙ or-true (bit n q) ∙ sym e);
      rest = λ k h.
          bit_add n q k ∙ ap (λ (x : Bool). bit n k || x) (ne_eqb k q (λ z. omega arith)) ∙ or-false (bit n k) ∙ m.rest k (omega arith);
    }

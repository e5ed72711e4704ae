-- Numbers by their exact value, as far as they are told apart.
use mathlib.Core.Path.{◌≡◌, refl, sym, ap, ap₂, ◌∙◌, subst⁻¹}
use mathlib.Core.Bool.{Bool, false, not}
use Prim.Native.Nat.{ℕ, suc, ◌+◌, ◌*◌, ◌-◌, ◌≤◌, ◌<◌}
use native.Mathlib.Numerals.{add-one}
use native.Mathlib.Omega.{arith}
use mathlib.Core.List.{List, [], ◌∷◌}
use lib.Dec.{T, leb, leb→le, nleb→lt}
use lib.ListN.{length, get_or, drop, drop_of_length-le}
use lib.Seq.{drop-cons}
use borrow.Author.Tests.{le-leb}
use Rattle.octets.specs.Lists.{pick}
use Rattle.octets.proofs.Tests.{test_cases, T_of}
use Rattle.scan.specs.Table.{decimal}
use Rattle.compose.specs.Inner.Values.{capped, value_of}

pub capped_small : (n : ℕ) → n ≤ 4294967296 → n ≡ capped n
capped_small n h = rw (le-leb n 4294967296 h)

pub capped_under : (n : ℕ) → capped n ≤ 4294967296
capped_under n =
    test_cases (leb n 4294967296)
    (λ e. rw e (leb→le n 4294967296 (T_of e)))
    (λ e. rw e (omega arith))

T_not_of : (b : Bool) → b ≡ false → T (not b)
T_not_of b e = subst⁻¹ (λ (x : Bool). T (not x)) e tt

decimal_more : (ds : List ℕ) (n : ℕ) → n ≤ decimal n ds
decimal_more [] n = omega arith
decimal_more (d ∷ ds) n = let h : n * 10 + (d - 48) ≤ decimal (n * 10 + (d - 48)) ds = decimal_more ds (n * 10 + (d - 48)) in omega (arith, h)

capped_over : (n : ℕ) → 4294967296 ≤ n → capped n ≡ 4294967296
capped_over n h =
    test_cases (leb n 4294967296)
    (λ e. let l : n ≤ 4294967296 = leb→le n 4294967296 (T_of e) in rw e (omega (arith, l, h)))
    (λ e. rw e)

-- digits behind a number that is too large leave it so
capped_on : (n : ℕ) (ds : List ℕ) → capped (decimal (capped n) ds) ≡ capped (decimal n ds)
capped_on n ds =
    test_cases (leb n 4294967296)
    (λ e. ap (λ (b : Bool). capped (decimal (pick b n 4294967296) ds)) e)
    (λ e. let l : 4294967296 < n = nleb→lt n 4294967296 (T_not_of (leb n 4294967296) e) in
    let a : 4294967296 ≤ decimal 4294967296 ds = decimal_more ds 4294967296 in
    let b : n ≤ decimal n ds = decimal_more ds n in
    ap (λ (x : Bool). capped (decimal (pick x n 4294967296) ds)) e
    ∙ capped_over (decimal 4294967296 ds) a
    ∙ sym (capped_over (decimal n ds) (omega (arith, l, b))))

-- ---- the loop

pub record Valuing (t : List ℕ) (i n : ℕ) : Type 0 where
  pub inside : i ≤ length t
  pub small : n ≤ 4294967296
  pub same : capped (decimal n (drop i t)) ≡ value_of t

pub valuing_first : (t : List ℕ) → Valuing t 0 0
valuing_first t = record { inside = omega arith; small = omega arith; same = refl }

pub valuing_end : (t : List ℕ) (i n : ℕ) → Valuing t i n → length t ≤ i → n ≡ value_of t
valuing_end t i n v h = capped_small n v.small ∙ ap (λ (l : List ℕ). capped (decimal n l)) (sym (drop_of_length-le t h)) ∙ v.same

pub valuing_next : (t : List ℕ) (i n : ℕ) → Valuing t i n → i < length t → (d m : ℕ) → d ≡ get_or t i 0 - 48 → m ≡ capped (n * 10 + d) → Valuing t (i + 1) m
valuing_next t i n v h d m e f = record {
  inside = omega (arith, h);
  small = subst⁻¹ (λ (x : ℕ). x ≤ 4294967296) f (capped_under (n * 10 + d));
  same =
      ap₂ (λ (x j : ℕ). capped (decimal x (drop j t))) f (add-one i)
      ∙ capped_on (n * 10 + d) (drop (suc i) t)
      ∙ ap (λ (x : ℕ). capped (decimal (n * 10 + x) (drop (suc i) t))) e
      ∙ ap (λ (l : List ℕ). capped (decimal n l)) (sym (drop-cons t i 0 h))
      ∙ v.same;
}

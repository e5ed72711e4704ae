-- The head: its bytes one after the other, and its lines by place.
use mathlib.Core.Bool.{Bool, true, false, not, ◌||◌, and-false, true≢false}
use mathlib.Core.Path.{◌≡◌, refl, sym, ap, ◌∙◌, subst}
use mathlib.Core.List.{List, [], ◌∷◌}
use Prim.Native.Nat.{ℕ, suc, ◌+◌, ◌≤◌, ◌<◌, zero-le}
use native.Mathlib.Nat.{add-zero}
use native.Mathlib.Decide.{dec_le}
use native.Mathlib.Numerals.{add-one, add-one-le}
use native.Mathlib.Omega.{arith}
use lib.ListN.{length, get_or, drop, drop_of_length-le, get_or-eq_default}
use lib.Dec.{T, leb, eqb}
use lib.Seq.{drop-cons, get_or-drop}
use borrow.Author.Tests.{ne_eqb, leb-true, not-true, not-false, eqb-true}
use Rattle.octets.specs.Bytes.{within}
use Rattle.octets.specs.Lists.{every}
use Rattle.octets.proofs.Tests.{both, left, right, or_cases, or_neither, T_of, is_true, is_false, test_cases}
use Rattle.request.specs.Request.{head_byte, paired, bytes_right}

-- ---- its bytes

-- only a CR before matters
paired_plain : (b : ℕ) (s : List ℕ) → eqb b 13 ≡ false → paired b s ≡ paired 0 s
unfolding paired
paired_plain b [] e = rw e
paired_plain b (c ∷ s) e = rw e

-- the bytes before i are right: the rest says whether all are
pub record Passed (h : List ℕ) (i : ℕ) : Type 0 where
  pub inside : i ≤ length h
  pub rest : bytes_right h ≡ bytes_right (drop i h)

pub passed_none : (h : List ℕ) → Passed h 0
passed_none h = record { inside = zero-le; rest = refl }

-- one byte that is neither CR nor LF
byte_on : (b : ℕ) (s : List ℕ) → head_byte b ≡ true → (b ≡ 13 → ⊥) → (b ≡ 10 → ⊥) → bytes_right (b ∷ s) ≡ bytes_right s
unfolding paired
byte_on b s h n m = rw (h, ne_eqb b 10 m, paired_plain b s (ne_eqb b 13 n))

pair_on : (s : List ℕ) → bytes_right (13 ∷ 10 ∷ s) ≡ bytes_right s
unfolding paired
pair_on s = rw (paired_plain 10 s refl)

lone_lf : (s : List ℕ) → bytes_right (10 ∷ s) ≡ false
unfolding paired
lone_lf s = and-false (every head_byte s)

lone_cr : (s : List ℕ) → (get_or s 0 0 ≡ 10 → ⊥) → bytes_right (13 ∷ s) ≡ false
unfolding paired
lone_cr [] n = refl
lone_cr (c ∷ s) n = rw (ne_eqb c 10 n, and-false)

-- 32..126
printed_on : (b : ℕ) (s : List ℕ) → within 32 126 b ≡ true → bytes_right (b ∷ s) ≡ bytes_right s
printed_on b s y =
    let not_at : (c : ℕ) → within 32 126 c ≡ false → b ≡ c → ⊥ = λ c n e. true≢false (sym y ∙ ap (within 32 126) e ∙ n) in
    byte_on b s (rw y) (not_at 13 refl) (not_at 10 refl)

-- any other but CR: HTAB, and 128 and up
module _ (b : ℕ) (s : List ℕ) (n : within 32 126 b ≡ false) where
  other_on : (eqb b 9 || leb 128 b) ≡ true → bytes_right (b ∷ s) ≡ bytes_right s
  other_on y =
      or_cases (eqb b 9) (leb 128 b) (T_of y)
      (λ t. let e : b ≡ 9 = eqb-true b 9 (is_true (eqb b 9) t) in byte_on b s (rw e) (λ q. omega arith) (λ q. omega arith))
      (λ t. let l : leb 128 b ≡ true = is_true (leb 128 b) t in byte_on b s (rw (n, l)) (λ q. omega (arith, leb-true 128 b l)) (λ q. omega (arith, leb-true 128 b l)))

  other_wrong : (b ≡ 13 → ⊥) → (eqb b 9 || leb 128 b) ≡ false → bytes_right (b ∷ s) ≡ false
  other_wrong m w =
      let neither = or_neither (eqb b 9) (leb 128 b) w in
      test_cases (eqb b 10)
      (λ y. rw (eqb-true b 10 y) (lone_lf s))
      (λ o. rw (n, neither.1, neither.0, o, ne_eqb b 13 m))

-- ---- what the code finds at a place

module _ (h : List ℕ) (i : ℕ) (k : Passed h i) where
  pub bytes_end : length h ≤ i → true ≡ bytes_right h
  unfolding paired
  bytes_end l = sym (k.rest ∙ ap bytes_right (drop_of_length-le h l))

  module _ (inside : i < length h) where
    cut : drop i h ≡ get_or h i 0 ∷ drop (i + 1) h
    cut = rw add-one (drop-cons h i 0 inside)

    here : bytes_right h ≡ bytes_right (get_or h i 0 ∷ drop (i + 1) h)
    here = k.rest ∙ ap bytes_right cut

    pub bytes_printed : within 32 126 (get_or h i 0) ≡ true → Passed h (i + 1)
    bytes_printed y = record { inside = add-one-le inside; rest = here ∙ printed_on (get_or h i 0) (drop (i + 1) h) y }

    module _ (cr : get_or h i 0 ≡ 13) (c : ℕ) (ec : c ≡ get_or h (i + 1) 0) where
      pub bytes_lone : (c ≡ 10 → ⊥) → false ≡ bytes_right h
      bytes_lone m =
          let next : get_or (drop (i + 1) h) 0 0 ≡ c = get_or-drop (i + 1) h 0 0 ∙ ap (λ (n : ℕ). get_or h n 0) (add-zero (i + 1)) ∙ sym ec in
          sym (here ∙ rw cr (lone_cr (drop (i + 1) h) (λ e. m (sym next ∙ e))))

      pub bytes_pair : c ≡ 10 → Passed h (i + 2)
      bytes_pair e =
          let more : i + 1 < length h = elim (dec_le (length h) (i + 1)) [
            | yes l ↦ absurd (omega (arith, e, ec, get_or-eq_default h 0 l))
            | no l ↦ omega (arith, l)
          ] in
          let two : suc (i + 1) ≡ i + 2 = omega arith in
          let next : drop (i + 1) h ≡ 10 ∷ drop (i + 2) h = drop-cons h (i + 1) 0 more ∙ (λ j. (sym ec ∙ e) j ∷ drop (two j) h) in
          record { inside = omega arith; rest = here ∙ rw (cr, next) (pair_on (drop (i + 2) h)) }

    module _ (n : within 32 126 (get_or h i 0) ≡ false) where
      pub bytes_other : not (eqb (get_or h i 0) 9 || leb 128 (get_or h i 0)) ≡ false → Passed h (i + 1)
      bytes_other y = record { inside = add-one-le inside; rest = here ∙ other_on (get_or h i 0) (drop (i + 1) h) n (not-false _ y) }

      pub bytes_wrong : (get_or h i 0 ≡ 13 → ⊥) → not (eqb (get_or h i 0) 9 || leb 128 (get_or h i 0)) ≡ true → false ≡ bytes_right h
      bytes_wrong m y = sym (here ∙ other_wrong (get_or h i 0) (drop (i + 1) h) n m (not-true _ y))

-- ---- its lines

-- a head in which CR and LF stand only as pairs
pub data Pairs : List ℕ → Type 0 where
  pairs_end : Pairs []
  pairs_byte : {b : ℕ} {s : List ℕ} → eqb b 13 ≡ false → eqb b 10 ≡ false → Pairs s → Pairs (b ∷ s)
  pairs_fold : {s : List ℕ} → Pairs s → Pairs (13 ∷ 10 ∷ s)

-- what follows a CR
after_cr : (c : ℕ) (s : List ℕ) → (T (paired 0 s) → Pairs s) → T (paired 13 (c ∷ s)) → Pairs (13 ∷ c ∷ s)
unfolding paired
after_cr c s on t =
    let c_is : 10 ≡ c = sym (eqb-true c 10 (is_true (eqb c 10) (left (eqb c 10) (paired c s) t))) in
    subst (λ (x : ℕ). Pairs (13 ∷ x ∷ s)) c_is
    (pairs_fold (on (subst T (ap (λ (x : ℕ). paired x s) (sym c_is) ∙ paired_plain 10 s refl) (right (eqb c 10) (paired c s) t))))

pub pairs : (s : List ℕ) → T (paired 0 s) → Pairs s
unfolding paired
pairs [] t = pairs_end
pairs (b ∷ []) t = pairs_byte (not-true (eqb b 13) (is_true (not (eqb b 13)) (right (not (eqb b 10)) (not (eqb b 13)) t))) (is_false (eqb b 10) (left (not (eqb b 10)) (not (eqb b 13)) t)) pairs_end
pairs (b ∷ c ∷ s) t =
    test_cases (eqb b 13)
    (λ e. let b_is : 13 ≡ b = sym (eqb-true b 13 e) in
    subst (λ (x : ℕ). Pairs (x ∷ c ∷ s)) b_is (after_cr c s (pairs s) (subst (λ (x : ℕ). T (paired x (c ∷ s))) (sym b_is) (right (not (eqb b 10)) (paired b (c ∷ s)) t))))
    (λ e. pairs_byte e (is_false (eqb b 10) (left (not (eqb b 10)) (paired b (c ∷ s)) t)) (pairs (c ∷ s) (subst T (paired_plain b (c ∷ s) e) (right (not (eqb b 10)) (paired b (c ∷ s)) t))))

pub pairs_paired : {s : List ℕ} → Pairs s → T (paired 0 s)
unfolding paired
pairs_paired pairs_end = tt
pairs_paired (pairs_byte {b} {s} e f p) = both (not (eqb b 10)) (paired b s) (subst (λ (x : Bool). T (not x)) (sym f) tt) (subst T (sym (paired_plain b s e)) (pairs_paired p))
pairs_paired (pairs_fold {s} p) = subst T (sym (paired_plain 10 s refl)) (pairs_paired p)

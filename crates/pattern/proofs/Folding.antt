-- The other form of each letter in a set: 26 of them from 65 and from 97 on, bits 1 and 33 of word 1.
use mathlib.Core.Path.{◌≡◌, refl, sym, ap, ap₂, ◌∙◌}
use mathlib.Core.Bool.{Bool, true, false, ◌&&◌, ◌||◌, and-true, and-false, or_self}
use mathlib.Core.List.{List, [], ◌∷◌}
use Prim.Native.Nat.{ℕ, ◌+◌, ◌-◌, ◌*◌, ◌/◌, ◌%◌, ◌^◌, ◌<◌, ◌≤◌}
use native.Mathlib.Nat.{mod-lt, lt_of_le_of_lt}
use native.Mathlib.Omega.{arith}
use lib.Bits.{bit_and, bit_or, and_le_r, or_lt}
use lib.Dec.{ltb, leb}
use lib.ListN.{get_or, set}
use lib.Pow.{pow_pos, shl_exact}
use borrow.Author.Tests.{ltb-true, ltb-false, lt-ltb, le-ltb, le-leb, lt-leb}
use Rattle.octets.specs.Bits.{bit}
use Rattle.octets.specs.Bytes.{within, lower, upper}
use Rattle.octets.specs.Lists.{pick}
use Rattle.octets.proofs.Bits.{bit_of_and, bit_of_or, bit_shr, bit_shl, bit_shl_low, bit_ones, mask_bit, mask_lt, mask_of, mask_ext}
use Rattle.basic.specs.Inner.Sets.{word, words}
use Rattle.basic.proofs.Words.{four_words}

abbrev pub letters : ℕ
letters = 67108863

letters_bit : (j : ℕ) → bit letters j ≡ ltb j 26
letters_bit j = bit_ones 26 j

yes : (lo hi b : ℕ) → lo ≤ b → b ≤ hi → within lo hi b ≡ true
yes lo hi b l h = ap₂ (λ (x y : Bool). x && y) (le-leb lo b l) (le-leb b hi h)

no_low : (lo hi b : ℕ) → b < lo → within lo hi b ≡ false
no_low lo hi b h = ap (λ (x : Bool). x && leb b hi) (lt-leb lo b h)

no_high : (lo hi b : ℕ) → hi < b → within lo hi b ≡ false
no_high lo hi b h = ap (λ (x : Bool). leb lo b && x) (lt-leb b hi h) ∙ and-false (leb lo b)

module _ (f : ℕ → Bool) where
  abbrev both_forms : ℕ → Bool
  both_forms b = f (lower b) || f (upper b)

  -- a byte that is no letter, an upper and a lower letter
  plain_form : (b : ℕ) → within 65 90 b ≡ false → within 97 122 b ≡ false → f b ≡ both_forms b
  plain_form b u l = sym (ap₂ (λ (x y : Bool). f (pick x (b + 32) b) || f (pick y (b - 32) b)) u l ∙ or_self (f b))

  upper_form : (b : ℕ) → within 65 90 b ≡ true → within 97 122 b ≡ false → (f (b + 32) || f b) ≡ both_forms b
  upper_form b u l = sym (ap₂ (λ (x y : Bool). f (pick x (b + 32) b) || f (pick y (b - 32) b)) u l)

  lower_form : (b : ℕ) → within 65 90 b ≡ false → within 97 122 b ≡ true → (f b || f (b - 32)) ≡ both_forms b
  lower_form b u l = sym (ap₂ (λ (x y : Bool). f (pick x (b + 32) b) || f (pick y (b - 32) b)) u l)

  abbrev w : ℕ
  w = word f 1

  abbrev found : ℕ
  found = bit_and (bit_or (w / 2 ^ 1) (w / 2 ^ 33)) letters

  found_lt : found < 2 ^ 26
  found_lt = lt_of_le_of_lt (and_le_r (bit_or (w / 2 ^ 1) (w / 2 ^ 33)) letters) (omega arith)

  found_bit : (j : ℕ) → bit found j ≡ ((bit w (1 + j) || bit w (33 + j)) && ltb j 26)
  found_bit j =
      bit_of_and (bit_or (w / 2 ^ 1) (w / 2 ^ 33)) letters j
      ∙ ap₂ (λ (x y : Bool). x && y)
      (bit_of_or (w / 2 ^ 1) (w / 2 ^ 33) j ∙ ap₂ (λ (x y : Bool). x || y) (bit_shr w 1 j) (bit_shr w 33 j)) (letters_bit j)

  -- the letters found, moved to s
  moved : (s : ℕ) → 26 + s ≤ 64 → (k : ℕ) → bit (found * 2 ^ s % 2 ^ 64) k ≡ bit (found * 2 ^ s) k
  moved s h k = ap (λ (n : ℕ). bit n k) (shl_exact 26 s 64 found_lt h)

  moved_low : (s k : ℕ) → 26 + s ≤ 64 → k < s → bit (found * 2 ^ s % 2 ^ 64) k ≡ false
  moved_low s k h l = moved s h k ∙ bit_shl_low found s k l

  moved_high : (s k : ℕ) → 26 + s ≤ 64 → s + 26 ≤ k → bit (found * 2 ^ s % 2 ^ 64) k ≡ false
  moved_high s k h l =
      let e : k ≡ s + (k - s) = omega arith in
      moved s h k ∙ ap (bit (found * 2 ^ s)) e ∙ bit_shl found s (k - s) ∙ found_bit (k - s)
      ∙ ap (λ (x : Bool). (bit w (1 + (k - s)) || bit w (33 + (k - s))) && x) (le-ltb (k - s) 26 (omega arith)) ∙ and-false (bit w (1 + (k - s)) || bit w (33 + (k - s)))

  moved_at : (s k : ℕ) → 26 + s ≤ 64 → s ≤ k → k < s + 26 → bit (found * 2 ^ s % 2 ^ 64) k ≡ (f (65 + (k - s)) || f (97 + (k - s)))
  moved_at s k h l g =
      let e : k ≡ s + (k - s) = omega arith in
      let a : 64 * 1 + (1 + (k - s)) ≡ 65 + (k - s) = omega arith in
      let b : 64 * 1 + (33 + (k - s)) ≡ 97 + (k - s) = omega arith in
      moved s h k ∙ ap (bit (found * 2 ^ s)) e ∙ bit_shl found s (k - s) ∙ found_bit (k - s)
      ∙ ap (λ (x : Bool). (bit w (1 + (k - s)) || bit w (33 + (k - s))) && x) (lt-ltb (k - s) 26 (omega arith)) ∙ and-true (bit w (1 + (k - s)) || bit w (33 + (k - s)))
      ∙ ap₂ (λ (x y : Bool). x || y)
      (mask_bit 64 (λ i. f (64 * 1 + i)) (1 + (k - s)) (omega arith) ∙ ap f a) (mask_bit 64 (λ i. f (64 * 1 + i)) (33 + (k - s)) (omega arith) ∙ ap f b)

  abbrev folded : ℕ
  folded = bit_or (bit_or w (found * 2 ^ 1 % 2 ^ 64)) (found * 2 ^ 33 % 2 ^ 64)

  folded_bit : (k : ℕ) → k < 64 → bit folded k ≡ both_forms (64 * 1 + k)
  folded_bit k h =
      bit_of_or (bit_or w (found * 2 ^ 1 % 2 ^ 64)) (found * 2 ^ 33 % 2 ^ 64) k
      ∙ ap (λ (x : Bool). x || bit (found * 2 ^ 33 % 2 ^ 64) k) (bit_of_or w (found * 2 ^ 1 % 2 ^ 64) k ∙ ap (λ (x : Bool). x || bit (found * 2 ^ 1 % 2 ^ 64) k) (mask_bit 64 (λ i. f (64 * 1 + i)) k h))
      ∙ go (ltb k 1) refl (ltb k 27) refl (ltb k 33) refl (ltb k 59) refl
    where
      absorb : (x y : Bool) → ((x || (x || y)) || false) ≡ (y || x)
      absorb true true = refl
      absorb true false = refl
      absorb false true = refl
      absorb false false = refl

      absorb' : (x y : Bool) → ((x || false) || (y || x)) ≡ (x || y)
      absorb' true true = refl
      absorb' true false = refl
      absorb' false true = refl
      absorb' false false = refl

      alone : (x : Bool) → ((x || false) || false) ≡ x
      alone true = refl
      alone false = refl

      none : bit (found * 2 ^ 1 % 2 ^ 64) k ≡ false → bit (found * 2 ^ 33 % 2 ^ 64) k ≡ false → within 65 90 (64 * 1 + k) ≡ false → within 97 122 (64 * 1 + k) ≡ false
          → ((f (64 * 1 + k) || bit (found * 2 ^ 1 % 2 ^ 64) k) || bit (found * 2 ^ 33 % 2 ^ 64) k) ≡ both_forms (64 * 1 + k)
      none p q u l = ap₂ (λ (x y : Bool). (f (64 * 1 + k) || x) || y) p q ∙ alone (f (64 * 1 + k)) ∙ plain_form (64 * 1 + k) u l

      go : (t₁ : Bool) → ltb k 1 ≡ t₁ → (t₂ : Bool) → ltb k 27 ≡ t₂ → (t₃ : Bool) → ltb k 33 ≡ t₃ → (t₄ : Bool) → ltb k 59 ≡ t₄
          → ((f (64 * 1 + k) || bit (found * 2 ^ 1 % 2 ^ 64) k) || bit (found * 2 ^ 33 % 2 ^ 64) k) ≡ both_forms (64 * 1 + k)
      go true e₁ t₂ e₂ t₃ e₃ t₄ e₄ =
          let l = ltb-true k 1 e₁ in
          none (moved_low 1 k (omega arith) (omega arith)) (moved_low 33 k (omega arith) (omega arith)) (no_low 65 90 (64 * 1 + k) (omega arith)) (no_low 97 122 (64 * 1 + k) (omega arith))
      go false e₁ true e₂ t₃ e₃ t₄ e₄ =
          let l = ltb-false k 1 e₁ in
          let g = ltb-true k 27 e₂ in
          let x : 65 + (k - 1) ≡ 64 * 1 + k = omega arith in
          let y : 97 + (k - 1) ≡ 64 * 1 + k + 32 = omega arith in
          ap₂ (λ (p q : Bool). (f (64 * 1 + k) || p) || q)
          (moved_at 1 k (omega arith) (omega arith) (omega arith) ∙ ap₂ (λ (m n : ℕ). f m || f n) x y) (moved_low 33 k (omega arith) (omega arith))
          ∙ absorb (f (64 * 1 + k)) (f (64 * 1 + k + 32))
          ∙ upper_form (64 * 1 + k) (yes 65 90 (64 * 1 + k) (omega arith) (omega arith)) (no_low 97 122 (64 * 1 + k) (omega arith))
      go false e₁ false e₂ true e₃ t₄ e₄ =
          let l = ltb-false k 27 e₂ in
          let g = ltb-true k 33 e₃ in
          none (moved_high 1 k (omega arith) (omega arith)) (moved_low 33 k (omega arith) (omega arith)) (no_high 65 90 (64 * 1 + k) (omega arith)) (no_low 97 122 (64 * 1 + k) (omega arith))
      go false e₁ false e₂ false e₃ true e₄ =
          let l = ltb-false k 33 e₃ in
          let g = ltb-true k 59 e₄ in
          let x : 65 + (k - 33) ≡ 64 * 1 + k - 32 = omega arith in
          let y : 97 + (k - 33) ≡ 64 * 1 + k = omega arith in
          ap₂ (λ (p q : Bool). (f (64 * 1 + k) || p) || q)
          (moved_high 1 k (omega arith) (omega arith)) (moved_at 33 k (omega arith) (omega arith) (omega arith) ∙ ap₂ (λ (m n : ℕ). f m || f n) x y)
          ∙ absorb' (f (64 * 1 + k)) (f (64 * 1 + k - 32))
          ∙ lower_form (64 * 1 + k) (no_high 65 90 (64 * 1 + k) (omega arith)) (yes 97 122 (64 * 1 + k) (omega arith) (omega arith))
      go false e₁ false e₂ false e₃ false e₄ =
          let l = ltb-false k 59 e₄ in
          none (moved_high 1 k (omega arith) (omega arith)) (moved_high 33 k (omega arith) (omega arith)) (no_high 65 90 (64 * 1 + k) (omega arith)) (no_high 97 122 (64 * 1 + k) (omega arith))

  folded_lt : folded < 2 ^ 64
  folded_lt =
      or_lt 64 (bit_or w (found * 2 ^ 1 % 2 ^ 64)) (found * 2 ^ 33 % 2 ^ 64)
      (or_lt 64 w (found * 2 ^ 1 % 2 ^ 64) (mask_lt 64 (λ i. f (64 * 1 + i))) (mod-lt (found * 2 ^ 1) (pow_pos 64))) (mod-lt (found * 2 ^ 33) (pow_pos 64))

  -- no letter outside word 1
  outside : (i : ℕ) → (i ≡ 1 → ⊥) → word f i ≡ word both_forms i
  outside i n = mask_ext 64 (λ k. f (64 * i + k)) (λ k. both_forms (64 * i + k)) (λ k h. at k h (ltb i 1) refl)
    where
      at : (k : ℕ) → k < 64 → (t : Bool) → ltb i 1 ≡ t → f (64 * i + k) ≡ both_forms (64 * i + k)
      at k h true e = let l = ltb-true i 1 e in plain_form (64 * i + k) (no_low 65 90 (64 * i + k) (omega arith)) (no_low 97 122 (64 * i + k) (omega arith))
      at k h false e =
          let l = ltb-false i 1 e in
          let m : 2 ≤ i = past (ltb i 2) refl in
          plain_form (64 * i + k) (no_high 65 90 (64 * i + k) (omega arith)) (no_high 97 122 (64 * i + k) (omega arith))
        where
          past : (u : Bool) → ltb i 2 ≡ u → 2 ≤ i
          past true u = let g = ltb-true i 2 u in let l = ltb-false i 1 e in absurd (n (omega arith))
          past false u = ltb-false i 2 u

  -- as code makes it
  pub letters_word : (x : ℕ) → x ≡ w
      → bit_or (bit_or x (bit_and (bit_or (x / 2 ^ 1) (x / 2 ^ 33)) letters * 2 ^ 1 % 2 ^ 64)) (bit_and (bit_or (x / 2 ^ 1) (x / 2 ^ 33)) letters * 2 ^ 33 % 2 ^ 64)
      ≡ word both_forms 1
  letters_word x e = rw e (mask_of 64 folded (λ k. both_forms (64 * 1 + k)) folded_lt folded_bit)

  three_kept : (x : ℕ) → x ≡ word both_forms 1 → word f 0 ∷ x ∷ word f 2 ∷ word f 3 ∷ [] ≡ words both_forms
  three_kept x e = four_words both_forms (outside 0 (λ z. omega arith)) e (outside 2 (λ z. omega arith)) (outside 3 (λ z. omega arith))

  module _ (ws : List ℕ) (x : ℕ) (q : get_or ws 1 0 ≡ w → x ≡ word both_forms 1) (e : ws ≡ words f) where
    new_word : x ≡ word both_forms 1
    unfolding words
    new_word = q (ap (λ (l : List ℕ). get_or l 1 0) e)

    pub folded_words : get_or ws 0 0 ∷ x ∷ get_or ws 2 0 ∷ get_or ws 3 0 ∷ [] ≡ words both_forms
    unfolding words
    folded_words = ap (λ (l : List ℕ). get_or l 0 0 ∷ x ∷ get_or l 2 0 ∷ get_or l 3 0 ∷ []) e ∙ three_kept x new_word

    -- where the set stands
    pub folded_set : set ws 1 x ≡ words both_forms
    unfolding words
    folded_set = ap (λ (l : List ℕ). set l 1 x) e ∙ three_kept x new_word

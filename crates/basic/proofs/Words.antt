-- Sets of bytes as words: one byte, a range more, all others.
use Rattle.octets.proofs.Tests.{not_or}
use mathlib.Core.Path.{◌≡◌, refl, sym, ap, ap₂, ◌∙◌}
use mathlib.Core.Bool.{Bool, true, false, not, ◌&&◌, ◌||◌, and_comm}
use mathlib.Core.List.{List, [], ◌∷◌}
use Prim.Native.Nat.{ℕ, zero, suc, ◌+◌, ◌-◌, ◌*◌, ◌/◌, ◌%◌, ◌^◌, ◌<◌, ◌≤◌}
use native.Mathlib.Nat.{mod-lt}
use native.Mathlib.Omega.{arith}
use lib.Bits.{bit_or, bit_xor}
use lib.Dec.{eqb, ltb, leb}
use lib.ListN.{get_or, set, replicate}
use lib.Pow.{pow-lt}
use borrow.Author.Tests.{eqb-true, eqb-false, eq-eqb, ne_eqb, lt-ltb, le-ltb, le-leb, lt-leb, leb-true, leb-false}
use Rattle.octets.specs.Inner.Masks.{mask}
use Rattle.octets.specs.Bytes.{within}
use Rattle.octets.proofs.Bits.{bit_pow, bit_zero, bit_ones, mask_of, mask_or, mask_ext, mask_with, mask_not, ones_up, ones_down, shl_one}
use Rattle.basic.specs.Inner.Sets.{word, words}

-- ---- words

-- a set is what its words are
pub four_words : {a b c d : ℕ} (f : ℕ → Bool) → a ≡ word f 0 → b ≡ word f 1 → c ≡ word f 2 → d ≡ word f 3 → a ∷ b ∷ c ∷ d ∷ [] ≡ words f
unfolding words
four_words f p q r s = ap₂ (λ (x : ℕ) (l : List ℕ). x ∷ l) p (ap₂ (λ (x : ℕ) (l : List ℕ). x ∷ l) q (ap₂ (λ (x y : ℕ). x ∷ y ∷ []) r s))

pub words_ext : (f g : ℕ → Bool) → ((b : ℕ) → b < 256 → f b ≡ g b) → words f ≡ words g
unfolding words
words_ext f g e = four_words g (same 0 (omega arith)) (same 1 (omega arith)) (same 2 (omega arith)) (same 3 (omega arith))
  where
    same : (i : ℕ) → i < 4 → word f i ≡ word g i
    same i h = mask_ext 64 (λ k. f (64 * i + k)) (λ k. g (64 * i + k)) (λ k l. e (64 * i + k) (omega arith))

pub no_words : replicate 4 0 ≡ words (λ b. false)
unfolding words mask
no_words = refl

none_set : (f : ℕ → Bool) → ((k : ℕ) → k < 64 → f k ≡ false) → 0 ≡ mask 64 f
none_set f e = mask_of 64 0 f (omega arith) (λ k h. bit_zero k ∙ sym (e k h))

-- all 64 bits, as code writes the number
abbrev pub all_bits : ℕ
all_bits = 18446744073709551615

all_set : (f : ℕ → Bool) → ((k : ℕ) → k < 64 → f k ≡ true) → all_bits ≡ mask 64 f
all_set f e = mask_of 64 all_bits f (omega arith) (λ k h. bit_ones 64 k ∙ lt-ltb k 64 h ∙ sym (e k h))

-- ---- one byte

module _ (c : ℕ) where
  -- the word that holds it, and any other
  here : (i : ℕ) → i ≡ c / 64 → 1 * 2 ^ (c % 64) % 2 ^ 64 ≡ word (eqb c) i
  here i q =
      shl_one 64 (c % 64) (omega arith)
      ∙ mask_of 64 (2 ^ (c % 64)) (λ k. eqb c (64 * i + k)) (pow-lt (mod-lt c (omega arith))) (λ k h. bit_pow (c % 64) k ∙ at k h (eqb k (c % 64)) refl)
    where
      at : (k : ℕ) → k < 64 → (t : Bool) → eqb k (c % 64) ≡ t → eqb k (c % 64) ≡ eqb c (64 * i + k)
      at k h true t = let z : k ≡ c % 64 = eqb-true k (c % 64) t in t ∙ sym (eq-eqb c (64 * i + k) (omega arith))
      at k h false t = t ∙ sym (ne_eqb c (64 * i + k) (λ z. eqb-false k (c % 64) t (omega arith)))

  away : (i : ℕ) → (i ≡ c / 64 → ⊥) → 0 ≡ word (eqb c) i
  away i n = none_set (λ k. eqb c (64 * i + k)) (λ k h. ne_eqb c (64 * i + k) (λ z. n (omega arith)))

  -- a cleared set with its bit
  pub only_words : c < 256 → set (replicate 4 0) (c / 64) (1 * 2 ^ (c % 64) % 2 ^ 64) ≡ words (eqb c)
  only_words h = go (c / 64) refl (omega arith)
    where
      go : (i : ℕ) → i ≡ c / 64 → i < 4 → set (replicate 4 0) i (1 * 2 ^ (c % 64) % 2 ^ 64) ≡ words (eqb c)
      go zero q l = four_words (eqb c) (here 0 q) (away 1 (λ z. omega arith)) (away 2 (λ z. omega arith)) (away 3 (λ z. omega arith))
      go (suc zero) q l = four_words (eqb c) (away 0 (λ z. omega arith)) (here 1 q) (away 2 (λ z. omega arith)) (away 3 (λ z. omega arith))
      go (suc (suc zero)) q l = four_words (eqb c) (away 0 (λ z. omega arith)) (away 1 (λ z. omega arith)) (here 2 q) (away 3 (λ z. omega arith))
      go (suc (suc (suc zero))) q l = four_words (eqb c) (away 0 (λ z. omega arith)) (away 1 (λ z. omega arith)) (away 2 (λ z. omega arith)) (here 3 q)
      go (suc (suc (suc (suc i)))) q l = absurd (omega arith)

-- ---- a range more: of the 64 bytes from a place on, those that are not below lo and not above hi

module _ (from lo : ℕ) where
  pub all_from : lo ≤ from → all_bits ≡ mask 64 (λ k. leb lo (from + k))
  all_from h = all_set (λ k. leb lo (from + k)) (λ k l. le-leb lo (from + k) (omega arith))

  pub some_from : from < lo → all_bits * 2 ^ (lo - from) % 2 ^ 64 ≡ mask 64 (λ k. leb lo (from + k))
  some_from h = ones_up 64 (lo - from) ∙ mask_ext 64 (leb (lo - from)) (λ k. leb lo (from + k)) (λ k l. at k (leb (lo - from) k) refl)
    where
      at : (k : ℕ) (t : Bool) → leb (lo - from) k ≡ t → leb (lo - from) k ≡ leb lo (from + k)
      at k true e = let l = leb-true (lo - from) k e in e ∙ sym (le-leb lo (from + k) (omega arith))
      at k false e = let l = leb-false (lo - from) k e in e ∙ sym (lt-leb lo (from + k) (omega arith))

  pub none_from : 64 ≤ lo - from → 0 ≡ mask 64 (λ k. leb lo (from + k))
  none_from h = none_set (λ k. leb lo (from + k)) (λ k l. lt-leb lo (from + k) (omega arith))

module _ (from hi : ℕ) where
  pub none_to : hi < from → 0 ≡ mask 64 (λ k. leb (from + k) hi)
  none_to h = none_set (λ k. leb (from + k) hi) (λ k l. lt-leb (from + k) hi (omega arith))

  pub some_to : from ≤ hi → hi - from < 64 → all_bits / 2 ^ (63 - (hi - from)) ≡ mask 64 (λ k. leb (from + k) hi)
  some_to h g =
      ones_down 64 (63 - (hi - from))
      ∙ mask_ext 64 (λ k. ltb (63 - (hi - from) + k) 64) (λ k. leb (from + k) hi) (λ k l. at k (leb (from + k) hi) refl)
    where
      at : (k : ℕ) (t : Bool) → leb (from + k) hi ≡ t → ltb (63 - (hi - from) + k) 64 ≡ leb (from + k) hi
      at k true e = let l = leb-true (from + k) hi e in lt-ltb (63 - (hi - from) + k) 64 (omega arith) ∙ sym e
      at k false e = let l = leb-false (from + k) hi e in le-ltb (63 - (hi - from) + k) 64 (omega arith) ∙ sym e

  pub all_to : 64 ≤ hi - from → all_bits ≡ mask 64 (λ k. leb (from + k) hi)
  all_to h = all_set (λ k. leb (from + k) hi) (λ k l. le-leb (from + k) hi (omega arith))

pub range_words : (ws : List ℕ) (lo hi a b c d : ℕ)
    → a ≡ mask 64 (λ k. within lo hi (0 + k)) → b ≡ mask 64 (λ k. within lo hi (64 + k))
    → c ≡ mask 64 (λ k. within lo hi (128 + k)) → d ≡ mask 64 (λ k. within lo hi (192 + k))
    → (f : ℕ → Bool) → ws ≡ words f
    → bit_or (get_or ws 0 0) a ∷ bit_or (get_or ws 1 0) b ∷ bit_or (get_or ws 2 0) c ∷ bit_or (get_or ws 3 0) d ∷ [] ≡ words (λ x. f x || within lo hi x)
unfolding words
range_words ws lo hi a b c d ea eb ec ed f e =
    rw (e, ea, eb, ec, ed) (four_words (λ x. f x || within lo hi x) (with_range 0) (with_range 1) (with_range 2) (with_range 3))
  where
    with_range : (i : ℕ) → bit_or (word f i) (mask 64 (λ k. within lo hi (64 * i + k))) ≡ word (λ x. f x || within lo hi x) i
    with_range i = mask_or 64 (λ k. f (64 * i + k)) (λ k. within lo hi (64 * i + k))

-- ---- all others

pub other_words : (ws : List ℕ) (f : ℕ → Bool) → ws ≡ words f
    → bit_xor (bit_or (get_or ws 0 0) 1) all_bits ∷ bit_xor (get_or ws 1 0) all_bits ∷ bit_xor (get_or ws 2 0) all_bits ∷ bit_xor (get_or ws 3 0) all_bits ∷ []
    ≡ words (λ b. not (eqb b 0) && not (f b))
unfolding words
other_words ws f e =
    rw e
    (four_words (λ b. not (eqb b 0) && not (f b))
    (ap (λ (n : ℕ). bit_xor n all_bits) (mask_with 64 (λ k. f (64 * 0 + k)) 0 (omega arith)) ∙ mask_not 64 (λ k. f (64 * 0 + k) || eqb k 0)
    ∙ mask_ext 64 (λ k. not (f (64 * 0 + k) || eqb k 0)) (λ k. not (eqb (64 * 0 + k) 0) && not (f (64 * 0 + k)))
    (λ k l. turn (f (64 * 0 + k)) (eqb k 0) ∙ ap (λ (n : ℕ). not (eqb n 0) && not (f (64 * 0 + k))) (let z : k ≡ 64 * 0 + k = omega arith in z)))
    (flip 1 (λ z. omega arith)) (flip 2 (λ z. omega arith)) (flip 3 (λ z. omega arith)))
  where
    flip : (i : ℕ) → (i ≡ 0 → ⊥) → bit_xor (word f i) all_bits ≡ word (λ b. not (eqb b 0) && not (f b)) i
    flip i n =
        mask_not 64 (λ k. f (64 * i + k))
        ∙ mask_ext 64 (λ k. not (f (64 * i + k))) (λ k. not (eqb (64 * i + k) 0) && not (f (64 * i + k)))
        (λ k h. sym (ap (λ (x : Bool). not x && not (f (64 * i + k))) (ne_eqb (64 * i + k) 0 (λ z. n (omega arith)))))

    turn : (x y : Bool) → not (x || y) ≡ (not y && not x)
    turn x y = not_or x y ∙ and_comm (not x) (not y)

-- The string that the bytes between its tags say.
use mathlib.Core.Path.{◌≡◌, refl, sym, ap, ◌∙◌, subst⁻¹}
use Prim.Native.Nat.{ℕ, zero, suc, ◌+◌, ◌-◌, ◌≤◌, ◌<◌}
use native.Mathlib.Omega.{arith}
use mathlib.Core.List.{List, [], ◌∷◌}
use lib.Dec.{eqb}
use lib.ListN.{length, get_or, drop, drop_of_length-le, length-drop}
use lib.Seq.{drop-cons, drop-drop}
use Rattle.octets.proofs.Tests.{either}
use Rattle.compose.specs.Inner.Values.{as_character, entity_of, character_of, decoded_by, decoded}
use Rattle.compose.specs.declared.values.Character.{Character}

-- ---- widths

abbrev Wide : Character → Type 0
Wide c = 1 ≤ c.width

entity_wide : (s : List ℕ) → Wide (entity_of s)
entity_wide s =
    either Wide (eqb (get_or s 0 0) 108) _ _ (omega arith)
    (either Wide (eqb (get_or s 0 0) 103) _ _ (omega arith)
    (either Wide (eqb (get_or s 0 0) 113) _ _ (omega arith)
    (either Wide (eqb (get_or s 1 0) 109) _ _ (omega arith) (omega arith))))

pub wide : (s : List ℕ) → 1 ≤ (character_of s).width
wide [] = omega arith
wide (b ∷ s) = either Wide (eqb b 38) (entity_of s) (as_character b 1) (entity_wide s) (omega arith)

-- ---- the count-down out of sight

shorter : (b : ℕ) (s : List ℕ) (n : ℕ) → length (b ∷ s) ≤ suc n → length (drop (character_of (b ∷ s)).width (b ∷ s)) ≤ n
shorter b s n h =
    let w : 1 ≤ (character_of (b ∷ s)).width = wide (b ∷ s) in
    let l : length (drop (character_of (b ∷ s)).width (b ∷ s)) ≡ suc (length s) - (character_of (b ∷ s)).width = length-drop (character_of (b ∷ s)).width (b ∷ s) in
    omega (arith, w, l, h)

enough : (m n : ℕ) (s : List ℕ) → length s ≤ m → length s ≤ n → decoded_by m s ≡ decoded_by n s
enough zero zero s h k = refl
enough zero (suc n) [] h k = refl
enough zero (suc n) (b ∷ s) h k = absurd (omega (arith, h))
enough (suc m) zero [] h k = refl
enough (suc m) zero (b ∷ s) h k = absurd (omega (arith, k))
enough (suc m) (suc n) [] h k = refl
enough (suc m) (suc n) (b ∷ s) h k =
    ap (λ (l : List ℕ). (character_of (b ∷ s)).byte ∷ l)
    (enough m n (drop (character_of (b ∷ s)).width (b ∷ s)) (shorter b s m h) (shorter b s n k))

pub decoded_cons : (b : ℕ) (s : List ℕ) → decoded (b ∷ s) ≡ (character_of (b ∷ s)).byte ∷ decoded (drop (character_of (b ∷ s)).width (b ∷ s))
unfolding decoded
decoded_cons b s =
    let n : length (b ∷ s) ≤ suc (length s) = omega arith in
    ap (λ (l : List ℕ). (character_of (b ∷ s)).byte ∷ l)
    (enough (length s) (length (drop (character_of (b ∷ s)).width (b ∷ s))) (drop (character_of (b ∷ s)).width (b ∷ s)) (shorter b s (length s) n) (omega arith))

-- from a place on
pub decoded_at : (t : List ℕ) (i : ℕ) → i < length t → (c : Character) → c ≡ character_of (drop i t) → decoded (drop i t) ≡ c.byte ∷ decoded (drop (i + c.width) t)
decoded_at t i h c e =
    ap decoded (drop-cons t i 0 h)
    ∙ decoded_cons (get_or t i 0) (drop (suc i) t)
    ∙ ap (λ (l : List ℕ). (character_of l).byte ∷ decoded (drop (character_of l).width l)) (sym (drop-cons t i 0 h))
    ∙ ap (λ (x : Character). x.byte ∷ decoded (drop x.width (drop i t))) (sym e)
    ∙ ap (λ (l : List ℕ). c.byte ∷ decoded l) (drop-drop c.width i t)

pub decoded_past : (t : List ℕ) (i : ℕ) → length t ≤ i → decoded (drop i t) ≡ []
unfolding decoded
decoded_past t i h = ap decoded (drop_of_length-le t h)

-- ---- the loop that counts

pub record Lengthening (t : List ℕ) (n i : ℕ) : Type 0 where
  pub inside : i ≤ length t
  pub few : n ≤ i
  pub same : n + length (decoded (drop i t)) ≡ length (decoded t)

pub lengthening_first : (t : List ℕ) → Lengthening t 0 0
lengthening_first t = record { inside = omega arith; few = omega arith; same = omega arith }

module _ (t : List ℕ) (n i : ℕ) (r : Lengthening t n i) where
  pub lengthening_end : length t ≤ i → n ≡ length (decoded t)
  lengthening_end h = let e : length (decoded (drop i t)) ≡ 0 = ap length (decoded_past t i h) in omega (arith, e, r.same)

  module _ (h : i < length t) (c : Character) (e : c ≡ character_of (drop i t)) where
    grows : length (decoded (drop i t)) ≡ suc (length (decoded (drop (i + c.width) t)))
    grows = ap length (decoded_at t i h c e)

    pub lengthening_last : length t - i ≤ c.width → n + 1 ≡ length (decoded t)
    lengthening_last l =
        let z : length (decoded (drop (i + c.width) t)) ≡ 0 = ap length (decoded_past t (i + c.width) (omega (arith, l))) in
        let g : length (decoded (drop i t)) ≡ suc (length (decoded (drop (i + c.width) t))) = grows in
        omega (arith, g, z, r.same)

    width_some : 1 ≤ c.width
    width_some = subst⁻¹ (λ (x : Character). 1 ≤ x.width) e (wide (drop i t))

    pub lengthening_next : c.width < length t - i → Lengthening t (n + 1) (i + c.width)
    lengthening_next l =
        let g : length (decoded (drop i t)) ≡ suc (length (decoded (drop (i + c.width) t))) = grows in
        let w : 1 ≤ c.width = width_some in
        record { inside = omega (arith, l); few = omega (arith, w, r.few); same = omega (arith, g, r.same) }

    pub lengthening_less : c.width < length t - i → length t - (i + c.width) < length t - i
    lengthening_less l = let w : 1 ≤ c.width = width_some in omega (arith, w, l)

-- a character leaves less
pub less_on : (t : List ℕ) (i : ℕ) → i < length t → (c : Character) → c ≡ character_of (drop i t) → c.width < length t - i
    → length t - (i + c.width) < length t - i
less_on t i h c e l = let w : 1 ≤ c.width = subst⁻¹ (λ (x : Character). 1 ≤ x.width) e (wide (drop i t)) in omega (arith, w, l)

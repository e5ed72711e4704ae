-- The loops that compare a string and write it.
use mathlib.Core.Path.{◌≡◌, refl, sym, ap, ap₂, ◌∙◌, subst⁻¹}
use mathlib.Core.Bool.{Bool, false, ◌&&◌}
use Prim.Native.Nat.{ℕ, zero, suc, ◌+◌, ◌-◌, ◌≤◌, ◌<◌}
use native.Mathlib.Numerals.{add-one}
use native.Mathlib.Omega.{arith}
use mathlib.Core.List.{List, [], ◌∷◌}
use lib.Dec.{eqb, eqb-suc-suc}
use lib.ListN.{length, get_or, drop, set, drop_of_length-le, length-drop, length-set}
use lib.Seq.{drop-cons, drop-drop, get_or-drop, paste, paste-zero, paste-suc, length-paste}
use borrow.Author.Tests.{eq-eqb, ne_eqb}
use Rattle.octets.specs.Lists.{same}
use Rattle.compose.specs.Inner.Values.{character_of, decoded}
use Rattle.compose.specs.declared.values.Character.{Character}
use Rattle.compose.proofs.Decoding.{decoded_at, decoded_past}

-- ---- comparing

pub record Comparing (t x : List ℕ) (i j : ℕ) : Type 0 where
  pub inside : i ≤ length t
  pub within : j ≤ length x
  pub same_so : same (decoded (drop i t)) (drop j x) ≡ same (decoded t) x

pub comparing_first : (t x : List ℕ) → Comparing t x 0 0
comparing_first t x = record { inside = omega arith; within = omega arith; same_so = refl }

-- nothing is left of both, or of one
same_nil : (x : List ℕ) (j : ℕ) → j ≤ length x → eqb j (length x) ≡ same [] (drop j x)
same_nil [] zero h = refl
same_nil [] (suc j) h = absurd (omega (arith, h))
same_nil (b ∷ x) zero h = ne_eqb 0 (suc (length x)) (λ e. absurd (omega (arith, e)))
same_nil (b ∷ x) (suc j) h = eqb-suc-suc j (length x) ∙ same_nil x j (omega (arith, h))

module _ (t x : List ℕ) (i j : ℕ) (c : Comparing t x i j) where
  pub comparing_end : length t ≤ i → eqb j (length x) ≡ same (decoded t) x
  comparing_end h = same_nil x j c.within ∙ ap (λ (l : List ℕ). same l (drop j x)) (sym (decoded_past t i h)) ∙ c.same_so

  module _ (h : i < length t) (y : Character) (e : y ≡ character_of (drop i t)) where
    abbrev on : List ℕ
    on = decoded (drop (i + y.width) t)

    opened : same (y.byte ∷ on) (drop j x) ≡ same (decoded t) x
    opened = ap (λ (l : List ℕ). same l (drop j x)) (sym (decoded_at t i h y e)) ∙ c.same_so

    one_more : j < length x → (eqb y.byte (get_or x j 0) && same on (drop (suc j) x)) ≡ same (decoded t) x
    one_more l = ap (same (y.byte ∷ on)) (sym (drop-cons x j 0 l)) ∙ opened

    pub comparing_other : j < length x → (y.byte ≡ get_or x j 0 → ⊥) → false ≡ same (decoded t) x
    comparing_other l n = ap (λ (b : Bool). b && same on (drop (suc j) x)) (sym (ne_eqb y.byte (get_or x j 0) n)) ∙ one_more l

    moved : j < length x → y.byte ≡ get_or x j 0 → same on (drop (j + 1) x) ≡ same (decoded t) x
    moved l q =
        ap (λ (n : ℕ). same on (drop n x)) (add-one j)
        ∙ ap (λ (b : Bool). b && same on (drop (suc j) x)) (sym (eq-eqb y.byte (get_or x j 0) q)) ∙ one_more l

    pub comparing_last : j < length x → y.byte ≡ get_or x j 0 → length t - i ≤ y.width → eqb (j + 1) (length x) ≡ same (decoded t) x
    comparing_last l q w =
        same_nil x (j + 1) (omega (arith, l))
        ∙ ap (λ (k : List ℕ). same k (drop (j + 1) x)) (sym (decoded_past t (i + y.width) (omega (arith, w)))) ∙ moved l q

    pub comparing_next : j < length x → y.byte ≡ get_or x j 0 → y.width < length t - i → Comparing t x (i + y.width) (j + 1)
    comparing_next l q w = record { inside = omega (arith, w); within = omega (arith, l); same_so = moved l q }

pub comparing_short : (t x : List ℕ) (i j : ℕ) → Comparing t x i j → i < length t → length x ≤ j → false ≡ same (decoded t) x
comparing_short t x i j c h l =
    ap (same ((character_of (drop i t)).byte ∷ decoded (drop (i + (character_of (drop i t)).width) t))) (sym (drop_of_length-le x l))
    ∙ opened t x i j c h (character_of (drop i t)) refl

-- ---- writing

pub record Putting (t before dst : List ℕ) (to n i : ℕ) : Type 0 where
  pub inside : i ≤ length t
  pub few : n ≤ length (decoded t)
  pub room : to + length (decoded t) ≤ length before
  pub here : dst ≡ paste before to (decoded t) n
  pub rest : drop n (decoded t) ≡ decoded (drop i t)

pub putting_first : (t before : List ℕ) (to : ℕ) → to + length (decoded t) ≤ length before → Putting t before before to 0 0
putting_first t before to h = record { inside = omega arith; few = omega arith; room = h; here = paste-zero before to (decoded t); rest = refl }

module _ (t before dst : List ℕ) (to n i : ℕ) (r : Putting t before dst to n i) where
  pub putting_end : length t ≤ i → n ≡ length (decoded t)
  putting_end h =
      let e : length (drop n (decoded t)) ≡ 0 = ap length (r.rest ∙ decoded_past t i h) in
      let l : length (drop n (decoded t)) ≡ length (decoded t) - n = length-drop n (decoded t) in
      omega (arith, e, l, r.few)

  module _ (h : i < length t) (y : Character) (e : y ≡ character_of (drop i t)) where
    left_is : drop n (decoded t) ≡ y.byte ∷ decoded (drop (i + y.width) t)
    left_is = r.rest ∙ decoded_at t i h y e

    some_left : n < length (decoded t)
    some_left =
        let a : length (drop n (decoded t)) ≡ suc (length (decoded (drop (i + y.width) t))) = ap length left_is in
        let l : length (drop n (decoded t)) ≡ length (decoded t) - n = length-drop n (decoded t) in
        omega (arith, a, l)

    pub putting_inside : to + n < length dst
    putting_inside =
        let a : length dst ≡ length before = ap length r.here ∙ length-paste before to (decoded t) n (omega (arith, r.room, r.few)) r.few in
        let b : n < length (decoded t) = some_left in
        omega (arith, a, b, r.room)

    byte_is : get_or (decoded t) n 0 ≡ y.byte
    byte_is = let z : n ≡ n + 0 = omega arith in ap (λ (k : ℕ). get_or (decoded t) k 0) z ∙ sym (get_or-drop n (decoded t) 0 0) ∙ ap (λ (l : List ℕ). get_or l 0 0) left_is

    stored : set dst (to + n) y.byte ≡ paste before to (decoded t) (n + 1)
    stored =
        let b : n < length (decoded t) = some_left in
        ap₂ (λ (d : List ℕ) (v : ℕ). set d (to + n) v) r.here (sym byte_is)
        ∙ paste-suc before to (decoded t) n 0 (omega (arith, b, r.room)) b
        ∙ ap (paste before to (decoded t)) (sym (add-one n))

    after_is : drop (n + 1) (decoded t) ≡ decoded (drop (i + y.width) t)
    after_is = sym (drop-drop 1 n (decoded t)) ∙ ap (drop 1) left_is

    pub putting_last : length t - i ≤ y.width → n + 1 ≡ length (decoded t)
    putting_last w =
        let a : length (drop (n + 1) (decoded t)) ≡ 0 = ap length (after_is ∙ decoded_past t (i + y.width) (omega (arith, w))) in
        let l : length (drop (n + 1) (decoded t)) ≡ length (decoded t) - (n + 1) = length-drop (n + 1) (decoded t) in
        let b : n < length (decoded t) = some_left in
        omega (arith, a, l, b)

    pub putting_next : y.width < length t - i → Putting t before (set dst (to + n) y.byte) to (n + 1) (i + y.width)
    putting_next w =
        let b : n < length (decoded t) = some_left in
        record { inside = omega (arith, w); few = omega (arith, b); room = r.room; here = stored; rest = after_is }

    pub putting_whole : length t - i ≤ y.width → set dst (to + n) y.byte ≡ paste before to (decoded t) (length (decoded t))
    putting_whole w = stored ∙ ap (paste before to (decoded t)) (putting_last w)

  pub putting_done : length t ≤ i → dst ≡ paste before to (decoded t) (length (decoded t))
  putting_done h = r.here ∙ ap (paste before to (decoded t)) (putting_end h)

-- by the place that is written next
pub record PutAt (t before dst : List ℕ) (to j i : ℕ) : Type 0 where
  pub count : ℕ
  pub place : j ≡ to + count
  pub putting : Putting t before dst to count i

pub put_first : (t before : List ℕ) (to : ℕ) → to + length (decoded t) ≤ length before → PutAt t before before to to 0
put_first t before to h = record { count = 0; place = omega arith; putting = putting_first t before to h }

module _ (t before dst : List ℕ) (to j i : ℕ) (r : PutAt t before dst to j i) where
  pub put_length : length dst ≡ length before
  put_length =
      ap length r.putting.here
      ∙ length-paste before to (decoded t) r.count (omega (arith, r.putting.room, r.putting.few)) r.putting.few

  pub put_length_set : (b : ℕ) → length (set dst j b) ≡ length before
  put_length_set b = length-set dst j b ∙ put_length

  pub put_end : length t ≤ i → j ≡ to + length (decoded t)
  put_end h = let e : r.count ≡ length (decoded t) = putting_end t before dst to r.count i r.putting h in omega (arith, e, r.place)

  pub put_done : length t ≤ i → dst ≡ paste before to (decoded t) (length (decoded t))
  put_done h = putting_done t before dst to r.count i r.putting h

  module _ (h : i < length t) (y : Character) (e : y ≡ character_of (drop i t)) where
    pub put_inside : j < length dst
    put_inside = subst⁻¹ (λ (x : ℕ). x < length dst) r.place (putting_inside t before dst to r.count i r.putting h y e)

    at_place : set dst j y.byte ≡ set dst (to + r.count) y.byte
    at_place = ap (λ (x : ℕ). set dst x y.byte) r.place

    pub put_last : length t - i ≤ y.width → j + 1 ≡ to + length (decoded t)
    put_last w =
        let q : r.count + 1 ≡ length (decoded t) = putting_last t before dst to r.count i r.putting h y e w in
        omega (arith, q, r.place)

    pub put_whole : length t - i ≤ y.width → set dst j y.byte ≡ paste before to (decoded t) (length (decoded t))
    put_whole w = at_place ∙ putting_whole t before dst to r.count i r.putting h y e w

    pub put_next : y.width < length t - i → PutAt t before (set dst j y.byte) to (j + 1) (i + y.width)
    put_next w = record {
      count = r.count + 1;
      place = omega (arith, r.place);
      putting = subst⁻¹ (λ (d : List ℕ). Putting t before d to (r.count + 1) (i + y.width)) at_place (putting_next t before dst to r.count i r.putting h y e w);
    }

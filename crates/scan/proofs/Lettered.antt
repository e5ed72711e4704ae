-- The words of the table by place, and the loop that compares one with the text.
use mathlib.Core.Path.{◌≡◌, refl, sym, ◌∙◌}
use mathlib.Core.Bool.{Bool, ◌&&◌, ◌||◌}
use Prim.Native.Nat.{ℕ, suc, ◌+◌, ◌-◌, ◌≤◌, ◌<◌}
use native.Mathlib.Numerals.{add-one}
use native.Mathlib.Omega.{arith}
use mathlib.Core.List.{List}
use lib.Dec.{T, leb, ltb, eqb, leb→le, ltb→lt, eqb→eq}
use lib.ListN.{length, get_or, drop, length-drop}
use lib.Seq.{get_or-take, get_or-drop, length-take-le}
use Rattle.octets.proofs.Tests.{left, right, or_cases}
use Rattle.octets.proofs.Table as table
use Rattle.scan.specs.Inner.Points.{starts, letters, word_at, common}
use Rattle.scan.proofs.Words.{Reaching, reaching_first, reaching_next, reaching_other, reaching_short, reaching_whole}

-- each word begins in the letters, and the next one no earlier
rising : ℕ → ℕ → Bool
rising j x = leb x 1103 && (eqb j 123 || ltb x (get_or starts (suc j) 0))

starts_rise : (j : ℕ) → j < 124 → T (rising j (get_or starts j 0))
unfolding rising starts
starts_rise j h = table.at rising starts tt j h

-- word j has a place among the letters
pub record Placed (j : ℕ) : Type 0 where
  pub rises : get_or starts j 0 < get_or starts (suc j) 0
  pub ends : get_or starts (suc j) 0 ≤ 1103

pub placed : (j : ℕ) → j < 123 → Placed j
unfolding rising
placed j h =
    let a : T (leb (get_or starts j 0) 1103 && (eqb j 123 || ltb (get_or starts j 0) (get_or starts (suc j) 0))) = starts_rise j (omega (arith, h)) in
    let b : T (leb (get_or starts (suc j) 0) 1103 && (eqb (suc j) 123 || ltb (get_or starts (suc j) 0) (get_or starts (suc (suc j)) 0))) = starts_rise (suc j) (omega (arith, h)) in
    record {
      rises =
          or_cases (eqb j 123) (ltb (get_or starts j 0) (get_or starts (suc j) 0)) (right (leb (get_or starts j 0) 1103) _ a)
          (λ e. let f : j ≡ 123 = eqb→eq j 123 e in absurd (omega (arith, f, h)))
          (λ e. ltb→lt (get_or starts j 0) (get_or starts (suc j) 0) e);
      ends = leb→le (get_or starts (suc j) 0) 1103 (left (leb (get_or starts (suc j) 0) 1103) _ b);
    }

letters_long : length letters ≡ 1103
unfolding letters
letters_long = refl

pub word_long : (j : ℕ) → j < 123 → length (word_at j) ≡ get_or starts (suc j) 0 - get_or starts j 0
unfolding word_at
word_long j h =
    let p : Placed j = placed j h in
    length-take-le (get_or starts (suc j) 0 - get_or starts j 0) (drop (get_or starts j 0) letters)
    (rw (length-drop (get_or starts j 0) letters, letters_long) (omega (arith, p.rises, p.ends)))

pub letter_at : (j i : ℕ) → i < get_or starts (suc j) 0 - get_or starts j 0 → get_or (word_at j) i 0 ≡ get_or letters (get_or starts j 0 + i) 0
unfolding word_at
letter_at j i h =
    get_or-take (get_or starts (suc j) 0 - get_or starts j 0) (drop (get_or starts j 0) letters) i 0 h ∙ get_or-drop (get_or starts j 0) letters i 0

pub start_order : (j from to : ℕ) → j < 123 → from ≡ get_or starts j 0 → to ≡ get_or starts (j + 1) 0 → from ≤ to
start_order j from to h f t = let p : Placed j = placed j h in omega (arith, p.rises, f, rw add-one at t)

pub width_is : (j from to : ℕ) → j < 123 → from ≡ get_or starts j 0 → to ≡ get_or starts (j + 1) 0 → to - from ≡ length (word_at j)
width_is j from to h f t = rw (f, t, add-one j) (sym (word_long j h))

-- ---- the loop

pub record ReachAt (s : List ℕ) (at j from n left i : ℕ) : Type 0 where
  pub reaching : Reaching (word_at j) (drop at s) i
  pub number : j < 123
  pub front : at ≤ length s
  pub first : from ≡ get_or starts j 0
  pub long : n ≡ length (word_at j)
  pub rest : left ≡ length s - at

pub reach_first : (s : List ℕ) (at j from n : ℕ) → at ≤ length s → j < 123 → from ≡ get_or starts j 0 → n ≡ length (word_at j)
    → ReachAt s at j from n (length s - at) 0
reach_first s at j from n a h f l = record {
  reaching = reaching_first (word_at j) (drop at s);
  number = h;
  front = a;
  first = f;
  long = l;
  rest = refl;
}

module _ (s : List ℕ) (at j from n left i : ℕ) (r : ReachAt s at j from n left i) where
  word_is : length (word_at j) ≡ n
  word_is = sym r.long

  text_is : length (drop at s) ≡ left
  text_is = length-drop at s ∙ sym r.rest

  pub reach_inside : i < n → from + i < 1103
  reach_inside h = let p : Placed j = placed j r.number in omega (arith, p.rises, p.ends, r.first, r.long, word_long j r.number, h)

  pub reach_in_text : i < left → at + i < length s
  reach_in_text h = omega (arith, r.rest, h)

  letter_is : i < n → get_or letters (from + i) 0 ≡ get_or (word_at j) i 0
  letter_is h =
      rw r.first (sym (letter_at j i (omega (arith, r.long, word_long j r.number, h))))

  pub reach_short : left ≤ i → i ≡ common (word_at j) (drop at s)
  reach_short h = reaching_short (word_at j) (drop at s) i r.reaching (rw text_is h)

  pub reach_end : n ≤ i → i ≤ n → n ≡ common (word_at j) (drop at s)
  reach_end h l = let e : n ≡ i = omega arith in e ∙ reaching_whole (word_at j) (drop at s) i r.reaching (rw word_is h)

  pub reach_other : i < n → i < left → (a : ℕ) → a ≡ get_or letters (from + i) 0 → (a ≡ get_or s (at + i) 0 → ⊥) → i ≡ common (word_at j) (drop at s)
  reach_other h l a e d =
      reaching_other (word_at j) (drop at s) i r.reaching (rw word_is h) (rw text_is l)
      (λ q. d (e ∙ letter_is h ∙ q ∙ get_or-drop at s i 0))

  pub reach_next : i < n → i < left → (a : ℕ) → a ≡ get_or letters (from + i) 0 → a ≡ get_or s (at + i) 0 → ReachAt s at j from n left (i + 1)
  reach_next h l a e d = record {
    reaching =
        reaching_next (word_at j) (drop at s) i r.reaching (rw word_is h) (rw text_is l)
        (sym (letter_is h) ∙ sym e ∙ d ∙ sym (get_or-drop at s i 0));
    number = r.number;
    front = r.front;
    first = r.first;
    long = r.long;
    rest = r.rest;
  }

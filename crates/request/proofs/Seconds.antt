-- The search for the end of the head. It looks at every second byte, and at the bytes beside it where it can belong to CR LF CR LF.
use mathlib.Core.Bool.{Bool, true, false, and-false}
use mathlib.Core.Path.{◌≡◌, sym, ◌∙◌, subst, subst⁻¹}
use mathlib.Core.List.{List}
use Prim.Native.Nat.{ℕ, zero, suc, ◌+◌, ◌-◌, ◌*◌, ◌/◌, ◌≤◌, ◌<◌}
use native.Mathlib.Decide.{dec_le}
use native.Mathlib.Omega.{arith}
use lib.ListN.{length, get_or, drop, get_or-eq_default}
use borrow.Author.Tests.{ne_eqb}
use Rattle.cuts.specs.Cutting.{begins}
use Rattle.cuts.proofs.Search.{Came, came_end, came_found, came_next}
use Rattle.request.specs.Inner.Places.{head_of}
use Rattle.request.specs.Request.{empty_line}
use Rattle.request.proofs.Ends.{empty_line_is, empty_none, head_first}

-- ---- every second byte

-- those at from, from + 2 .. before k are above 13
pub record Above (s : List ℕ) (from k : ℕ) : Type 0 where
  pub even : k ≡ from + 2 * ((k - from) / 2)
  pub above : (n : ℕ) → from + 2 * n < k → 13 < get_or s (from + 2 * n) 0

pub above_none : (s : List ℕ) (from : ℕ) → Above s from from
above_none s from = record { even = omega arith; above = λ n l. absurd (omega (arith, l)) }

pub above_next : (s : List ℕ) (from k : ℕ) → Above s from k → 13 < get_or s k 0 → Above s from (k + 2)
above_next s from k a h = record {
  even = omega (arith, a.even);
  above = λ n l. elim (dec_le k (from + 2 * n)) [
    | yes m ↦ let e : k ≡ from + 2 * n = omega (arith, l, m, a.even) in subst (λ (j : ℕ). 13 < get_or s j 0) e h
    | no m ↦ a.above n (omega (arith, m))
  ];
}

-- past the end 0 counts as the byte
pub low_past : (s : List ℕ) (k : ℕ) → length s ≤ k → get_or s k 0 ≤ 13
low_past s k l = omega (arith, get_or-eq_default s 0 l)

-- ---- the search

-- it has come to i
abbrev Sought : List ℕ → ℕ → Type 0
Sought s i = Came (begins empty_line) s (length (head_of s)) i

-- it is to look at byte k: it has come to the byte in front of k
pub record Looking (s : List ℕ) (k : ℕ) : Type 0 where
  pub later : 1 ≤ k
  pub came : Sought s (k - 1)

module _ (s : List ℕ) (k : ℕ) (w : Looking s k) where
  next : k - 1 + 1 ≡ k
  next = omega (arith, w.later)

  -- no mark begins in front of k
  on_to : k - 1 < length s → begins empty_line (drop (k - 1) s) ≡ false → Sought s k
  on_to l n = subst (Sought s) next (came_next _ _ _ _ w.came l n)

  -- one would have its LF at k
  no_lf : (get_or s k 0 ≡ 10 → ⊥) → begins empty_line (drop (k - 1) s) ≡ false
  no_lf n = empty_line_is s (k - 1) ∙ rw (next, ne_eqb 10 (get_or s k 0) (λ e. n (sym e)), and-false)

  pub head_none : length s ≤ k → length s ≡ length (head_of s)
  head_none l = elim (dec_le (length s) (k - 1)) [
    | yes m ↦ omega (arith, w.came.inside, came_end _ _ _ _ w.came m)
    | no m ↦
        let on : Sought s k = on_to (omega (arith, m)) (no_lf (λ e. omega (arith, e, get_or-eq_default s 0 l))) in
        omega (arith, on.inside, came_end _ _ _ _ on l)
  ]

  module _ (inside : k < length s) where
    front : k - 1 < length s
    front = omega (arith, inside)

    on_past : Sought s k → begins empty_line (drop k s) ≡ false → Looking s (k + 2)
    on_past h n =
        let two : k + 1 ≡ k + 2 - 1 = omega arith in
        record { later = omega arith; came = subst (Sought s) two (came_next _ _ _ _ h inside n) }

    -- byte k is neither CR nor LF
    past_above : 13 < get_or s k 0 → Looking s (k + 2)
    past_above l = on_past (on_to front (no_lf (λ e. omega (arith, l, e)))) (sym (empty_none s k (λ e. omega (arith, l, e))))

    -- it is LF: a mark can begin in front of it
    module _ (r : Bool) (er : r ≡ begins empty_line (drop (k - 1) s)) where
      pub head_before : r ≡ true → k - 1 ≡ length (head_of s)
      head_before y = came_found _ _ _ _ w.came front (sym er ∙ y)

      past_lf : get_or s k 0 ≡ 10 → r ≡ false → Looking s (k + 2)
      past_lf lf n = on_past (on_to front (sym er ∙ n)) (sym (empty_none s k (λ e. omega (arith, lf, e))))

    -- it is not: one can begin with it
    module _ (n : get_or s k 0 ≡ 10 → ⊥) (r : Bool) (er : r ≡ begins empty_line (drop k s)) where
      pub head_here : r ≡ true → k ≡ length (head_of s)
      head_here y = came_found _ _ _ _ (on_to front (no_lf n)) inside (sym er ∙ y)

      past_cr : r ≡ false → Looking s (k + 2)
      past_cr m = on_past (on_to front (no_lf n)) (sym er ∙ m)

-- past every second byte, where all of them are above 13
past_all : (s : List ℕ) (k n : ℕ) → Looking s k → ((j : ℕ) → j < n → 13 < get_or s (k + 2 * j) 0) → Looking s (k + 2 * n)
past_all s k zero w h = let here : k ≡ k + 2 * 0 = omega arith in subst (Looking s) here w
past_all s k (suc n) w h =
    let big : 13 < get_or s (k + 2 * n) 0 = h n (omega arith) in
    let inside : k + 2 * n < length s = elim (dec_le (length s) (k + 2 * n)) [
      | yes l ↦ absurd (omega (arith, big, get_or-eq_default s 0 l))
      | no l ↦ omega (arith, l)
    ] in
    let two : k + 2 * n + 2 ≡ k + 2 * suc n = omega arith in
    subst (Looking s) two (past_above s (k + 2 * n) (past_all s k n w (λ j l. h j (omega (arith, l)))) inside big)

looked : (s : List ℕ) (k j : ℕ) → Looking s k → Above s k j → Looking s j
looked s k j w a = subst⁻¹ (Looking s) a.even (past_all s k ((j - k) / 2) w (λ n l. a.above n (omega (arith, l, a.even))))

-- ---- from one byte that is not above 13 to the next

pub head_start : (s : List ℕ) (j : ℕ) → Above s 1 j → Looking s j
head_start s j a = looked s 1 j (record { later = omega arith; came = head_first s }) a

module _ (s : List ℕ) (k : ℕ) (w : Looking s k) (inside : k < length s) (r : Bool) (j : ℕ) (a : Above s (k + 2) j) where
  pub next_by_lf : get_or s k 0 ≡ 10 → r ≡ begins empty_line (drop (k - 1) s) → r ≡ false → Looking s j
  next_by_lf lf er n = looked s (k + 2) j (past_lf s k w inside r er lf n) a

  pub next_by_cr : (get_or s k 0 ≡ 10 → ⊥) → r ≡ begins empty_line (drop k s) → r ≡ false → Looking s j
  next_by_cr m er n = looked s (k + 2) j (past_cr s k w inside m r er n) a

-- Where the head ends, and where the line of a field ends: what the code finds there byte by byte.
use mathlib.Core.Bool.{Bool, true, false, not, ◌&&◌, and-true}
use mathlib.Core.Path.{◌≡◌, refl, sym, ap, ◌∙◌}
use mathlib.Core.List.{List, [], ◌∷◌}
use Prim.Native.Nat.{ℕ, ◌+◌, zero-le}
use native.Mathlib.Omega.{arith}
use lib.ListN.{length, get_or, drop}
use lib.Dec.{eqb}
use lib.Seq.{get_or-drop}
use borrow.Author.Tests.{eq-eqb, ne_eqb}
use Rattle.octets.specs.Bytes.{white}
use Rattle.cuts.specs.Cutting.{begins}
use Rattle.cuts.specs.Inner.Searching.{first}
use Rattle.cuts.proofs.Search.{Came, begins_at, before_length}
use Rattle.request.specs.Inner.Places.{head_of}
use Rattle.request.specs.Request.{empty_line}
use Rattle.request.specs.Inner.Steps.{line_break}

-- ---- CR LF CR LF

pub empty_line_is : (s : List ℕ) (i : ℕ)
    → begins empty_line (drop i s)
    ≡ eqb 13 (get_or s i 0) && (eqb 10 (get_or s (i + 1) 0) && (eqb 13 (get_or s (i + 1 + 1) 0) && (eqb 10 (get_or s (i + 1 + 1 + 1) 0) && true)))
empty_line_is s i =
    rw (begins_at 13 (10 ∷ 13 ∷ 10 ∷ []) s i refl, begins_at 10 (13 ∷ 10 ∷ []) s (i + 1) refl, begins_at 13 (10 ∷ []) s (i + 1 + 1) refl, begins_at 10 [] s (i + 1 + 1 + 1) refl)

-- the bytes that the code finds from i on
pub empty_none : (s : List ℕ) (i : ℕ) → (get_or s i 0 ≡ 13 → ⊥) → false ≡ begins empty_line (drop i s)
empty_none s i h = sym (empty_line_is s i ∙ rw (ne_eqb 13 (get_or s i 0) (λ e. h (sym e))))

module _ (s : List ℕ) (i a : ℕ) (ea : a ≡ get_or s i 0) where
  module _ (b : ℕ) (eb : b ≡ get_or s (i + 1) 0) (ha : a ≡ 13) where
    at_a : eqb 13 (get_or s i 0) ≡ true
    at_a = eq-eqb 13 (get_or s i 0) (sym ha ∙ ea)

    pub empty_no_2 : (b ≡ 10 → ⊥) → false ≡ begins empty_line (drop i s)
    empty_no_2 h = sym (empty_line_is s i ∙ rw (at_a, ← eb, ne_eqb 10 b (λ e. h (sym e))))

    module _ (c : ℕ) (ec : c ≡ get_or s (i + 2) 0) (hb : b ≡ 10) where
      at_b : eqb 10 (get_or s (i + 1) 0) ≡ true
      at_b = eq-eqb 10 (get_or s (i + 1) 0) (sym hb ∙ eb)

      ec' : c ≡ get_or s (i + 1 + 1) 0
      ec' = let e : i + 2 ≡ i + 1 + 1 = omega arith in ec ∙ ap (λ (k : ℕ). get_or s k 0) e

      pub empty_no_3 : (c ≡ 13 → ⊥) → false ≡ begins empty_line (drop i s)
      empty_no_3 h = sym (empty_line_is s i ∙ rw (at_a, at_b, ← ec', ne_eqb 13 c (λ e. h (sym e))))

      module _ (d : ℕ) (ed : d ≡ get_or s (i + 3) 0) (hc : c ≡ 13) where
        at_c : eqb 13 (get_or s (i + 1 + 1) 0) ≡ true
        at_c = eq-eqb 13 (get_or s (i + 1 + 1) 0) (sym hc ∙ ec')

        ed' : d ≡ get_or s (i + 1 + 1 + 1) 0
        ed' = let e : i + 3 ≡ i + 1 + 1 + 1 = omega arith in ed ∙ ap (λ (k : ℕ). get_or s k 0) e

        pub empty_no_4 : (d ≡ 10 → ⊥) → false ≡ begins empty_line (drop i s)
        empty_no_4 h = sym (empty_line_is s i ∙ rw (at_a, at_b, at_c, ← ed', ne_eqb 10 d (λ e. h (sym e))))

        pub empty_yes : d ≡ 10 → true ≡ begins empty_line (drop i s)
        empty_yes h = sym (empty_line_is s i ∙ rw (at_a, at_b, at_c, ← ed', eq-eqb 10 d (sym h)))

-- the end of a field's line
module _ (h : List ℕ) (i : ℕ) where
  line_break_is : line_break (drop i h) ≡ ((eqb 13 (get_or h i 0) && (eqb 10 (get_or h (i + 1) 0) && true)) && not (white (get_or h (i + 2) 0)))
  line_break_is = rw (begins_at 13 (10 ∷ []) h i refl, begins_at 10 [] h (i + 1) refl, get_or-drop)

  pub break_no_cr : (get_or h i 0 ≡ 13 → ⊥) → false ≡ line_break (drop i h)
  break_no_cr n = sym (line_break_is ∙ rw (ne_eqb 13 (get_or h i 0) (λ e. n (sym e))))

  module _ (cr : get_or h i 0 ≡ 13) (b : ℕ) (eb : b ≡ get_or h (i + 1) 0) where
    pub break_no_lf : (b ≡ 10 → ⊥) → false ≡ line_break (drop i h)
    break_no_lf n = sym (line_break_is ∙ rw (cr, ← eb, ne_eqb 10 b (λ e. n (sym e))))

    module _ (lf : b ≡ 10) (x : ℕ) (ex : x ≡ get_or h (i + 2) 0) (r : Bool) (er : r ≡ white x) where
      pair_here : line_break (drop i h) ≡ not r
      pair_here = line_break_is ∙ rw (cr, ← eb, lf, ← ex, ← er)

      pub break_fold : r ≡ true → false ≡ line_break (drop i h)
      break_fold y = sym (pair_here ∙ ap not y)

      pub break_yes : r ≡ false → true ≡ line_break (drop i h)
      break_yes n = sym (pair_here ∙ ap not n)

-- only where a CR stands
begins_at_cr : (mark s : List ℕ) → begins (13 ∷ []) s ≡ false → begins (13 ∷ mark) s ≡ false
begins_at_cr mark [] e = refl
begins_at_cr mark (b ∷ s) e = rw (sym (and-true (eqb 13 b)) ∙ e)

pub break_at_cr : (s : List ℕ) → begins (13 ∷ []) s ≡ false → line_break s ≡ false
break_at_cr s e = rw (begins_at_cr (10 ∷ []) s e)

-- ---- the head

-- where it ends
pub head_end : (s : List ℕ) → length (head_of s) ≡ first (begins empty_line) s
unfolding head_of
head_end s = before_length empty_line s

-- the search for it
pub head_first : (s : List ℕ) → Came (begins empty_line) s (length (head_of s)) 0
head_first s = record { inside = zero-le; same = omega (arith, head_end s) }

-- The loop over the lines of a block.
use mathlib.Core.Bool.{Bool, true, false}
use mathlib.Core.Path.{◌≡◌, refl, sym, ap, ◌∙◌}
use mathlib.Core.List.{List, [], ◌∷◌}
use Prim.Native.Nat.{ℕ, suc, ◌+◌, ◌-◌, ◌≤◌, ◌<◌, zero-le, suc-le-suc}
use native.Mathlib.Nat.{zero-add, add-zero, add_assoc}
use native.Mathlib.Omega.{arith}
use lib.Dec.{eqb, leb}
use lib.ListN.{length, take, drop, length-drop}
use lib.Seq.{drop-drop}
use borrow.Author.Tests.{eq-eqb, ne_eqb, eqb-true, eqb-false, leb-true, leb-false, le-leb, lt-leb}
use Rattle.octets.specs.Lists.{pick, total}
use Rattle.cuts.specs.Cutting.{begins}
use Rattle.cuts.specs.Inner.Searching.{first}
use Rattle.cuts.proofs.Search.{first_yes, first_no, first_le}
use Rattle.probes.specs.Inner.Lines.{longer, lines, passing}

-- ---- to the end of a line

-- how many bytes stand before the first LF, or all
before_lf : List ℕ → ℕ
before_lf [] = 0
before_lf (b ∷ s) = pick (eqb b 10) 0 (suc (before_lf s))

-- the search for one byte finds that place
lf_is : (s : List ℕ) → first (begins (10 ∷ [])) s ≡ before_lf s
unfolding first before_lf
lf_is [] = refl
lf_is (b ∷ s) = go (eqb b 10) refl (lf_is s)
  where
    go : (t : Bool) → eqb b 10 ≡ t → first (begins (10 ∷ [])) s ≡ before_lf s → first (begins (10 ∷ [])) (b ∷ s) ≡ pick t 0 (suc (before_lf s))
    go true e ih = first_yes (begins (10 ∷ [])) b s (rw (eq-eqb 10 b (sym (eqb-true b 10 e))))
    go false e ih = first_no (begins (10 ∷ [])) b s (rw (ne_eqb 10 b (λ q. eqb-false b 10 e (sym q)))) ∙ ap suc ih

by_place : (block : List ℕ) (at end : ℕ) → end ≡ at + first (begins (10 ∷ [])) (drop at block) → end ≡ at + before_lf (drop at block)
by_place block at end e = e ∙ ap (λ (k : ℕ). at + k) (lf_is (drop at block))

-- ---- over the lines

-- the lines from a place on, and none behind the block
abbrev after : ℕ → List ℕ → List (List ℕ)
after at s = pick (leb at (length s)) (lines (drop at s)) []

leb_suc : (a b : ℕ) → leb (suc a) (suc b) ≡ leb a b
leb_suc a b = go (leb a b) refl
  where
    go : (t : Bool) → leb a b ≡ t → leb (suc a) (suc b) ≡ t
    go true e = le-leb (suc a) (suc b) (suc-le-suc (leb-true a b e))
    go false e = lt-leb (suc a) (suc b) (suc-le-suc (leb-false a b e))

-- the first line, and those behind its LF
lines_cut : (s : List ℕ) → lines s ≡ take (before_lf s) s ∷ after (suc (before_lf s)) s
unfolding lines before_lf
lines_cut [] = refl
lines_cut (b ∷ s) = go (eqb b 10) refl (lines_cut s)
  where
    go : (t : Bool) → eqb b 10 ≡ t → lines s ≡ take (before_lf s) s ∷ after (suc (before_lf s)) s
        → pick t ([] ∷ lines s) (longer b (lines s)) ≡ take (pick t 0 (suc (before_lf s))) (b ∷ s) ∷ after (suc (pick t 0 (suc (before_lf s)))) (b ∷ s)
    go true e ih = ap (λ (t : Bool). [] ∷ pick t (lines s) []) (sym (le-leb 1 (suc (length s)) (suc-le-suc zero-le)))
    go false e ih = ap (longer b) ih ∙ ap (λ (t : Bool). (b ∷ take (before_lf s) s) ∷ pick t (lines (drop (suc (before_lf s)) s)) []) (sym (leb_suc (suc (before_lf s)) (length s)))

lf_le : (s : List ℕ) → before_lf s ≤ length s
unfolding before_lf
lf_le [] = zero-le
lf_le (b ∷ s) = go (eqb b 10) (lf_le s)
  where
    go : (t : Bool) → before_lf s ≤ length s → pick t 0 (suc (before_lf s)) ≤ suc (length s)
    go true h = zero-le
    go false h = suc-le-suc h

pub one_most : (j : ℕ) (m : Bool) → j ≡ pick m 1 0 → j ≤ 1
one_most j true e = omega arith
one_most j false e = omega arith

pub line_inside : (block : List ℕ) (at end : ℕ) → at ≤ length block → end ≡ at + first (begins (10 ∷ [])) (drop at block) → end ≤ length block
line_inside block at end h e = omega (arith, first_le (begins (10 ∷ [])) (drop at block), length-drop at block)

-- a line counts 1 where it passes, else 0
abbrev counts : (List ℕ → Bool) → List ℕ → ℕ
counts f line = pick (f line) 1 0

-- the lines before `at` are counted
pub record Counting (f : List ℕ → Bool) (block : List ℕ) (at n : ℕ) : Type 0 where
  pub inside : at ≤ length block + 1
  pub few : n ≤ at
  pub left : n + total (counts f) (after at block) ≡ passing f block

module _ (f : List ℕ → Bool) (block : List ℕ) where
  pub counting_first : Counting f block 0 0
  unfolding passing
  counting_first = record { inside = omega arith; few = omega arith; left = zero-add (total (counts f) (after 0 block)) ∙ ap (λ (t : Bool). total (counts f) (pick t (lines block) [])) (le-leb 0 (length block) zero-le) }

  pub counting_end : (at n : ℕ) → Counting f block at n → length block < at → n ≡ passing f block
  counting_end at n w h =
      sym (add-zero n) ∙ sym (ap (λ (t : Bool). n + total (counts f) (pick t (lines (drop at block)) [])) (lt-leb at (length block) h)) ∙ w.left

  module _ (at end : ℕ) (h : at ≤ length block) (e : end ≡ at + before_lf (drop at block)) where
    line_order : at ≤ end
    line_order = omega arith

    -- the same lines, seen from the block
    later : after (suc (before_lf (drop at block))) (drop at block) ≡ after (end + 1) block
    later = go (leb (suc (before_lf (drop at block))) (length (drop at block))) refl (leb (end + 1) (length block)) refl
      where
        go : (t : Bool) → leb (suc (before_lf (drop at block))) (length (drop at block)) ≡ t → (u : Bool) → leb (end + 1) (length block) ≡ u
            → pick t (lines (drop (suc (before_lf (drop at block))) (drop at block))) [] ≡ pick u (lines (drop (end + 1) block)) []
        go true a true b =
            let z : at + suc (before_lf (drop at block)) ≡ end + 1 = omega arith in
            ap lines (drop-drop (suc (before_lf (drop at block))) at block ∙ ap (λ (k : ℕ). drop k block) z)
        go false a false b = refl
        go true a false b =
            absurd (omega (arith, leb-true (suc (before_lf (drop at block))) (length (drop at block)) a, leb-false (end + 1) (length block) b, length-drop at block))
        go false a true b =
            absurd (omega (arith, leb-false (suc (before_lf (drop at block))) (length (drop at block)) a, leb-true (end + 1) (length block) b, length-drop at block))

    abbrev line : List ℕ
    line = take (end - at) (drop at block)

    this : after at block ≡ line ∷ after (end + 1) block
    this =
        let z : before_lf (drop at block) ≡ end - at = omega arith in
        ap (λ (t : Bool). pick t (lines (drop at block)) []) (le-leb at (length block) h) ∙ lines_cut (drop at block)
        ∙ ap (λ (l : List (List ℕ)). take (before_lf (drop at block)) (drop at block) ∷ l) later
        ∙ ap (λ (k : ℕ). take k (drop at block) ∷ after (end + 1) block) z

    module _ (m : Bool) (em : m ≡ f line) (j : ℕ) (ej : j ≡ pick m 1 0) where
      counted : j ≡ counts f line
      counted = ej ∙ ap (λ (t : Bool). pick t 1 0) em

      line_next : (n : ℕ) → Counting f block at n → Counting f block (end + 1) (n + j)
      line_next n w =
          record {
            inside = omega (arith, lf_le (drop at block), length-drop at block);
            few = omega (arith, one_most j m ej, w.few, line_order);
            left =
                ap (λ (k : ℕ). n + k + total (counts f) (after (end + 1) block)) counted
                ∙ add_assoc n (counts f line) (total (counts f) (after (end + 1) block))
                ∙ sym (ap (λ (l : List (List ℕ)). n + total (counts f) l) this) ∙ w.left;
          }

  pub counting_next : (at end : ℕ) → at ≤ length block → end ≡ at + first (begins (10 ∷ [])) (drop at block)
      → (m : Bool) → m ≡ f (take (end - at) (drop at block)) → (j : ℕ) → j ≡ pick m 1 0
      → (n : ℕ) → Counting f block at n → Counting f block (end + 1) (n + j)
  counting_next at end h p = line_next at end h (by_place block at end p)

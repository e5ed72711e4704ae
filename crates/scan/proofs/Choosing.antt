-- Of the words of a point at most one stands at the front of a text: the loop that looks for it.
use mathlib.Core.Path.{◌≡◌, refl, sym, ap, ap₂, ◌∙◌, subst, subst⁻¹}
use mathlib.Core.Bool.{Bool, true, ◌&&◌, ◌||◌}
use Prim.Native.Nat.{ℕ, zero, suc, ◌+◌, ◌-◌, ◌≤◌, ◌<◌, max}
use native.Mathlib.Numerals.{add-one}
use native.Mathlib.Omega.{arith}
use mathlib.Core.List.{List}
use borrow.Author.Tests.{ltb-true, ltb-false}
use lib.Dec.{T, leb, ltb, eqb, leb→le, eqb→eq}
use lib.ListN.{length, get_or, drop}
use Rattle.octets.proofs.Tests.{left, right, or_cases, test_cases}
use mathlib.Core.Logic.{⊎_elim}
use native.Mathlib.Nat.{eq-or-lt_of_le}
use Rattle.octets.proofs.Table as table
use Rattle.grammar.specs.Reading.{Read, wrong, larger, better, expect}
use Rattle.grammar.specs.Inner.Made.{shifted}
use Rattle.scan.specs.Inner.Rests.{Ahead}
use Rattle.scan.specs.Inner.Points.{firsts, starts, nexts, letters, word_at, common, choices, first_word, word_count, Found, Missing}
use Rattle.grammar.proofs.Better.{better_none, none_better, better_assoc}
use Rattle.grammar.proofs.Shifted.{larger_less, larger_more, larger_under, shifted_wins, wins_shifted}
use Rattle.scan.proofs.Words.{expect_miss, expect_whole, apart, off, Off, common_le}

-- ---- the words of a point are apart

-- n words from i on, but for j itself, are apart from word j
unfoldable pub clear : ℕ → ℕ → ℕ → Bool
unfolding word_at
clear j i zero = true
clear j i (suc n) = (eqb i j || apart (word_at i) (word_at j)) && clear j (suc i) n

-- so for m words from j on
clear_range : ℕ → ℕ → ℕ → ℕ → Bool
unfolding clear
clear_range j zero i n = true
clear_range j (suc m) i n = clear j i n && clear_range (suc j) m i n

-- the words of point q begin where its first does, and there are no more than 123
ruled : ℕ → ℕ → Bool
unfolding clear_range firsts
ruled q x = eqb q 42 || (leb x (first_word (suc q)) && (leb (first_word (suc q)) 123 && clear_range x (first_word (suc q) - x) x (first_word (suc q) - x)))

tested : (q : ℕ) → q < 43 → T (ruled q (get_or firsts q 0))
unfolding ruled clear_range clear word_at firsts starts letters
tested q h = table.at ruled firsts tt q h

in_range : (j m i n : ℕ) → T (clear_range j m i n) → (l : ℕ) → j ≤ l → l < j + m → T (clear l i n)
unfolding clear_range
in_range j zero i n t l h k = absurd (omega (arith, h, k))
in_range j (suc m) i n t l h k =
    ⊎_elim (λ e. subst (λ (x : ℕ). T (clear x i n)) e (left (clear j i n) (clear_range (suc j) m i n) t))
    (λ g. in_range (suc j) m i n (right (clear j i n) (clear_range (suc j) m i n) t) l g (omega (arith, k)))
    (eq-or-lt_of_le h)

pub record Point (q : ℕ) : Type 0 where
  pub rises : first_word q ≤ first_word (suc q)
  pub ends : first_word (suc q) ≤ 123
  pub clears : (j : ℕ) → first_word q ≤ j → j < first_word (suc q) → T (clear j (first_word q) (word_count q))

pub point : (q : ℕ) → q < 42 → Point q
unfolding ruled
point q h =
    or_cases (eqb q 42) _ (tested q (omega (arith, h)))
    (λ e. let f : q ≡ 42 = eqb→eq q 42 e in absurd (omega (arith, f, h)))
    (λ t. let a = left (leb (first_word q) (first_word (suc q))) _ t in
    let b = right (leb (first_word q) (first_word (suc q))) _ t in
    let r : first_word q ≤ first_word (suc q) = leb→le (first_word q) (first_word (suc q)) a in
    record {
      rises = r;
      ends = leb→le (first_word (suc q)) 123 (left (leb (first_word (suc q)) 123) _ b);
      clears = λ j i k. in_range (first_word q) (word_count q) (first_word q) (word_count q) (right (leb (first_word (suc q)) 123) _ b) j i (omega (arith, r, k));
    })

-- ---- the word that stands there

module _ {R : Type 0} (k : ℕ → List ℕ → Read R) (t : List ℕ) (j : ℕ) (w : common (word_at j) t ≡ length (word_at j)) where
  -- a word that is apart stops within it
  missed : (i : ℕ) → T (apart (word_at i) (word_at j)) → (m : ℕ) × (m ≤ length (word_at j)) × (expect (word_at i) (k (get_or nexts i 0)) t ≡ wrong m)
  missed i a =
      let o : Off (word_at i) (word_at j) t = off (word_at i) (word_at j) t a w in
      (common (word_at i) t, o.less, expect_miss (word_at i) (k (get_or nexts i 0)) t o.not_whole)

  apart_from : (i n : ℕ) → (i ≡ j → ⊥) → T (clear j i (suc n)) → T (apart (word_at i) (word_at j))
  unfolding clear
  apart_from i n d c =
      or_cases (eqb i j) (apart (word_at i) (word_at j)) (left (eqb i j || apart (word_at i) (word_at j)) (clear j (suc i) n) c)
      (λ e. absurd (d (eqb→eq i j e))) (λ a. a)

  clear_on : (i n : ℕ) → T (clear j i (suc n)) → T (clear j (suc i) n)
  unfolding clear
  clear_on i n c = right (eqb i j || apart (word_at i) (word_at j)) (clear j (suc i) n) c

  -- words behind it stop within it too
  all_missed : (i n : ℕ) → j < i → T (clear j i n) → (m : ℕ) × (m ≤ length (word_at j)) × (choices k i n t ≡ wrong m)
  unfolding choices
  all_missed i zero h c = (0, omega arith, refl)
  all_missed i (suc n) h c =
      let a = missed i (apart_from i n (λ e. absurd (omega (arith, h, e))) c) in
      let b = all_missed (suc i) n (omega (arith, h)) (clear_on i n c) in
      (larger a.0 b.0, larger_under a.0 b.0 (length (word_at j)) a.1 b.1, ap₂ better a.2 b.2)

  pub chosen : (i n : ℕ) → i ≤ j → j < i + n → T (clear j i n)
      → choices k i n t ≡ shifted (length (word_at j)) (k (get_or nexts j 0) (drop (length (word_at j)) t))
  unfolding choices
  chosen i zero h l c = absurd (omega (arith, h, l))
  chosen i (suc n) h l c =
      ⊎_elim
      (λ e. let b = all_missed (suc i) n (omega (arith, e)) (clear_on i n c) in
      ap₂ better
      (subst (λ (x : ℕ). expect (word_at x) (k (get_or nexts x 0)) t ≡ shifted (length (word_at j)) (k (get_or nexts j 0) (drop (length (word_at j)) t))) (sym e)
      (expect_whole (word_at j) (k (get_or nexts j 0)) t w))
      b.2
      ∙ shifted_wins (length (word_at j)) b.0 (k (get_or nexts j 0) (drop (length (word_at j)) t)) b.1)
      (λ g. let a = missed i (apart_from i n (λ e. absurd (omega (arith, g, e))) c) in
      ap₂ better a.2 (chosen (suc i) n g (omega (arith, l)) (clear_on i n c))
      ∙ wins_shifted (length (word_at j)) a.0 (k (get_or nexts j 0) (drop (length (word_at j)) t)) a.1)
      (eq-or-lt_of_le h)

-- ---- the loop

max_larger : (m n : ℕ) → max m n ≡ larger m n
max_larger m n =
    test_cases (ltb m n)
    (λ e. let h : m < n = ltb-true m n e in let top : max m n ≡ n = omega arith in top ∙ larger_less m n h)
    (λ e. let h : n ≤ m = ltb-false m n e in let top : max m n ≡ m = omega arith in top ∙ larger_more m n h)

pub record Choosing (q : ℕ) (t : List ℕ) (end best j : ℕ) : Type 0 where
  pub point_is : q < 42
  pub from : first_word q ≤ j
  pub upto : j ≤ end
  pub last : end ≡ first_word (suc q)
  pub within : best ≤ length t
  pub same : (k : ℕ → List ℕ → Ahead) → choices k (first_word q) (word_count q) t ≡ better (wrong best) (choices k j (end - j) t)

pub choosing_first : (q : ℕ) (t : List ℕ) (end j : ℕ) → q < 42 → end ≡ get_or firsts (q + 1) 0 → j ≡ get_or firsts q 0 → Choosing q t end 0 j
choosing_first q t end j h e f =
    let g : end ≡ first_word (suc q) = rw add-one at e in
    let p : Point q = point q h in
    record {
      point_is = h;
      from = omega (arith, f);
      upto = omega (arith, f, g, p.rises);
      last = g;
      within = omega arith;
      same = λ k. rw (f, g) (sym (none_better (choices k (first_word q) (word_count q) t)));
    }

module _ (q : ℕ) (t : List ℕ) (end best j : ℕ) (c : Choosing q t end best j) where
  pub choosing_word : j < end → j < 123
  choosing_word h = let p : Point q = point q c.point_is in omega (arith, h, c.last, p.ends)

  pub choosing_missed : end ≤ j → Missing q t best
  unfolding choices
  choosing_missed h = record {
    within = c.within;
    stops = λ k.
        let z : end - j ≡ 0 = omega (arith, h) in
        c.same k ∙ ap (λ (n : ℕ). better (wrong best) (choices k j n t)) z ∙ better_none (wrong best);
  }

  pub choosing_found : j < end → (width r : ℕ) → width ≡ length (word_at j) → r ≡ common (word_at j) t → r ≡ width → Found q t j
  choosing_found h width r f e x =
      let p : Point q = point q c.point_is in
      let w : common (word_at j) t ≡ length (word_at j) = sym e ∙ x ∙ f in
      record {
        from = c.from;
        under = omega (arith, h, c.last);
        whole = w;
        goes = λ k. chosen k t j w (first_word q) (word_count q) c.from (omega (arith, h, c.last, c.from)) (p.clears j c.from (omega (arith, h, c.last)));
      }

  pub choosing_next : j < end → (width r b : ℕ) → width ≡ length (word_at j) → r ≡ common (word_at j) t → (r ≡ width → ⊥) → b ≡ max best r
      → Choosing q t end b (j + 1)
  unfolding choices
  choosing_next h width r b f e x top = let l : b ≡ larger best r = top ∙ max_larger best r in record {
    point_is = c.point_is;
    from = omega (arith, c.from);
    upto = omega (arith, h);
    last = c.last;
    within = subst⁻¹ (λ (x : ℕ). x ≤ length t) l (larger_under best r (length t) c.within (subst⁻¹ (λ (x : ℕ). x ≤ length t) e (common_le (word_at j) t)));
    same = λ k.
        let m : expect (word_at j) (k (get_or nexts j 0)) t ≡ wrong r =
        expect_miss (word_at j) (k (get_or nexts j 0)) t (λ y. x (e ∙ y ∙ sym f)) ∙ ap wrong (sym e) in
        let n : end - j ≡ suc (end - suc j) = omega (arith, h) in
        c.same k
        ∙ ap (λ (z : ℕ). better (wrong best) (choices k j z t)) n
        ∙ ap (λ (z : Ahead). better (wrong best) (better z (choices k (suc j) (end - suc j) t))) m
        ∙ sym (better_assoc (wrong best) (wrong r) (choices k (suc j) (end - suc j) t))
        ∙ ap₂ (λ (z i : ℕ). better (wrong z) (choices k i (end - i) t)) (sym l) (sym (add-one j));
  }

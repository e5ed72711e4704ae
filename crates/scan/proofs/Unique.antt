-- No text is read in two ways: from every point at most one word leads on.
use mathlib.Core.Path.{◌≡◌, refl, sym, ap, ◌∙◌, subst, subst⁻¹}
use mathlib.Core.Bool.{Bool, true, ◌&&◌}
use mathlib.Core.Logic.{◌⊎◌, inl, inr, ⊎_elim}
use Prim.Native.Nat.{ℕ, zero, suc, ◌+◌, ◌-◌, ◌≤◌, ◌<◌}
use native.Mathlib.Nat.{eq-or-lt_of_le}
use native.Mathlib.Omega.{arith}
use mathlib.Core.List.{List, [], ◌∷◌}
use lib.Dec.{eqb, ltb, lit<}
use lib.ListN.{length, get_or, drop, length-drop}
use borrow.Author.Tests.{eqb-true, eqb-false, ltb-true, ltb-false}
use Rattle.octets.specs.Lists.{pick, text}
use Rattle.octets.proofs.Tests.{test_cases}
use Rattle.scan.specs.Criteria.{Criterion}
use Rattle.grammar.specs.Reading.{Read, read_as, wrong, twice, better, larger, expect, up_to, read_text}
use Rattle.grammar.specs.Inner.Made.{Only, forget}
use Rattle.scan.specs.Table.{digit, profile_text}
use Rattle.scan.specs.declared.scanner.Kind.TheVariants.{Digit}
use Rattle.scan.proofs.Runs.{digit_cases}
use Rattle.scan.specs.Inner.Points.{starts, nexts, word_at, common, choices, first_word, word_count, kind_of}
use Rattle.scan.specs.Inner.Rests.{plainly, at_end}
use Rattle.scan.specs.Inner.Turns.{by_words}
use Rattle.grammar.proofs.Better.{better_none}
use Rattle.grammar.proofs.Once.{Once, once_shifted, once_up_to}
use Rattle.scan.proofs.Words.{expect_miss, common_le}
use Rattle.scan.proofs.Lettered.{word_long, placed, Placed}
use Rattle.scan.proofs.Choosing.{Point, point, chosen}
use Rattle.scan.proofs.Leading.{behind, passed, none_at_end}
use Rattle.scan.proofs.PointLaws.{law}
use Rattle.scan.proofs.Turning.{next_point, next_comment, rest_comment}
use Rattle.scan.proofs.Starting.{begun, with_start, without_start, starts_so}

-- ---- words

module _ (t : List ℕ) where
  abbrev Stands : ℕ → Type 0
  Stands j = common (word_at j) t ≡ length (word_at j)

  -- one of n words from i on stands there, or none does
  decide : (i n : ℕ) → ((j : ℕ) × (i ≤ j) × (j < i + n) × Stands j) ⊎ ((j : ℕ) → i ≤ j → j < i + n → Stands j → ⊥)
  decide i zero = inr (λ j h k s. absurd (omega (arith, h, k)))
  decide i (suc n) =
      test_cases (eqb (common (word_at i) t) (length (word_at i)))
      (λ e. inl (i, omega arith, omega arith, eqb-true (common (word_at i) t) (length (word_at i)) e))
      (λ e. ⊎_elim
      (λ x. inl (x.0, omega (arith, x.1), omega (arith, x.2), x.3))
      (λ f. inr (λ j h k s. ⊎_elim (λ q. absurd (eqb-false (common (word_at i) t) (length (word_at i)) e (subst⁻¹ Stands q s))) (λ g. f j g (omega (arith, k)) s) (eq-or-lt_of_le h)))
      (decide (suc i) n))

  none_stands : (k : ℕ → List ℕ → Only) (i n : ℕ) → ((j : ℕ) → i ≤ j → j < i + n → Stands j → ⊥) → (m : ℕ) × (choices k i n t ≡ wrong m)
  unfolding choices
  none_stands k i zero f = (0, refl)
  none_stands k i (suc n) f =
      let r = none_stands k (suc i) n (λ j h l s. f j (omega (arith, h)) (omega (arith, l)) s) in (
        larger (common (word_at i) t) r.0,
        ap (λ (x : Only). better x (choices k (suc i) n t)) (expect_miss (word_at i) (k (get_or nexts i 0)) t (f i (omega arith) (omega arith)))
            ∙ ap (better (wrong (common (word_at i) t))) r.1,
      )

-- ---- points

-- shorter texts are read once from every point
abbrev Shorter : ℕ → Type 0
Shorter n = (q : ℕ) → q < 42 → (v : List ℕ) → length v < n → Once (plainly q v)

next_once : (n j : ℕ) → j < 123 → Shorter n → (v : List ℕ) → length v < n → Once (plainly (get_or nexts j 0) v)
next_once n j h f v l =
    test_cases (ltb (get_or nexts j 0) 64)
    (λ e. f (get_or nexts j 0) (next_point j h (ltb-true (get_or nexts j 0) 64 e)) v l)
    (λ e. let g : 64 ≤ get_or nexts j 0 = ltb-false (get_or nexts j 0) 64 e in
    let c : get_or nexts j 0 < 106 = next_comment j h g in
    subst⁻¹ (λ (r : List ℕ → Only). Once (r v)) (rest_comment (get_or nexts j 0) g c)
    (once_up_to (text "-->") [] (plainly (get_or nexts j 0 - 64)) (length v)
    (λ u k. f (get_or nexts j 0 - 64) (omega (arith, g, c)) u (omega (arith, k, l))) v (omega arith)))

words_once : (n q : ℕ) → q < 42 → Shorter n → (t : List ℕ) → length t ≤ n → Once (by_words q t)
words_once n q h f t l =
    let p : Point q = point q h in
    ⊎_elim
    (λ x. let j : ℕ = x.0 in
    let under : j < first_word (suc q) = omega (arith, x.2, p.rises) in
    let few : j < 123 = omega (arith, under, p.ends) in
    let w : Placed j = placed j few in
    let long : length (word_at j) ≡ get_or starts (suc j) 0 - get_or starts j 0 = word_long j few in
    let c : common (word_at j) t ≤ length t = common_le (word_at j) t in
    let d : length (drop (length (word_at j)) t) ≡ length t - length (word_at j) = length-drop (length (word_at j)) t in
    subst⁻¹ Once (chosen plainly t j x.3 (first_word q) (word_count q) x.1 x.2 (p.clears j x.1 under))
    (once_shifted (length (word_at j)) (plainly (get_or nexts j 0) (drop (length (word_at j)) t))
    (next_once n j few f (drop (length (word_at j)) t) (omega (arith, w.rises, long, c, d, l, x.3)))))
    (λ g. subst⁻¹ Once (none_stands t plainly (first_word q) (word_count q) g).1 tt)
    (decide t (first_word q) (word_count q))

top_once : (n : ℕ) → Shorter n → (t : List ℕ) → length t ≤ n → Once (better (by_words 0 t) (forget (at_end t)))
top_once n f [] l = subst⁻¹ (λ (x : Only). Once (better x (read_as tt))) (none_at_end 0 (lit< tt)) tt
top_once n f (b ∷ t) l = subst⁻¹ Once (better_none (by_words 0 (b ∷ t))) (words_once n 0 (lit< tt) f (b ∷ t) l)

behind_once : (n q : ℕ) → q < 42 → Shorter n → (t : List ℕ) → length t ≤ n → Once (behind q t)
behind_once n q h f t l =
    test_cases (eqb q 0)
    (λ e. subst⁻¹ (λ (b : Bool). Once (pick b (better (by_words q t) (forget (at_end t))) (by_words q t))) e
    (subst (λ (x : ℕ). Once (better (by_words x t) (forget (at_end t)))) (sym (eqb-true q 0 e)) (top_once n f t l)))
    (λ e. subst⁻¹ (λ (b : Bool). Once (pick b (better (by_words q t) (forget (at_end t))) (by_words q t))) e (words_once n q h f t l))

led_once : (n q : ℕ) → q < 42 → Shorter n → (t : List ℕ) → length t ≤ n → (kind_of q ≡ Digit → digit (get_or t 0 0) ≡ true) → Once (plainly q t)
led_once n q h f t l d =
    let m : length (drop (passed q t) t) ≡ length t - passed q t = length-drop (passed q t) t in
    subst⁻¹ Once ((law q h).leads t d)
    (once_shifted (passed q t) (behind q (drop (passed q t) t)) (behind_once n q h f (drop (passed q t) t) (omega (arith, m, l))))

pub points_once : (n : ℕ) → Shorter n
points_once zero q h t l = absurd (omega (arith, l))
points_once (suc n) q h t l =
    let f : Shorter n = points_once n in
    let m : length t ≤ n = omega (arith, l) in
    test_cases (digit (get_or t 0 0))
    (λ e. led_once n q h f t m (λ i. e))
    (λ e. digit_cases (kind_of q)
    (λ k. subst⁻¹ Once ((law q h).refuses t k e) tt)
    (λ k. led_once n q h f t m (λ i. absurd (k i))))

-- ---- the whole text

from_top : (s : List ℕ) → Once (plainly 0 s)
from_top s = (points_once (suc (length s)) 0 (lit< tt) s (omega arith))

pub text_once : (s : List ℕ) → Once (forget (read_text profile_text s))
text_once s =
    subst⁻¹ Once (begun s)
    (test_cases (eqb 60 (get_or s 0 0) && eqb 63 (get_or s 1 0))
    (λ e. let p = starts_so s e in
    subst⁻¹ (λ (x : List ℕ). Once (better (expect (text "<?") (up_to (text "?>") [] (plainly 0)) x) ((plainly 0) x))) p.1
    (subst⁻¹ Once (with_start p.0)
    (once_shifted 2 (up_to (text "?>") [] (plainly 0) p.0) (once_up_to (text "?>") [] (plainly 0) (length p.0) (λ v k. from_top v) p.0 (omega arith)))))
    (λ e. subst⁻¹ Once (without_start s e) (from_top s)))

pub never_twice : (s : List ℕ) → read_text profile_text s ≡ twice → ⊥
never_twice s e = subst (λ (x : Read (List Criterion)). Once (forget x)) e (text_once s)

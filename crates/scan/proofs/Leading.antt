-- What a point passes over: no word of it begins with such a byte, so that it is passed to its end.
use mathlib.Core.Path.{◌≡◌, refl, sym, ap, ap₂, ◌∙◌, subst, subst⁻¹}
use mathlib.Core.Bool.{Bool, true, false, not, ◌&&◌, ◌||◌}
use Prim.Native.Nat.{ℕ, zero, suc, ◌-◌, ◌<◌}
use native.Mathlib.Omega.{arith}
use mathlib.Core.List.{List, [], ◌∷◌}
use lib.Dec.{T, eqb, eqb→eq, lit<}
use lib.ListN.{get_or, drop}
use Rattle.octets.specs.Lists.{pick, empty}
use Rattle.octets.proofs.Tests.{left, right, or_cases, test_cases, T_of, not_T_of, is_false}
use Rattle.octets.proofs.Table as table
use Rattle.cuts.specs.Inner.Searching.{first}
use Rattle.grammar.specs.Grammar.{one, many}
use Rattle.grammar.specs.Reading.{wrong, later, better, expect, expect_one}
use Rattle.grammar.specs.Inner.Made.{Only, shifted, forget}
use Rattle.grammar.proofs.Sound.{sound}
use Rattle.scan.specs.Table.{blank, digit}
use Rattle.scan.specs.declared.scanner.Kind.TheVariants.{Digit}
use Rattle.scan.proofs.Runs.{blank_apart}
use Rattle.scan.specs.Inner.Points.{firsts, starts, nexts, letters, word_at, choices, first_word, word_count, class_of, run, kind_of}
use Rattle.scan.specs.Inner.Rests.{pass, at_end, plainly}
use Rattle.scan.specs.Inner.Turns.{by_words}
use Rattle.scan.proofs.Passing.{pass_run, Shut}

-- ---- no word begins with a byte that is passed over

unfoldable heads_off : (ℕ → Bool) → ℕ → ℕ → Bool
unfolding word_at
heads_off p i zero = true
heads_off p i (suc n) = (not (empty (word_at i)) && not (p (get_or (word_at i) 0 0))) && heads_off p (suc i) n

ruled : ℕ → ℕ → Bool
unfolding heads_off firsts
ruled q x = eqb q 42 || heads_off (class_of (kind_of q)) x (first_word (suc q) - x)

tested : (q : ℕ) → q < 43 → T (ruled q (get_or firsts q 0))
unfolding ruled heads_off word_at firsts starts letters
tested q h = table.at ruled firsts tt q h

heads : (q : ℕ) → q < 42 → T (heads_off (class_of (kind_of q)) (first_word q) (word_count q))
unfolding ruled
heads q h =
    or_cases (eqb q 42) (heads_off (class_of (kind_of q)) (first_word q) (word_count q)) (tested q (omega (arith, h)))
    (λ e. let f : q ≡ 42 = eqb→eq q 42 e in absurd (omega (arith, f, h))) (λ t. t)

word_off : (p : ℕ → Bool) (w : List ℕ) (k : List ℕ → Only) (b : ℕ) (u : List ℕ) → T (not (empty w) && not (p (get_or w 0 0))) → p b ≡ true
    → expect w k (b ∷ u) ≡ wrong 0
word_off p [] k b u t e = absurd t
word_off p (c ∷ w) k b u t e =
    test_cases (eqb c b)
    (λ f. absurd (not_T_of (is_false (p c) t) (subst⁻¹ (λ (x : ℕ). T (p x)) (eqb→eq c b (T_of f)) (T_of e))))
    (λ f. rw f)

shut_words : (p : ℕ → Bool) (k : ℕ → List ℕ → Only) (i n : ℕ) → T (heads_off p i n) → Shut p (choices k i n)
unfolding choices heads_off
shut_words p k i zero t b u e = refl
shut_words p k i (suc n) t b u e =
    ap₂ better
    (word_off p (word_at i) (k (get_or nexts i 0)) b u (left (not (empty (word_at i)) && not (p (get_or (word_at i) 0 0))) (heads_off p (suc i) n) t) e)
    (shut_words p k (suc i) n (right (not (empty (word_at i)) && not (p (get_or (word_at i) 0 0))) (heads_off p (suc i) n) t) b u e)

pub shut : (q : ℕ) → q < 42 → Shut (class_of (kind_of q)) (by_words q)
shut q h = shut_words (class_of (kind_of q)) plainly (first_word q) (word_count q) (heads q h)

-- at the end of the text none stands
word_none : (w : List ℕ) (k : List ℕ → Only) (p : ℕ → Bool) → T (not (empty w) && not (p (get_or w 0 0))) → expect w k [] ≡ wrong 0
word_none [] k p t = absurd t
word_none (c ∷ w) k p t = refl

words_none : (p : ℕ → Bool) (k : ℕ → List ℕ → Only) (i n : ℕ) → T (heads_off p i n) → choices k i n [] ≡ wrong 0
unfolding choices heads_off
words_none p k i zero t = refl
words_none p k i (suc n) t =
    ap₂ better
    (word_none (word_at i) (k (get_or nexts i 0)) p (left (not (empty (word_at i)) && not (p (get_or (word_at i) 0 0))) (heads_off p (suc i) n) t))
    (words_none p k (suc i) n (right (not (empty (word_at i)) && not (p (get_or (word_at i) 0 0))) (heads_off p (suc i) n) t))

pub none_at_end : (q : ℕ) → q < 42 → by_words q [] ≡ wrong 0
none_at_end q h = words_none (class_of (kind_of q)) plainly (first_word q) (word_count q) (heads q h)

-- ---- the law of a point

-- behind what is passed over: a word, or at the top the end
abbrev pub behind : ℕ → List ℕ → Only
behind q u = pick (eqb q 0) (better (by_words q u) (forget (at_end u))) (by_words q u)

abbrev pub passed : ℕ → List ℕ → ℕ
passed q t = run (class_of (kind_of q)) t

pub record Law (q : ℕ) : Type 0 where
  pub leads : (t : List ℕ) → (kind_of q ≡ Digit → digit (get_or t 0 0) ≡ true) → plainly q t ≡ shifted (passed q t) (behind q (drop (passed q t) t))
  pub refuses : (t : List ℕ) → kind_of q ≡ Digit → digit (get_or t 0 0) ≡ false → plainly q t ≡ wrong 0

-- a point that passes over blanks or text
pub many_law : (q : ℕ) → q < 42 → (p : ℕ → Bool) → T (sound (one p)) → class_of (kind_of q) ≡ p → (kind_of q ≡ Digit → ⊥) → eqb q 0 ≡ false
    → ((s : List ℕ) → plainly q s ≡ pass (many (one p)) (by_words q) s) → Law q
many_law q h p sp c n z e = record {
  leads = λ t d.
      let f : Shut p (by_words q) = subst (λ (x : ℕ → Bool). Shut x (by_words q)) c (shut q h) in
      e t ∙ pass_run p sp (by_words q) f t
      ∙ ap (λ (x : ℕ → Bool). shifted (run x t) (by_words q (drop (run x t) t))) (sym c)
      ∙ ap (λ (b : Bool). shifted (passed q t) (pick b (better (by_words q (drop (passed q t) t)) (forget (at_end (drop (passed q t) t)))) (by_words q (drop (passed q t) t)))) (sym z);
  refuses = λ t k. absurd (n k);
}

number_first : (q : ℕ) → q < 42 → class_of (kind_of q) ≡ digit → eqb q 0 ≡ false
    → ((s : List ℕ) → plainly q s ≡ expect_one digit (λ b. pass (many (one digit)) (by_words q)) s)
    → (t : List ℕ) → digit (get_or t 0 0) ≡ true → plainly q t ≡ shifted (run digit t) (by_words q (drop (run digit t) t))
unfolding sound first
number_first q h c z e [] d = absurd (not_T_of refl (T_of d))
number_first q h c z e (b ∷ t) d =
    let f : Shut digit (by_words q) = subst (λ (x : ℕ → Bool). Shut x (by_words q)) c (shut q h) in
    e (b ∷ t)
    ∙ ap (λ (x : Bool). pick x (later (pass (many (one digit)) (by_words q) t)) (wrong 0)) d
    ∙ ap later (pass_run digit tt (by_words q) f t)
    ∙ ap (λ (x : Bool). shifted (pick (not x) 0 (suc (run digit t))) (by_words q (drop (pick (not x) 0 (suc (run digit t))) (b ∷ t)))) (sym d)

number_never : (q : ℕ) → ((s : List ℕ) → plainly q s ≡ expect_one digit (λ b. pass (many (one digit)) (by_words q)) s)
    → (t : List ℕ) → digit (get_or t 0 0) ≡ false → plainly q t ≡ wrong 0
number_never q e [] d = e []
number_never q e (b ∷ t) d = e (b ∷ t) ∙ ap (λ (x : Bool). pick x (later (pass (many (one digit)) (by_words q) t)) (wrong 0)) d

pub number_law : (q : ℕ) → q < 42 → class_of (kind_of q) ≡ digit → eqb q 0 ≡ false → kind_of q ≡ Digit
    → ((s : List ℕ) → plainly q s ≡ expect_one digit (λ b. pass (many (one digit)) (by_words q)) s) → Law q
number_law q h c z k e = record {
  leads = λ t d.
      number_first q h c z e t (d k)
      ∙ ap (λ (x : ℕ → Bool). shifted (run x t) (by_words q (drop (run x t) t))) (sym c)
      ∙ ap (λ (b : Bool). shifted (passed q t) (pick b (better (by_words q (drop (passed q t) t)) (forget (at_end (drop (passed q t) t)))) (by_words q (drop (passed q t) t)))) (sym z);
  refuses = λ t i. number_never q e t;
}

-- the top, where a text may end too
shut_top : Shut blank (λ u. better (by_words 0 u) (forget (at_end u)))
shut_top b u e = ap (λ (x : Only). better x (wrong 0)) (shut 0 (lit< tt) b u e)

pub top_law : ((s : List ℕ) → plainly 0 s ≡ pass (many (one blank)) (λ u. better (by_words 0 u) (forget (at_end u))) s) → Law 0
unfolding sound
top_law e = record {
  leads = λ t d. e t ∙ pass_run blank tt (λ u. better (by_words 0 u) (forget (at_end u))) shut_top t;
  refuses = λ t k. absurd (blank_apart k);
}

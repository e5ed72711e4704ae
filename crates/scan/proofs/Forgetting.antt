-- Points without the values to come.
use mathlib.Core.Path.{◌≡◌, refl, ap, ap₂, ◌∙◌, fun_ext}
use Prim.Native.Nat.{ℕ, zero, suc}
use mathlib.Core.List.{List, ◌∷◌}
use lib.ListN.{get_or}
use Rattle.grammar.specs.Grammar.{Grammar, one, ◌then◌, many}
use Rattle.grammar.specs.Reading.{better, expect, read}
use Rattle.grammar.specs.Inner.Made.{Only, forget, made}
use Rattle.grammar.proofs.Made.{made_read, made_better, made_expect, forget_made}
use Rattle.scan.specs.Table.{blank, digit, decimal, character}
use Rattle.scan.specs.Inner.Points.{nexts, word_at, choices, first_word, word_count}
use Rattle.scan.specs.Inner.Events.{Event, note, note_text}
use Rattle.scan.specs.Inner.Rests.{pass, told, Ahead, at_end, in_number, in_string, rest, plainly}
use Rattle.scan.proofs.Between.{Gap, point_top}

pub forget_choices : (k : ℕ → List ℕ → Ahead) (i n : ℕ) (t : List ℕ) → forget (choices k i n t) ≡ choices (λ q u. forget (k q u)) i n t
unfolding choices
forget_choices k i zero t = refl
forget_choices k i (suc n) t =
    made_better (λ r. tt) (expect (word_at i) (k (get_or nexts i 0)) t) (choices k (suc i) n t)
    ∙ ap₂ better (made_expect (λ r. tt) (word_at i) (k (get_or nexts i 0)) t) (forget_choices k (suc i) n t)

pub forget_pass : {A : Type 0} (g : Grammar A) (k : List ℕ → Ahead) (s : List ℕ) → forget (pass g k s) ≡ pass g (λ u. forget (k u)) s
unfolding pass
forget_pass g k s = made_read (λ r. tt) g (λ a. k) s

forget_told : {A : Type 0} (g : Grammar A) (f : A → List Event → List Event) (k : List ℕ → Ahead) (s : List ℕ)
    → forget (told g f k s) ≡ pass g (λ u. forget (k u)) s
unfolding told pass
forget_told {A} g f k s =
    made_read (λ r. tt) g (λ a u. made (f a) (k u)) s
    ∙ ap (λ (l : A → List ℕ → Only). read g l s) (fun_ext (λ a. fun_ext (λ u. forget_made (f a) (k u))))

-- ---- between tags

pub plain_gap : (q : ℕ) → Gap q → (s : List ℕ) → plainly q s ≡ pass (many (one blank)) (choices plainly (first_word q) (word_count q)) s
plain_gap q g s =
    ap forget (g s)
    ∙ forget_pass (many (one blank)) (choices rest (first_word q) (word_count q)) s
    ∙ ap (λ (f : List ℕ → Only). pass (many (one blank)) f s) (fun_ext (λ u. forget_choices rest (first_word q) (word_count q) u))

pub plain_top : (s : List ℕ) → plainly 0 s ≡ pass (many (one blank)) (λ u. better (choices plainly (first_word 0) (word_count 0) u) (forget (at_end u))) s
plain_top s =
    ap forget (point_top s)
    ∙ forget_pass (many (one blank)) (λ u. better (choices rest (first_word 0) (word_count 0) u) (at_end u)) s
    ∙ ap (λ (f : List ℕ → Only). pass (many (one blank)) f s)
    (fun_ext (λ u. made_better (λ r. tt) (choices rest (first_word 0) (word_count 0) u) (at_end u)
    ∙ ap (λ (x : Only). better x (forget (at_end u))) (forget_choices rest (first_word 0) (word_count 0) u)))

-- ---- in a value

forget_value : {A : Type 0} (g : Grammar A) (f : A → List Event → List Event) (c : List ℕ) (k : List ℕ → Ahead) (s : List ℕ)
    → forget (told g f (expect c k) s) ≡ pass g (expect c (λ u. forget (k u))) s
forget_value g f c k s =
    forget_told g f (expect c k) s ∙ ap (λ (z : List ℕ → Only). pass g z s) (fun_ext (λ u. made_expect (λ r. tt) c k u))

pub forget_number : (q : ℕ) (c : List ℕ) (k : List ℕ → Ahead) (s : List ℕ)
    → forget (in_number q c k s) ≡ pass (one digit then many (one digit)) (expect c (λ u. forget (k u))) s
unfolding in_number
forget_number q c k s = forget_value (one digit then many (one digit)) (λ (p : ℕ × List ℕ). note q (decimal 0 (p.0 ∷ p.1))) c k s

pub forget_string : (q : ℕ) (c : List ℕ) (k : List ℕ → Ahead) (s : List ℕ)
    → forget (in_string q c k s) ≡ pass (many character) (expect c (λ u. forget (k u))) s
unfolding in_string
forget_string q c k s = forget_value (many character) (note_text q) c k s

-- Passing over a text of a grammar and telling what is read: their laws, and the table of points in sight of them.
use mathlib.Core.Path.{◌≡◌, refl, sym, ap, ◌∙◌, fun_ext}
use mathlib.Core.Bool.{Bool, true}
use mathlib.Core.Option.{Option, none, some}
use Prim.Native.Nat.{ℕ}
use Prim.Native.String.{String}
use mathlib.Core.List.{List, [], ◌∷◌}
use lib.Dec.{T}
use lib.ListN.{drop}
use Rattle.octets.specs.Lists.{text, pick}
use Rattle.octets.proofs.Tests.{test_cases}
use Rattle.cuts.specs.Inner.Searching.{first}
use Rattle.grammar.specs.Grammar.{Grammar, word, one, span, ◌then◌, ◌or◌, option, many, into}
use Rattle.grammar.specs.Reading.{Read, wrong, later, better, expect, expect_one, up_to, read}
use Rattle.grammar.specs.Inner.Made.{made, shifted}
use Rattle.grammar.proofs.Sound.{solid, sound}
use Rattle.grammar.proofs.Better.{better_none, none_better, better_assoc, read_better, many_unrolled}
use Rattle.grammar.proofs.Made.{made_read, made_made, made_same}
use Rattle.scan.specs.Table.{◌skip◌, ◌close◌, blank, gap, open_tag, end_tag, digit, decimal, number, string, character, at_most_two, listed}
use Rattle.scan.specs.Inner.Points.{run}
use Rattle.scan.specs.Inner.Events.{note, note_text, if_any, each_of, first_and}
use Rattle.scan.specs.Inner.Rests.{pass, told, Ahead, in_number, in_string}

module _ {R : Type 0} where
  -- ---- laws of passing

  pub pass_many : {A : Type 0} (g : Grammar A) → T (solid g) → T (sound g) → (k : List ℕ → Read R) (s : List ℕ)
      → pass (many g) k s ≡ better (pass g (pass (many g) k) s) (k s)
  unfolding pass
  pass_many g t u k s = many_unrolled g t u (λ l. k) s

  pub pass_better : {A : Type 0} (g : Grammar A) (k l : List ℕ → Read R) (s : List ℕ)
      → better (pass g k s) (pass g l s) ≡ pass g (λ u. better (k u) (l u)) s
  unfolding pass
  pass_better g k l s = sym (read_better g (λ a. k) (λ a. l) s)

  -- ---- laws of telling

  pub told_into : {A B : Type 0} (h : A → B) (g : Grammar A) (f : B → R → R) (k : List ℕ → Read R) → told (into h g) f k ≡ told g (λ a. f (h a)) k
  unfolding told read
  told_into h g f k = refl

  pub told_or : {A : Type 0} (g h : Grammar A) (f : A → R → R) (k : List ℕ → Read R) (s : List ℕ) → told (g or h) f k s ≡ better (told g f k s) (told h f k s)
  unfolding told read
  told_or g h f k s = refl

  -- what is read first is told before what is read then
  told_in : {A : Type 0} (g : Grammar A) (e : R → R) (f : A → R → R) (k : List ℕ → Read R) (s : List ℕ)
      → read g (λ a u. made (λ r. e (f a r)) (k u)) s ≡ made e (told g f k s)
  unfolding told
  told_in {A} g e f k s =
      ap (λ (l : A → List ℕ → Read R). read g l s) (fun_ext (λ a. fun_ext (λ u. sym (made_made e (f a) (k u)))))
      ∙ sym (made_read e g (λ a u. made (f a) (k u)) s)

  pub told_pair : {A B : Type 0} (g : Grammar A) (h : Grammar B) (f : A → R → R) (f' : B → R → R) (k : List ℕ → Read R)
      → told (g then h) (λ (p : A × B) r. f p.0 (f' p.1 r)) k ≡ told g f (told h f' k)
  unfolding told read
  told_pair {A} g h f f' k =
      fun_ext (λ s. ap (λ (l : A → List ℕ → Read R). read g l s) (fun_ext (λ a. fun_ext (λ u. told_in h (f a) f' k u))))

  pub told_close : {A B : Type 0} (g : Grammar A) (h : Grammar B) (f : A → R → R) (k : List ℕ → Read R) → told (g close h) f k ≡ told g f (pass h k)
  unfolding told pass read
  told_close {A} g h f k =
      fun_ext (λ s. ap (λ (l : A → List ℕ → Read R). read g l s) (fun_ext (λ a. fun_ext (λ u. sym (made_read (f a) h (λ b. k) u)))))

  pub told_skip : {A B : Type 0} (G : Grammar B) (g : Grammar A) (f : A → R → R) (k : List ℕ → Read R) → told (G skip g) f k ≡ pass G (told g f k)
  unfolding told pass read
  told_skip G g f k = refl

  -- the parts of an element, one after the other
  told_open : {A B : Type 0} (G : Grammar B) (o : List ℕ) (g : Grammar A) (f : A → R → R) (k : List ℕ → Read R)
      → told (G skip (word o skip g)) f k ≡ pass G (expect o (told g f k))
  unfolding told pass read
  told_open G o g f k = refl

  pass_tag : {B : Type 0} (G : Grammar B) (c : List ℕ) (k : List ℕ → Read R) → pass (G skip word c) k ≡ pass G (expect c k)
  unfolding pass read
  pass_tag G c k = refl

  pass_word : (c : List ℕ) (k : List ℕ → Read R) → pass (word c) k ≡ expect c k
  unfolding pass read
  pass_word c k = refl

  pub told_compound : {A B : Type 0} (G : Grammar B) (o c : List ℕ) (g : Grammar A) (f : A → R → R) (k : List ℕ → Read R)
      → told (G skip (word o skip (g close (G skip word c)))) f k ≡ pass G (expect o (told g f (pass G (expect c k))))
  told_compound G o c g f k =
      told_open G o (g close (G skip word c)) f k
      ∙ ap (λ (z : List ℕ → Read R). pass G (expect o z)) (told_close g (G skip word c) f k ∙ ap (told g f) (pass_tag G c k))

  pub told_simple : {A B : Type 0} (G : Grammar B) (o c : List ℕ) (g : Grammar A) (f : A → R → R) (k : List ℕ → Read R)
      → told (G skip (word o skip (g close word c))) f k ≡ pass G (expect o (told g f (expect c k)))
  told_simple G o c g f k =
      told_open G o (g close word c) f k
      ∙ ap (λ (z : List ℕ → Read R). pass G (expect o z)) (told_close g (word c) f k ∙ ap (told g f) (pass_word c k))

  pub told_three : {A B C : Type 0} (g : Grammar A) (h : Grammar B) (i : Grammar C) (f : A → R → R) (f' : B → R → R) (f'' : C → R → R) (k : List ℕ → Read R)
      → told (g then h then i) (λ (p : A × (B × C)) r. f p.0 (f' p.1.0 (f'' p.1.1 r))) k ≡ told g f (told h f' (told i f'' k))
  told_three {B = B} {C = C} g h i f f' f'' k =
      told_pair g (h then i) f (λ (p : B × C) r. f' p.0 (f'' p.1 r)) k ∙ ap (told g f) (told_pair h i f' f'' k)

  pub told_four : {A B C D : Type 0} (g : Grammar A) (h : Grammar B) (i : Grammar C) (j : Grammar D)
      (f : A → R → R) (f' : B → R → R) (f'' : C → R → R) (f''' : D → R → R) (k : List ℕ → Read R)
      → told (g then h then i then j) (λ (p : A × (B × (C × D))) r. f p.0 (f' p.1.0 (f'' p.1.1.0 (f''' p.1.1.1 r)))) k
      ≡ told g f (told h f' (told i f'' (told j f''' k)))
  told_four {B = B} {C = C} {D = D} g h i j f f' f'' f''' k =
      told_pair g (h then i then j) f (λ (p : B × (C × D)) r. f' p.0 (f'' p.1.0 (f''' p.1.1 r))) k
      ∙ ap (told g f) (told_three h i j f' f'' f''' k)

  pub told_option : {A : Type 0} (g : Grammar A) (f : A → R → R) (k : List ℕ → Read R) (s : List ℕ)
      → told (option g) (if_any f) k s ≡ better (told g f k s) (k s)
  unfolding told read
  told_option g f k s = ap (better (told g f k s)) (made_same (k s))

  pub told_many : {A : Type 0} (g : Grammar A) → T (solid g) → T (sound g) → (f : A → R → R) (k : List ℕ → Read R) (s : List ℕ)
      → told (many g) (each_of f) k s ≡ better (told g f (told (many g) (each_of f) k) s) (k s)
  unfolding told
  told_many {A} g t u f k s =
      many_unrolled g t u (λ l v. made (each_of f l) (k v)) s
      ∙ ap (λ (l : A → List ℕ → Read R). better (read g l s) (made (λ r. r) (k s))) (fun_ext (λ a. fun_ext (λ v. told_in (many g) (f a) (each_of f) k v)))
      ∙ ap (better (told g f (told (many g) (each_of f) k) s)) (made_same (k s))

  two_told : {A : Type 0} (f f' : A → R → R) (o : Option (A × Option A)) (r : R)
      → first_and f f' (listed o) r ≡ if_any (λ (p : A × Option A) x. f p.0 (if_any f' p.1 x)) o r
  two_told f f' none r = refl
  two_told f f' (some (a, none)) r = refl
  two_told f f' (some (a, some b)) r = refl

  pub told_twice : {A : Type 0} (g : Grammar A) (f f' : A → R → R) (k : List ℕ → Read R) (s : List ℕ)
      → told (at_most_two g) (first_and f f') k s ≡ better (told g f (told (option g) (if_any f') k) s) (k s)
  told_twice {A} g f f' k s =
      ap (λ (z : List ℕ → Read R). z s) (told_into listed (option (g then option g)) (first_and f f') k)
      ∙ ap (λ (e : Option (A × Option A) → R → R). told (option (g then option g)) e k s) (fun_ext (λ o. fun_ext (λ r. two_told f f' o r)))
      ∙ told_option (g then option g) (λ (p : A × Option A) x. f p.0 (if_any f' p.1 x)) k s
      ∙ ap (λ (z : List ℕ → Read R). better (z s) (k s)) (told_pair g (option g) f (if_any f') k)

pub told_number : (name : String) (q : ℕ) (k : List ℕ → Ahead)
    → told (number name) (note q) k ≡ pass gap (expect (open_tag name) (in_number q (end_tag name) k))
unfolding in_number
told_number name q k =
    told_simple gap (open_tag name) (end_tag name) (into (λ (p : ℕ × List ℕ). decimal 0 (p.0 ∷ p.1)) (one digit then many (one digit))) (note q) k
    ∙ ap (λ (z : List ℕ → Ahead). pass gap (expect (open_tag name) z))
    (told_into (λ (p : ℕ × List ℕ). decimal 0 (p.0 ∷ p.1)) (one digit then many (one digit)) (note q) (expect (end_tag name) k))

pub told_string : (name : String) (q : ℕ) (k : List ℕ → Ahead)
    → told (string name) (note_text q) k ≡ pass gap (expect (open_tag name) (in_string q (end_tag name) k))
unfolding in_string
told_string name q k = told_simple gap (open_tag name) (end_tag name) (many character) (note_text q) k

module _ {R : Type 0} where
  -- none or more bytes of a set or texts of h: none or more bytes, and then a text of h and so on, or the rest
  module _ {A : Type 0} (o h : Grammar A) (p : ℕ → Bool) (so : T (solid (o or h))) (sd : T (sound (o or h))) (sp : T (sound (one p)))
      (e : (k : List ℕ → Read R) (s : List ℕ) → pass o k s ≡ expect_one p (λ b. k) s) (k : List ℕ → Read R) where
    abbrev all : List ℕ → Read R
    all = pass (many (o or h)) k

    abbrev behind : List ℕ → Read R
    behind = λ u. better (pass h all u) (k u)

    skip_one : (s : List ℕ) → expect_one p (λ b. all) s ≡ expect_one p (λ b. pass (many (one p)) behind) s → all s ≡ pass (many (one p)) behind s
    unfolding pass read solid sound
    skip_one s q =
        pass_many (o or h) so sd k s
        ∙ ap (λ (x : Read R). better (better x (pass h all s)) (k s)) (e all s ∙ q)
        ∙ better_assoc (expect_one p (λ b. pass (many (one p)) behind) s) (pass h all s) (k s)
        ∙ sym (pass_many (one p) tt sp behind s)

    pub skipping : (s : List ℕ) → all s ≡ pass (many (one p)) behind s
    skipping [] = skip_one [] refl
    skipping (b ∷ s) = skip_one (b ∷ s) (ap (λ (x : Read R). pick (p b) (later x) (wrong 0)) (skipping s))

  -- ---- the bytes of a set that a text begins with

  -- none of them begins the rest
  abbrev pub Shut : (ℕ → Bool) → (List ℕ → Read R) → Type 0
  Shut p k = (b : ℕ) (u : List ℕ) → p b ≡ true → k (b ∷ u) ≡ wrong 0

  pub pass_run : (p : ℕ → Bool) → T (sound (one p)) → (k : List ℕ → Read R) → Shut p k → (s : List ℕ)
      → pass (many (one p)) k s ≡ shifted (run p s) (k (drop (run p s) s))
  unfolding pass read solid sound first
  pass_run p sp k c [] = pass_many (one p) tt sp k [] ∙ none_better (k [])
  pass_run p sp k c (b ∷ s) =
      pass_many (one p) tt sp k (b ∷ s)
      ∙ test_cases (p b)
      (λ e. rw e (rw (c b s e) (better_none (later (pass (many (one p)) k s)) ∙ ap later (pass_run p sp k c s))))
      (λ e. rw e (none_better (k (b ∷ s))))

  -- ---- several ways behind a gap are one gap and then several ways

  abbrev pub joined : (List ℕ → Read R) → List (List ℕ → Read R) → List ℕ → Read R
  joined a [] s = pass gap a s
  joined a (b ∷ l) s = better (pass gap a s) (joined b l s)

  abbrev pub merged : (List ℕ → Read R) → List (List ℕ → Read R) → List ℕ → Read R
  merged a [] u = better (a u) (wrong 0)
  merged a (b ∷ l) u = better (a u) (merged b l u)

  pub ways : (a : List ℕ → Read R) (l : List (List ℕ → Read R)) (s : List ℕ) → joined a l s ≡ pass gap (merged a l) s
  ways a [] s = ap (λ (k : List ℕ → Read R). pass gap k s) (fun_ext (λ u. sym (better_none (a u))))
  ways a (b ∷ l) s = ap (better (pass gap a s)) (ways b l s) ∙ pass_better gap a (merged b l) s

  -- a gap is blanks, and then a comment and so on, or the rest
  pub gap_open : (r k : List ℕ → Read R) → ((s : List ℕ) → r s ≡ pass gap k s) → (s : List ℕ)
      → r s ≡ pass (many (one blank)) (λ u. better (expect (text "<!--") (up_to (text "-->") [] r) u) (k u)) s
  unfolding pass read solid sound
  gap_open r k e s =
      e s
      ∙ skipping (into (λ b. tt) (one blank)) (span (text "<!--") (text "-->")) blank tt tt tt (λ l u. refl) k s
      ∙ ap (λ (f : List ℕ → Read R). pass (many (one blank)) (λ u. better (expect (text "<!--") (up_to (text "-->") [] f) u) (k u)) s) (sym (fun_ext e))

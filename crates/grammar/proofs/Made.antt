-- What is read may be made into something else at the end, or where it is read.
use mathlib.Core.Path.{◌≡◌, refl, ap, ap₂, ◌∙◌, fun_ext}
use mathlib.Core.Bool.{Bool, true, false}
use mathlib.Core.Option.{none, some}
use Prim.Native.Nat.{ℕ, zero, suc}
use mathlib.Core.List.{List, [], ◌∷◌}
use lib.Dec.{eqb}
use lib.ListN.{length}
use Rattle.octets.specs.Lists.{pick}
use Rattle.grammar.specs.Grammar.{Grammar, word, one, span, ◌then◌, ◌or◌, option, many, into, ended}
use Rattle.grammar.specs.Reading.{Read, read_as, wrong, twice, later, better, expect, expect_one, up_to, repeat, read}
use Rattle.grammar.specs.Inner.Made.{made, forget}

module _ {R Q : Type 0} (how : R → Q) where
  pub made_better : (x y : Read R) → made how (better x y) ≡ better (made how x) (made how y)
  made_better (read_as r) (read_as q) = refl
  made_better (read_as r) (wrong n) = refl
  made_better (read_as r) twice = refl
  made_better (wrong m) (read_as r) = refl
  made_better (wrong m) (wrong n) = refl
  made_better (wrong m) twice = refl
  made_better twice y = refl

  pub made_later : (x : Read R) → made how (later x) ≡ later (made how x)
  made_later (read_as r) = refl
  made_later (wrong n) = refl
  made_later twice = refl

  made_pick : (b : Bool) (x y : Read R) → made how (pick b x y) ≡ pick b (made how x) (made how y)
  made_pick true x y = refl
  made_pick false x y = refl

  made_step : (b : Bool) (x : Read R) → made how (pick b (later x) (wrong 0)) ≡ pick b (later (made how x)) (wrong 0)
  made_step true x = made_later x
  made_step false x = refl

  pub made_expect : (w : List ℕ) (k : List ℕ → Read R) (s : List ℕ) → made how (expect w k s) ≡ expect w (λ u. made how (k u)) s
  made_expect [] k s = refl
  made_expect (c ∷ w) k [] = refl
  made_expect (c ∷ w) k (b ∷ s) =
      made_step (eqb c b) (expect w k s) ∙ ap (λ (x : Read Q). pick (eqb c b) (later x) (wrong 0)) (made_expect w k s)

  made_one : (p : ℕ → Bool) (k : ℕ → List ℕ → Read R) (s : List ℕ) → made how (expect_one p k s) ≡ expect_one p (λ b u. made how (k b u)) s
  made_one p k [] = refl
  made_one p k (b ∷ s) = made_step (p b) (k b s)

  pub made_up_to : (w p : List ℕ) (k : List ℕ → Read R) (s : List ℕ) → made how (up_to w p k s) ≡ up_to w p (λ u. made how (k u)) s
  made_up_to w p k [] = refl
  made_up_to w p k (b ∷ s) =
      made_later (pick (ended w (b ∷ p)) (k s) (up_to w (b ∷ p) k s))
      ∙ ap later (made_pick (ended w (b ∷ p)) (k s) (up_to w (b ∷ p) k s)
      ∙ ap (λ (x : Read Q). pick (ended w (b ∷ p)) (made how (k s)) x) (made_up_to w (b ∷ p) k s))

  made_repeat : {A : Type 0} (r : (A → List ℕ → Read R) → List ℕ → Read R) (q : (A → List ℕ → Read Q) → List ℕ → Read Q)
      → ((k : A → List ℕ → Read R) (s : List ℕ) → made how (r k s) ≡ q (λ a u. made how (k a u)) s)
      → (n : ℕ) (k : List A → List ℕ → Read R) (s : List ℕ) → made how (repeat r n k s) ≡ repeat q n (λ l u. made how (k l u)) s
  made_repeat r q e zero k s = refl
  made_repeat {A} r q e (suc n) k s =
      made_better (r (λ a. repeat r n (λ l. k (a ∷ l))) s) (k [] s)
      ∙ ap (λ (x : Read Q). better x (made how (k [] s)))
      (e (λ a. repeat r n (λ l. k (a ∷ l))) s
      ∙ ap (λ (f : A → List ℕ → Read Q). q f s) (fun_ext (λ a. fun_ext (λ u. made_repeat r q e n (λ l. k (a ∷ l)) u))))

  pub made_read : {A : Type 0} (g : Grammar A) (k : A → List ℕ → Read R) (s : List ℕ) → made how (read g k s) ≡ read g (λ a u. made how (k a u)) s
  unfolding read
  made_read (word w) k s = made_expect w (k tt) s
  made_read (one p) k s = made_one p k s
  made_read (span o c) k s =
      made_expect o (up_to c [] (k tt)) s
      ∙ ap (λ (f : List ℕ → Read Q). expect o f s) (fun_ext (λ u. made_up_to c [] (k tt) u))
  made_read (◌then◌ {A} {B} g h) k s =
      made_read g (λ a. read h (λ b. k (a, b))) s
      ∙ ap (λ (f : A → List ℕ → Read Q). read g f s) (fun_ext (λ a. fun_ext (λ u. made_read h (λ b. k (a, b)) u)))
  made_read (g or h) k s = made_better (read g k s) (read h k s) ∙ ap₂ better (made_read g k s) (made_read h k s)
  made_read (option g) k s =
      made_better (read g (λ a. k (some a)) s) (k none s)
      ∙ ap (λ (x : Read Q). better x (made how (k none s))) (made_read g (λ a. k (some a)) s)
  made_read (many g) k s = made_repeat (read g) (read g) (λ l t. made_read g l t) (suc (length s)) k s
  made_read (into f g) k s = made_read g (λ a. k (f a)) s

-- ---- made twice, made the same, forgotten

pub made_made : {R Q P : Type 0} (f : Q → P) (g : R → Q) (x : Read R) → made f (made g x) ≡ made (λ r. f (g r)) x
made_made f g (read_as r) = refl
made_made f g (wrong n) = refl
made_made f g twice = refl

pub made_same : {R : Type 0} (x : Read R) → made (λ r. r) x ≡ x
made_same (read_as r) = refl
made_same (wrong n) = refl
made_same twice = refl

pub forget_made : {R Q : Type 0} (f : R → Q) (x : Read R) → forget (made f x) ≡ forget x
forget_made f (read_as r) = refl
forget_made f (wrong n) = refl
forget_made f twice = refl

-- The sets of the atoms, as the code draws them.
use mathlib.Core.Path.{◌≡◌, refl, sym, ap, ◌∙◌}
use mathlib.Core.Bool.{Bool, true, false, not, ◌&&◌, ◌||◌, or-false, or_assoc, and-true, true≢false}
use mathlib.Core.List.{List, [], ◌∷◌, ◌++◌}
use Prim.Native.Nat.{ℕ}
use lib.Dec.{eqb}
use lib.ListN.{replicate}
use Rattle.octets.specs.Bytes.{within}
use Rattle.octets.specs.Lists.{some_of}
use Rattle.basic.specs.Pattern.{Range, Atom, byte, dot, list, in_range}
use Rattle.basic.specs.Inner.Drawn.{drawn}
use Rattle.basic.specs.Inner.Sets.{words}
use Rattle.basic.proofs.Words.{words_ext, no_words}

-- where no sets are asked for, all are alike
pub draw_off : (build : Bool) → build ≡ false → (a a' : Atom) → drawn build a ≡ drawn build a'
unfolding drawn
draw_off true e a a' = absurd (true≢false e)
draw_off false e a a' = refl

pub none_off : (build : Bool) → build ≡ false → (a : Atom) → replicate 4 0 ≡ drawn build a
unfolding drawn
none_off true e a = absurd (true≢false e)
none_off false e a = no_words

some_snoc : (f : Range → Bool) (l : List Range) (r : Range) → (some_of f l || f r) ≡ some_of f (l ++ (r ∷ []))
some_snoc f [] r = sym (or-false (f r))
some_snoc f (x ∷ l) r = or_assoc (f x) (some_of f l) (f r) ∙ ap (λ (t : Bool). f x || t) (some_snoc f l r)

module _ {set r : List ℕ} where
  pub draw_range : (lo hi : ℕ) (build : Bool) → build ≡ true → ((f : ℕ → Bool) → set ≡ words f → r ≡ words (λ b. f b || within lo hi b))
      → (l : List Range) → set ≡ drawn build (list false l) → r ≡ drawn build (list false (l ++ (record { lo = lo; hi = hi } ∷ [])))
  unfolding drawn
  draw_range lo hi true e add l s =
      let x : Range = record { lo = lo; hi = hi } in
      add (λ b. some_of (in_range b) l) s
      ∙ words_ext (λ b. some_of (in_range b) l || in_range b x) (λ b. some_of (in_range b) (l ++ (x ∷ []))) (λ b h. some_snoc (in_range b) l x)
  draw_range lo hi false e add l s = absurd (true≢false (sym e))

  pub draw_others : (build neg : Bool) → (build && neg) ≡ true → ((f : ℕ → Bool) → set ≡ words f → r ≡ words (λ b. not (eqb b 0) && not (f b)))
      → (l : List Range) → set ≡ drawn build (list false l) → r ≡ drawn build (list neg l)
  unfolding drawn
  draw_others true true e flip l s = flip (λ b. some_of (in_range b) l) s
  draw_others true false e flip l s = absurd (true≢false (sym e))
  draw_others false neg e flip l s = absurd (true≢false (sym e))

pub draw_same : (set : List ℕ) (build neg : Bool) → (build && neg) ≡ false → (l : List Range) → set ≡ drawn build (list false l) → set ≡ drawn build (list neg l)
draw_same set true true e l s = absurd (true≢false e)
draw_same set true false e l s = s
draw_same set false neg e l s = s ∙ draw_off false refl (list false l) (list neg l)

pub draw_byte : (r : List ℕ) (c : ℕ) (build : Bool) → build ≡ true → r ≡ words (eqb c) → r ≡ drawn build (byte c)
unfolding drawn
draw_byte r c true e q = q
draw_byte r c false e q = absurd (true≢false (sym e))

pub draw_dot : (r : List ℕ) (build : Bool) → build ≡ true → ((f : ℕ → Bool) → replicate 4 0 ≡ words f → r ≡ words (λ b. not (eqb b 0) && not (f b))) → r ≡ drawn build dot
unfolding drawn
draw_dot r true e flip =
    flip (λ b. false) no_words ∙ words_ext (λ b. not (eqb b 0) && true) (λ b. not (eqb b 0)) (λ b h. and-true (not (eqb b 0)))
draw_dot r false e flip = absurd (true≢false (sym e))

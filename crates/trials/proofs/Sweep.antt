-- A loop over a list that asks whether some element passes, and sums: what remains, always.
use mathlib.Core.Bool.{Bool, false, ◌||◌, or-false, or_assoc}
use mathlib.Core.Path.{◌≡◌, refl, sym, ap, ap₂, ◌∙◌}
use Prim.Native.Nat.{ℕ, ◌+◌}
use native.Mathlib.Nat.{zero-add, add-zero, add_assoc}
use mathlib.Core.List.{List, [], ◌∷◌}
use Rattle.octets.specs.Lists.{some_of, total}
use Rattle.trials.specs.declared.Verdict.{Verdict}

pub record Swept {A : Type 0} (f : A → Bool) (g : A → ℕ) (rest : List A) (fits : Bool) (trials : ℕ) (whole : Verdict) : Type 0 where
  pub fit : (fits || some_of f rest) ≡ whole.fits
  pub tried : trials + total g rest ≡ whole.trials

module _ {A : Type 0} (f : A → Bool) (g : A → ℕ) where
  pub swept_first : (l : List A) → Swept f g l false 0 (record { fits = some_of f l; trials = total g l })
  swept_first l = record { fit = refl; tried = zero-add (total g l) }

  module _ (rest : List A) (fits : Bool) (trials : ℕ) (whole : Verdict) (w : Swept f g rest fits trials whole) where
    pub swept_next : (a : A) (later : List A) (m : Bool) (k : ℕ) → rest ≡ a ∷ later → m ≡ f a → k ≡ g a → Swept f g later (fits || m) (trials + k) whole
    swept_next a later m k e em ek = record {
      fit = ap (λ (b : Bool). (fits || b) || some_of f later) em ∙ or_assoc fits (f a) (some_of f later) ∙ sym (ap (λ (l : List A). fits || some_of f l) e) ∙ w.fit;
      tried = ap (λ (j : ℕ). trials + j + total g later) ek ∙ add_assoc trials (g a) (total g later) ∙ sym (ap (λ (l : List A). trials + total g l) e) ∙ w.tried;
    }

    pub swept_end : rest ≡ [] → ◌≡◌ {A = Verdict} (record { fits = fits; trials = trials }) whole
    swept_end e =
        ap₂ (λ (b : Bool) (j : ℕ). record { fits = b; trials = j })
        (sym (or-false fits) ∙ sym (ap (λ (l : List A). fits || some_of f l) e) ∙ w.fit)
        (sym (add-zero trials) ∙ sym (ap (λ (l : List A). trials + total g l) e) ∙ w.tried)

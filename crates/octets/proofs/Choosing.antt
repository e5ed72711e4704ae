-- What is picked, once the test is known.
use mathlib.Core.Path.{◌≡◌, sym, ap, ◌∙◌}
use mathlib.Core.Bool.{Bool, true, false, ◌&&◌, ◌||◌}
use Rattle.octets.specs.Lists.{pick}

module _ {A : Type 0} (c : Bool) (r x y : A) where
  pub picks_first : c ≡ true → r ≡ x → r ≡ pick c x y
  picks_first e q = q ∙ ap (λ (t : Bool). pick t x y) (sym e)

  pub picks_second : c ≡ false → r ≡ y → r ≡ pick c x y
  picks_second e q = q ∙ ap (λ (t : Bool). pick t x y) (sym e)

-- the first of two tests, or else the second
pub or_first : (a b r : Bool) → r ≡ a → r ≡ true → true ≡ (a || b)
or_first a b r e q = ap (λ (t : Bool). t || b) (sym q ∙ e)

pub or_second : (a b r : Bool) → r ≡ a → r ≡ false → b ≡ (a || b)
or_second a b r e q = ap (λ (t : Bool). t || b) (sym q ∙ e)

-- the second of two tests, where the first holds
pub and_second : (a b : Bool) → a ≡ true → b ≡ (a && b)
and_second a b e = ap (λ (t : Bool). t && b) (sym e)

pub and_neither : (a b : Bool) → a ≡ false → false ≡ (a && b)
and_neither a b e = ap (λ (t : Bool). t && b) (sym e)

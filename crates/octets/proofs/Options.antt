-- What holds of whatever is read, where something is read at all.
use mathlib.Core.Option.{Option, none, some}
use mathlib.Core.Path.{◌≡◌, refl}
use Rattle.octets.specs.Option.{◌>>=◌}

abbrev pub Ok : {A : Type 0} → (A → Type 0) → Option A → Type 0
Ok P none = Unit {0}
Ok P (some a) = P a

module _ {A B : Type 0} where
  pub ok_then : (P : B → Type 0) (Q : A → Type 0) (o : Option A) (f : A → Option B) → Ok Q o → ((a : A) → Q a → Ok P (f a)) → Ok P (o >>= f)
  ok_then P Q none f q h = tt
  ok_then P Q (some a) f q h = h a q

  -- two ways to go on that agree on what was read
  pub bind_ext : (Q : A → Type 0) (o : Option A) (f g : A → Option B) → Ok Q o → ((a : A) → Q a → f a ≡ g a) → (o >>= f) ≡ (o >>= g)
  bind_ext Q none f g q h = refl
  bind_ext Q (some a) f g q h = h a q

-- nothing is asked of what is read
pub any : {A : Type 0} (o : Option A) → Ok (λ a. Unit {0}) o
any none = tt
any (some a) = tt

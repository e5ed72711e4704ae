-- How long a text at least is, by what is read from it.
use mathlib.Core.Path.{◌≡◌, ap, ◌∙◌, subst⁻¹}
use mathlib.Core.Option.{Option, none, some}
use mathlib.Core.Logic.{inl, inr}
use Prim.Native.Nat.{ℕ, ◌+◌, ◌≤◌}
use native.Mathlib.Omega.{arith}
use mathlib.Core.Bool.{Bool}
use mathlib.Core.List.{List, [], ◌∷◌, ◌++◌}
use lib.ListN.{length, length-append}
use Rattle.octets.specs.Lists.{total}
use Rattle.grammar.specs.Grammar.{Grammar, word, one, ◌then◌, ◌or◌, option, many, into, Member}

-- a text from which a is read has at least f a bytes
abbrev pub Costs : {A : Type 0} → Grammar A → (A → ℕ) → Type 0
Costs {A} g f = (s : List ℕ) (a : A) → Member g s a → f a ≤ length s

pub costs_less : {A : Type 0} (g : Grammar A) (f h : A → ℕ) → ((a : A) → f a ≤ h a) → Costs g h → Costs g f
costs_less g f h l c s a m = omega (arith, l a, c s a m)

pub costs_nothing : {A : Type 0} (g : Grammar A) → Costs g (λ a. 0)
costs_nothing g s a m = omega arith

pub costs_word : (w : List ℕ) → Costs (word w) (λ u. length w)
unfolding Member
costs_word w s u m = omega (arith, ap length m)

pub costs_one : (p : ℕ → Bool) → Costs (one p) (λ b. 1)
unfolding Member
costs_one p s b m = omega (arith, ap length m.0)

joined_long : (s u v : List ℕ) → s ≡ u ++ v → length s ≡ length u + length v
joined_long s u v e = ap length e ∙ length-append u v

pub costs_then : {A B : Type 0} (g : Grammar A) (h : Grammar B) (f : A → ℕ) (k : B → ℕ) → Costs g f → Costs h k → Costs (g then h) (λ p. f p.0 + k p.1)
unfolding Member
costs_then g h f k c d s p m = omega (arith, joined_long s m.0 m.1 m.2, c m.0 p.0 m.3, d m.1 p.1 m.4)

pub costs_or : {A : Type 0} (g h : Grammar A) (f : A → ℕ) → Costs g f → Costs h f → Costs (g or h) f
unfolding Member
costs_or g h f c d s a (inl m) = c s a m
costs_or g h f c d s a (inr m) = d s a m

pub costs_option : {A : Type 0} (g : Grammar A) (f : Option A → ℕ) → f none ≡ 0 → Costs g (λ a. f (some a)) → Costs (option g) f
unfolding Member
costs_option g f e c s none m = omega (arith, e)
costs_option g f e c s (some a) m = c s a m

pub costs_many : {A : Type 0} (g : Grammar A) (f : A → ℕ) → Costs g f → Costs (many g) (total f)
unfolding Member
costs_many g f c s [] m = omega arith
costs_many g f c s (a ∷ l) m =
    omega (arith, joined_long s m.0 m.1 m.2, c m.0 a m.3, costs_many g f c m.1 l m.4)

pub costs_into : {A B : Type 0} (g : Grammar A) (e : A → B) (f : B → ℕ) → Costs g (λ a. f (e a)) → Costs (into e g) f
unfolding Member
costs_into g e f c s b m = subst⁻¹ (λ (x : _). f x ≤ length s) m.1 (c s m.0 m.2)

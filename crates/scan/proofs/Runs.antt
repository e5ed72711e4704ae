-- The bytes that a point passes over.
use mathlib.Core.Path.{◌≡◌, refl, sym, ap, ◌∙◌}
use mathlib.Core.Bool.{Bool, true, false, not}
use native.Mathlib.Omega.{arith}
use Prim.Native.Nat.{ℕ, ◌+◌, ◌≤◌, ◌<◌}
use mathlib.Core.List.{List}
use lib.ListN.{length, get_or, drop}
use lib.Seq.{drop-cons}
use Rattle.scan.specs.Inner.Points.{outside, run}
use Rattle.scan.specs.declared.scanner.Kind.{Kind}
use Rattle.scan.specs.declared.scanner.Kind.TheVariants.{Blank, Digit, Text}
use Rattle.cuts.proofs.Search.{Came, came_next, came_found, came_end}

pub blank_apart : Blank ≡ Digit → ⊥
blank_apart e = cc

pub text_apart : Text ≡ Digit → ⊥
text_apart e = cc

-- a number's digits, or other bytes
pub digit_cases {ℓ} : {X : Type ℓ} (k : Kind) → (k ≡ Digit → X) → ((k ≡ Digit → ⊥) → X) → X
digit_cases Blank f g = g blank_apart
digit_cases Digit f g = f refl
digit_cases Text f g = g text_apart

-- ---- the loop that passes over bytes of a set: it looks for the first that is none

module _ (p : ℕ → Bool) (s : List ℕ) (at : ℕ) where
  abbrev pub Running : ℕ → Type 0
  Running i = Came (outside p) s (at + run p (drop at s)) i

  pub running_first : at ≤ length s → Running at
  running_first h = record { inside = h; same = refl }

  test_at : (i : ℕ) → i < length s → outside p (drop i s) ≡ not (p (get_or s i 0))
  test_at i h = rw (drop-cons s i 0 h)

  pub running_end : (i : ℕ) → Running i → length s ≤ i → length s ≡ at + run p (drop at s)
  running_end i r h = let e : length s ≡ i = omega (arith, r.inside) in e ∙ came_end (outside p) s (at + run p (drop at s)) i r h

  pub running_stop : (i : ℕ) → Running i → i < length s → (t : Bool) → t ≡ p (get_or s i 0) → not t ≡ true → i ≡ at + run p (drop at s)
  running_stop i r h t e n = came_found (outside p) s (at + run p (drop at s)) i r h (test_at i h ∙ ap not (sym e) ∙ n)

  pub running_next : (i : ℕ) → Running i → i < length s → (t : Bool) → t ≡ p (get_or s i 0) → not t ≡ false → Running (i + 1)
  running_next i r h t e n = came_next (outside p) s (at + run p (drop at s)) i r h (test_at i h ∙ ap not (sym e) ∙ n)

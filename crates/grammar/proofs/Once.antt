-- Readings that are not in two ways.
use Prim.Native.Nat.{ℕ, zero, suc, ◌≤◌, ◌<◌}
use native.Mathlib.Omega.{arith}
use mathlib.Core.List.{List, [], ◌∷◌}
use lib.ListN.{length}
use Rattle.octets.specs.Lists.{pick}
use Rattle.octets.proofs.Tests.{either}
use Rattle.grammar.specs.Grammar.{ended}
use Rattle.grammar.specs.Reading.{Read, read_as, wrong, twice, later, up_to}
use Rattle.grammar.specs.Inner.Made.{shifted}

module _ {R : Type 0} where
  abbrev pub Once : Read R → Type 0
  Once (read_as r) = Unit {0}
  Once (wrong n) = Unit {0}
  Once twice = ⊥

  once_later : (x : Read R) → Once x → Once (later x)
  once_later (read_as r) h = tt
  once_later (wrong n) h = tt
  once_later twice h = h

  pub once_shifted : (n : ℕ) (x : Read R) → Once x → Once (shifted n x)
  once_shifted zero x h = h
  once_shifted (suc n) x h = once_later (shifted n x) (once_shifted n x h)

  -- up to the first w, where what is shorter is read once
  pub once_up_to : (w p : List ℕ) (k : List ℕ → Read R) (n : ℕ) → ((v : List ℕ) → length v < n → Once (k v))
      → (t : List ℕ) → length t ≤ n → Once (up_to w p k t)
  once_up_to w p k n f [] h = tt
  once_up_to w p k n f (b ∷ t) h =
      once_later (pick (ended w (b ∷ p)) (k t) (up_to w (b ∷ p) k t))
      (either Once (ended w (b ∷ p)) (k t) (up_to w (b ∷ p) k t) (f t (omega (arith, h))) (once_up_to w (b ∷ p) k n f t (omega (arith, h))))

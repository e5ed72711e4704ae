-- What is found from a place on, and nothing past the end: the laws of every `..-from`, once.
use mathlib.Core.Bool.{Bool}
use mathlib.Core.Path.{◌≡◌, sym, ap, ◌∙◌}
use mathlib.Core.List.{List, [], ◌∷◌}
use Prim.Native.Nat.{ℕ, zero, suc, ◌+◌, ◌≤◌, ◌<◌, zero-le}
use native.Mathlib.Nat.{zero-add, suc-add, not-suc-le-zero, le_of_suc-le-suc}
use lib.ListN.{length, drop}
use lib.Dec.{leb, leb-suc-suc}
use borrow.Author.Tests.{le-leb, lt-leb}
use Rattle.octets.specs.Lists.{pick}

module _ {X : Type 0} (found : List ℕ → List X) where
  abbrev pub from : List ℕ → ℕ → List X
  from s p = pick (leb p (length s)) (found (drop p s)) []

  pub from_suc : (b : ℕ) (s : List ℕ) (p : ℕ) → from (b ∷ s) (suc p) ≡ from s p
  from_suc b s p = ap (λ (t : Bool). pick t (found (drop p s)) []) (leb-suc-suc p (length s))

  pub from_drop : (s : List ℕ) (p q : ℕ) → p ≤ length s → from (drop p s) q ≡ from s (p + q)
  from_drop s zero q h = ap (from s) (sym (zero-add q))
  from_drop [] (suc p) q h = absurd (not-suc-le-zero h)
  from_drop (b ∷ s) (suc p) q h = from_drop s p q (le_of_suc-le-suc h) ∙ sym (from_suc b s (p + q)) ∙ ap (from (b ∷ s)) (sym (suc-add p q))

  pub from_here : (s : List ℕ) (p : ℕ) → p ≤ length s → from s p ≡ found (drop p s)
  from_here s p h = ap (λ (t : Bool). pick t (found (drop p s)) []) (le-leb p (length s) h)

  pub from_start : (s : List ℕ) → from s 0 ≡ found s
  from_start s = from_here s 0 zero-le

  pub from_past : (s : List ℕ) (p : ℕ) → length s < p → from s p ≡ []
  from_past s p h = ap (λ (t : Bool). pick t (found (drop p s)) []) (lt-leb p (length s) h)

-- Two machines that agree on bytes begin parts at the same places.
use mathlib.Core.Path.{◌≡◌, sym, subst}
use mathlib.Core.Bool.{Bool}
use mathlib.Core.Logic.{◌↔◌}
use mathlib.Core.List.{List}
use Prim.Native.Nat.{ℕ, suc, ◌+◌, ◌<◌}
use lib.Dec.{T}
use lib.ListN.{drop}
use lib.Seq.{get_or-drop}
use Rattle.machine.specs.Inner.Machine.{Machine, Live, live_end, live_on, Starts, starts_none, starts_live, StartsAt, Bytes}

pub record Agree (M N : Machine) : Type 0 where
  pub first : (a : Bool) (p : ℕ) → M.first a p ≡ N.first a p
  pub last : (e : Bool) (p : ℕ) → M.last e p ≡ N.last e p
  pub follow : (p q : ℕ) → M.follow p q ≡ N.follow p q
  pub meets : (p b : ℕ) → b < 256 → M.meets p b ≡ N.meets p b
  pub null : (a e : Bool) → M.null a e ≡ N.null a e

pub agree_back : {M N : Machine} → Agree M N → Agree N M
agree_back g = record {
  first = λ a p. sym (g.first a p);
  last = λ e p. sym (g.last e p);
  follow = λ p q. sym (g.follow p q);
  meets = λ p b h. sym (g.meets p b h);
  null = λ a e. sym (g.null a e);
}

module _ {M N : Machine} (g : Agree M N) where
  live_agree : {p : ℕ} {l : List ℕ} → Live M p l → Bytes l → Live N p l
  live_agree (live_end {p = p} {b = b} m z) h = live_end (subst T (g.meets p b (h 0)) m) (subst T (g.last _ p) z)
  live_agree (live_on {p = p} {q = q} {b = b} m f v) h =
      live_on (subst T (g.meets p b (h 0)) m) (subst T (g.follow p q) f) (live_agree v (λ i. h (suc i)))

  starts_agree : {a : Bool} {l : List ℕ} → Starts M a l → Bytes l → Starts N a l
  starts_agree {a} (starts_none z) h = starts_none (subst T (g.null a _) z)
  starts_agree {a} (starts_live {p = p} f v) h = starts_live (subst T (g.first a p) f) (live_agree v h)

pub bytes_drop : (l : List ℕ) (j : ℕ) → Bytes l → Bytes (drop j l)
bytes_drop l j h i = subst (λ (n : ℕ). n < 256) (sym (get_or-drop j l i 0)) (h (j + i))

pub starts_at_agree : {M N : Machine} → Agree M N → (s : List ℕ) → Bytes s → (j : ℕ) → StartsAt M s j ↔ StartsAt N s j
starts_at_agree g s h j = (λ v. starts_agree g v (bytes_drop s j h), λ v. starts_agree (agree_back g) v (bytes_drop s j h))

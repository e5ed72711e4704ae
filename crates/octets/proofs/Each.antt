-- What holds of each element of a list.
use mathlib.Core.Path.{sym, subst}
use mathlib.Core.List.Memᴰ
use mathlib.Core.List.{List, [], ◌∷◌, ◌++◌, Memᴰ}
use Prim.Native.Nat.{ℕ, zero, suc}
use lib.ListN.{get_elem?}
use Rattle.octets.proofs.Options.{Ok}

abbrev pub Each : {A : Type 0} → (A → Type 0) → List A → Type 0
Each P [] = Unit {0}
Each P (a ∷ l) = P a × Each P l

module _ {A : Type 0} (P : A → Type 0) where
  -- one more at the end
  pub each_snoc : (l : List A) (a : A) → Each P l → P a → Each P (l ++ (a ∷ []))
  each_snoc [] a h p = (p, tt)
  each_snoc (b ∷ l) a h p = (h.0, each_snoc l a h.1 p)

  -- whatever stands at a place
  pub each_at : (l : List A) (i : ℕ) → Each P l → Ok P (get_elem? l i)
  each_at [] i h = tt
  each_at (a ∷ l) zero h = h.0
  each_at (a ∷ l) (suc i) h = each_at l i h.1

  -- every member
  pub each_member : (l : List A) (a : A) → Each P l → Memᴰ a l → P a
  each_member [] a h d = absurd (Memᴰ.not-nil d)
  each_member (b ∷ l) a h (Memᴰ.head e) = subst P (sym e) h.0
  each_member (b ∷ l) a h (Memᴰ.tail d) = each_member l a h.1 d

-- The memberships outside a trigger's rows may be left out at both ends: no order is asked of them.
use mathlib.Core.Bool.{Bool, false}
use mathlib.Core.Path.{◌≡◌, refl, sym, ap, ◌∙◌, subst}
use Prim.Native.Nat.{ℕ, zero, suc, ◌+◌, ◌-◌, ◌*◌, ◌<◌}
use native.Mathlib.Omega.{arith}
use mathlib.Core.List.{List, [], ◌∷◌, ◌++◌}
use Rattle.octets.specs.Lists.{pick, only}
use Rattle.profile.specs.Image.{Member}
use Rattle.profile.specs.Inner.Decoded.{member_from}
use Rattle.fitting.specs.Fitting.{by_form}
use Rattle.fitting.specs.Inner.Trigger.{members_at, of_rows, marked, fits_by, SameRows}
use Rattle.fitting.proofs.Members.{members_cons}

module _ (p : Member → Bool) where
  only_snoc_by : (l : List Member) (a : Member) → p a ≡ false → only p (l ++ (a ∷ [])) ≡ only p l
  only_snoc_by [] a e = ap (λ (b : Bool). pick b (a ∷ []) []) e
  only_snoc_by (m ∷ l) a e = ap (λ (r : List Member). pick (p m) (m ∷ r) r) (only_snoc_by l a e)

members_snoc : (s : List ℕ) (k at : ℕ) → members_at s at (suc k) ≡ members_at s at k ++ (member_from s (at + 4 * k) ∷ [])
unfolding members_at
members_snoc s zero at = let e : at ≡ at + 4 * 0 = omega arith in ap (λ (j : ℕ). member_from s j ∷ []) e
members_snoc s (suc k) at =
    let e : at + 4 + 4 * k ≡ at + 4 * suc k = omega arith in
    ap (λ (l : List Member). member_from s at ∷ l) (members_snoc s k (at + 4))
    ∙ ap (λ (j : ℕ). member_from s at ∷ (members_at s (at + 4) k ++ (member_from s j ∷ []))) e

module _ (first count : ℕ) (s : List ℕ) (at n : ℕ) where
  pub front_next : (i : ℕ) (r : Bool) → SameRows first count s at n (at + 4 * i) (n - i) → i < n → r ≡ of_rows first count (member_from s (at + 4 * i)) → r ≡ false
      → SameRows first count s at n (at + 4 * (i + 1)) (n - (i + 1))
  front_next i r w h e f = record {
    same = sym (ap (λ (b : Bool). pick b (member_from s (at + 4 * i) ∷ only (of_rows first count) (members_at s (at + 4 * (i + 1)) (n - (i + 1)))) (only (of_rows first count) (members_at s (at + 4 * (i + 1)) (n - (i + 1))))) (sym e ∙ f))
        ∙ sym (ap (only (of_rows first count)) (members_cons s at n i h)) ∙ w.same;
  }

  pub back_first : SameRows first count s at n at n
  back_first = record { same = refl }

  pub back_next : (k : ℕ) (r : Bool) → SameRows first count s at n at k → 0 < k → r ≡ of_rows first count (member_from s (at + 4 * (k - 1))) → r ≡ false → SameRows first count s at n at (k - 1)
  back_next k r w h e f =
      let j : k ≡ suc (k - 1) = omega arith in
      record {
        same = sym (only_snoc_by (of_rows first count) (members_at s at (k - 1)) (member_from s (at + 4 * (k - 1))) (sym e ∙ f))
            ∙ sym (ap (only (of_rows first count)) (ap (members_at s at) j ∙ members_snoc s (k - 1) at)) ∙ w.same;
      }

  pub back_same : (k j : ℕ) → SameRows first count s at n at k → k ≡ j → SameRows first count s at n at j
  back_same k j w e = subst (SameRows first count s at n at) e w

  pub fits_there : (form mask a b n2 : ℕ) (r : Bool) → SameRows first count s at n (at + 4 * a) n2 → SameRows first count s (at + 4 * a) n2 (at + 4 * a) b
      → r ≡ fits_by form mask first count (members_at s (at + 4 * a) b) → r ≡ fits_by form mask first count (members_at s at n)
  unfolding fits_by
  fits_there form mask a b n2 r w v e = e ∙ ap (λ (l : List Member). by_form form (marked mask first) l) (v.same ∙ w.same)

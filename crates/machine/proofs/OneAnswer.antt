-- What `leftmost`, `found` and `step` promise leaves one answer.
use mathlib.Core.Path.{◌≡◌, refl, sym, subst, ◌∙◌}
use mathlib.Core.Bool.{Bool, true, false}
use mathlib.Core.List.{List}
use Prim.Native.Nat.{ℕ, ◌+◌, ◌^◌, ◌≤◌, ◌<◌}
use native.Mathlib.Omega.{arith}
use lib.Dec.{T, ltb}
use lib.ListN.{length}
use borrow.Author.Tests.{ltb-true, ltb-false}
use Rattle.octets.specs.Bits.{bit}
use Rattle.octets.proofs.Bits.{bit_ext}
use Rattle.machine.specs.Inner.Machine.{Machine, Leftmost, Found, Stepped}

module _ (M : Machine) (s : List ℕ) where
  not_before : (a b : ℕ) → Leftmost M s a → Leftmost M s b → b ≤ a
  not_before a b x y = go (ltb a b) refl
    where
      go : (t : Bool) → ltb a b ≡ t → b ≤ a
      go true e =
          let l : a < b = ltb-true a b e in
          let w : b ≤ length s + 1 = y.within in
          absurd (y.before a l (omega arith) (x.found (omega arith)))
      go false e = ltb-false a b e

  pub leftmost_one : (a b : ℕ) → Leftmost M s a → Leftmost M s b → a ≡ b
  leftmost_one a b x y = omega (arith, not_before a b x y, not_before b a y x)

  never_both : Found M s true → Found M s false → ⊥
  never_both x y =
      let p = x.yes refl in
      let l : p.0 ≤ length s = p.1 in
      (y.no refl).before p.0 (omega arith) l p.2

  pub found_one : (a b : Bool) → Found M s a → Found M s b → a ≡ b
  found_one true true x y = refl
  found_one true false x y = absurd (never_both x y)
  found_one false true x y = absurd (never_both y x)
  found_one false false x y = refl

-- of the words that `step` answers
module _ (sets : List (List ℕ)) (before : List ℕ) (candidates b left : ℕ) where
  next_by : (live next next' k : ℕ) → Stepped sets before candidates b left live next → Stepped sets before candidates b left live next' → T (bit next k) → T (bit next' k)
  next_by live next next' k x y h = let q = x.back k h in y.forth k q.0 q.1 q.2

  pub stepped_one : (live next live' next' : ℕ) → live < 2 ^ 64 → next < 2 ^ 64 → live' < 2 ^ 64 → next' < 2 ^ 64
      → Stepped sets before candidates b left live next → Stepped sets before candidates b left live' next' → (live ≡ live') × (next ≡ next')
  stepped_one live next live' next' hl hn hl' hn' x y =
      let lives : live ≡ live' = bit_ext 64 live live' hl hl' (λ k h. x.kept k ∙ sym (y.kept k)) in
      let z : Stepped sets before candidates b left live next' = subst (λ (l : ℕ). Stepped sets before candidates b left l next') (sym lives) y in
      (lives, bit_ext 64 next next' hn hn' (λ k h. same_test (bit next k) (bit next' k) (next_by live next next' k x z) (next_by live next' next k z x)))
    where
      same_test : (c d : Bool) → (T c → T d) → (T d → T c) → c ≡ d
      same_test true true f g = refl
      same_test true false f g = absurd (f tt)
      same_test false true f g = absurd (g tt)
      same_test false false f g = refl

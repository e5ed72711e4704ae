-- Which fault has which number, and where: 1 exactly of an image over the limit; 2 only at the image's length; 3 exactly behind an image
-- that would be accepted; 6 only at a criterion whose priority stands earlier too. The place of any lies within the image.
use mathlib.Core.Bool.{Bool, true, false, not}
use mathlib.Core.Path.{◌≡◌, refl, sym, ap, subst, ◌∙◌}
use mathlib.Core.Logic.{inl, inr, ◌↔◌}
use Prim.Native.Nat.{ℕ, ◌≤◌, ◌<◌}
use native.Mathlib.Nat.{le_refl}
use native.Mathlib.Omega.{arith}
use mathlib.Core.List.{List}
use lib.ListN.{length, take}
use lib.Seq.{length-take-le}
use lib.Dec.{T, leb, leb→le, nleb→lt}
use Rattle.octets.specs.Lists.{pick}
use Rattle.octets.proofs.Tests.{T_of}
use Rattle.profile.specs.Reader.{Got, got, fault}
use Rattle.profile.specs.Image.{Profile, accepted, refused}
use Rattle.profile.specs.Judging.{profile, verdict, judge}
use Rattle.profile.proofs.Lockstep.{Earlier, kind_low, kind_not_3, kind_2, kind_6, IsGot, Last, profile_whole}

module _ (s : List ℕ) (n place : ℕ) (e : judge s ≡ refused n place) where
  -- number 1 and place 0 over the limit; else the fault that the reading ends with
  data Refused : Type 0 where
    too_long : 32768 < length s → n ≡ 1 → place ≡ 0 → Refused
    met : length s ≤ 32768 → profile s 0 ≡ fault n place → Refused

  how : Refused
  unfolding judge
  how = go (leb (length s) 32768) refl (profile s 0) refl e
    where
      go : (b : Bool) → leb (length s) 32768 ≡ b → (x : Got Profile) → profile s 0 ≡ x → pick b (verdict x) (refused 1 0) ≡ refused n place → Refused
      go true b (got a k) x q = let z : ◌≡◌ {A = ℕ} 0 1 = cc in absurd (omega arith)
      go true b (fault m w) x q = met (leb→le (length s) 32768 (T_of b)) (x ∙ (let y : ◌≡◌ {A = Got Profile} (fault m w) (fault n place) = cc in y))
      go false b x y q = too_long (nleb→lt (length s) 32768 (subst (λ (c : Bool). T (not c)) (sym b) tt)) (let z : n ≡ 1 = cc in z) (let z : place ≡ 0 = cc in z)

  kind_of : profile s 0 ≡ fault n place → Last s (length s) (le_refl (length s)) 0 (fault n place)
  kind_of q = subst (Last s (length s) (le_refl (length s)) 0) q (profile_whole s (length s) (le_refl (length s))).last

  by_kind : Refused → (place ≤ 32768) × (0 < n) × (n ≤ 6)
  by_kind (too_long l a b) = (omega (arith, b), omega (arith, a), omega (arith, a))
  by_kind (met l q) = go (kind_of q)
    where
      go : Last s (length s) (le_refl (length s)) 0 (fault n place) → (place ≤ 32768) × (0 < n) × (n ≤ 6)
      go (h, inl z) = let k = kind_low z in (omega (arith, h, l), omega (arith, k.0), k.1)
      go (h, inr z) = (omega (arith, h, l), omega (arith, z.0), omega (arith, z.0))

  -- the number and the place of any fault
  pub placed_low : (place ≤ 32768) × (0 < n) × (n ≤ 6)
  placed_low = by_kind how

  pub one_long : n ≡ 1 → (32768 < length s) × (place ≡ 0)
  one_long h = go how
    where
      by : Last s (length s) (le_refl (length s)) 0 (fault n place) → ⊥
      by (l, inl z) = omega (arith, h, (kind_low z).0)
      by (l, inr z) = omega (arith, h, z.0)

      go : Refused → (32768 < length s) × (place ≡ 0)
      go (too_long l a b) = (l, b)
      go (met l q) = absurd (by (kind_of q))

  pub two_at_end : n ≡ 2 → place ≡ length s
  two_at_end h = go how
    where
      by : Last s (length s) (le_refl (length s)) 0 (fault n place) → place ≡ length s
      by (l, inl z) = kind_2 z h
      by (l, inr z) = absurd (omega (arith, h, z.0))

      go : Refused → place ≡ length s
      go (too_long l a b) = absurd (omega (arith, h, a))
      go (met l q) = by (kind_of q)

  pub six_earlier : n ≡ 6 → Earlier s place
  six_earlier h = go how
    where
      by : Last s (length s) (le_refl (length s)) 0 (fault n place) → Earlier s place
      by (l, inl z) = kind_6 z h
      by (l, inr z) = absurd (omega (arith, h, z.0))

      go : Refused → Earlier s place
      go (too_long l a b) = absurd (omega (arith, h, a))
      go (met l q) = by (kind_of q)

-- number 3 at p exactly if the first p bytes are an accepted image and more follow, within the limit
abbrev AcceptedBefore : List ℕ → ℕ → Type 0
AcceptedBefore s p = (p < length s) × (length s ≤ 32768) × ((q : Profile) × (judge (take p s) ≡ accepted q))

judge_short : (l : List ℕ) (x : Got Profile) → length l ≤ 32768 → profile l 0 ≡ x → judge l ≡ verdict x
unfolding judge
judge_short l x h e = go (leb (length l) 32768) refl
  where
    go : (b : Bool) → leb (length l) 32768 ≡ b → pick b (verdict (profile l 0)) (refused 1 0) ≡ verdict x
    go true f = ap verdict e
    go false f = absurd (omega (arith, h, nleb→lt (length l) 32768 (subst (λ (c : Bool). T (not c)) (sym f) tt)))

judge_got : (l : List ℕ) (q : Profile) → judge l ≡ accepted q → IsGot (profile l 0)
unfolding judge
judge_got l q e = go (leb (length l) 32768) (profile l 0) e
  where
    go : (b : Bool) (x : Got Profile) → pick b (verdict x) (refused 1 0) ≡ accepted q → IsGot x
    go true (got a k) f = tt
    go true (fault n place) f = let z : ◌≡◌ {A = ℕ} 0 1 = cc in absurd (omega arith)
    go false x f = let z : ◌≡◌ {A = ℕ} 0 1 = cc in absurd (omega arith)

module _ (s : List ℕ) (p : ℕ) where
  three_of : judge s ≡ refused 3 p → AcceptedBefore s p
  three_of e = go (how s 3 p e)
    where
      front : p < length s → length s ≤ 32768 → (x : Got Profile) → profile (take p s) 0 ≡ x → IsGot x → AcceptedBefore s p
      front more within (got a k) x g =
          let short : length (take p s) ≤ 32768 = omega (arith, length-take-le p s (omega (arith, more)), more, within) in
          (more, within, (a, judge_short (take p s) (got a k) short x))
      front more within (fault n place) x g = absurd g

      by : length s ≤ 32768 → profile s 0 ≡ fault 3 p → Last s (length s) (le_refl (length s)) 0 (fault 3 p) → AcceptedBefore s p
      by within q (l, inl z) = absurd (kind_not_3 z refl)
      by within q (l, inr z) = front z.2 within (profile (take p s) 0) refl (((profile_whole s p l).three z.2 (omega arith)).0 q)

      go : Refused s 3 p e → AcceptedBefore s p
      go (too_long l a b) = absurd (omega (arith, a))
      go (met l q) = by l q (kind_of s 3 p e q)

  of_three : AcceptedBefore s p → judge s ≡ refused 3 p
  of_three w =
      let inside : p ≤ length s = omega (arith, w.0) in
      judge_short s (fault 3 p) w.1 (((profile_whole s p inside).three w.0 (omega arith)).1 (judge_got (take p s) w.2.0 w.2.1))

  pub three_exactly : (judge s ≡ refused 3 p) ↔ ((p < length s) × (length s ≤ 32768) × ((q : Profile) × (judge (take p s) ≡ accepted q)))
  three_exactly = (three_of, of_three)

-- number 1 of every image over the limit
pub long_one : (s : List ℕ) → 32768 < length s → judge s ≡ refused 1 0
unfolding judge
long_one s h = go (leb (length s) 32768) refl
  where
    go : (b : Bool) → leb (length s) 32768 ≡ b → pick b (verdict (profile s 0)) (refused 1 0) ≡ refused 1 0
    go true e = absurd (omega (arith, h, leb→le (length s) 32768 (T_of e)))
    go false e = refl

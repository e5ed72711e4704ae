-- "Equal strings are stored once, in order of first use": one use more.
use mathlib.Core.Path.{◌≡◌, refl, ap, ◌∙◌}
use mathlib.Core.Bool.{Bool, true, false, ◌||◌}
use Prim.Native.Nat.{ℕ, suc, ◌≤◌, ◌<◌}
use native.Mathlib.Omega.{arith}
use mathlib.Core.List.{List, [], ◌∷◌, ◌++◌, append-nil}
use lib.ListN.{length}
use Rattle.octets.specs.Lists.{pick, same, some_of}
use Rattle.octets.proofs.Tests.{test_cases}
use Rattle.compose.specs.Composing.{once_each, index_of}

-- what a use of d adds
abbrev adds : Bool → List ℕ → List (List ℕ)
adds known d = pick known [] (d ∷ [])

turned : (a b c : Bool) → ((a || b) || c) ≡ (b || (a || c))
turned true true c = refl
turned true false c = refl
turned false true c = refl
turned false false c = refl

once_more : (before l : List (List ℕ)) (d : List ℕ)
    → once_each before (l ++ (d ∷ [])) ≡ once_each before l ++ adds (some_of (same d) before || some_of (same d) (once_each before l)) d
once_more before [] d =
    test_cases (some_of (same d) before)
    (λ e. rw e)
    (λ e. rw e)
once_more before (t ∷ l) d =
    test_cases (some_of (same t) before)
    (λ e. rw e (once_more before l d))
    (λ e. rw e
    (ap (λ (x : List (List ℕ)). t ∷ x) (once_more (t ∷ before) l d)
    ∙ ap (λ (b : Bool). t ∷ (once_each (t ∷ before) l ++ adds b d)) (turned (same d t) (some_of (same d) before) (some_of (same d) (once_each (t ∷ before) l)))))

-- a string is among others exactly if its number is one of theirs
pub among : (d : List ℕ) (l : List (List ℕ)) → index_of d l < length l → some_of (same d) l ≡ true
among d [] h = absurd (omega (arith, h))
among d (x ∷ l) h =
    test_cases (same d x)
    (λ e. rw e)
    (λ e. let k : suc (index_of d l) < suc (length l) = rw e at h in rw e (among d l (omega (arith, k))))

pub not_among : (d : List ℕ) (l : List (List ℕ)) → length l ≤ index_of d l → some_of (same d) l ≡ false
not_among d [] h = refl
not_among d (x ∷ l) h =
    test_cases (same d x)
    (λ e. let k : suc (length l) ≤ 0 = rw e at h in absurd (omega (arith, k)))
    (λ e. let k : suc (length l) ≤ suc (index_of d l) = rw e at h in rw e (not_among d l (omega (arith, k))))

-- a use of a string that is known, and of one that is new
pub known_use : (l : List (List ℕ)) (d : List ℕ) → index_of d (once_each [] l) < length (once_each [] l) → once_each [] (l ++ (d ∷ [])) ≡ once_each [] l
known_use l d h = once_more [] l d ∙ ap (λ (b : Bool). once_each [] l ++ adds b d) (among d (once_each [] l) h) ∙ append-nil (once_each [] l)

pub new_use : (l : List (List ℕ)) (d : List ℕ) → length (once_each [] l) ≤ index_of d (once_each [] l)
    → once_each [] (l ++ (d ∷ [])) ≡ once_each [] l ++ (d ∷ [])
new_use l d h = once_more [] l d ∙ ap (λ (b : Bool). once_each [] l ++ adds b d) (not_among d (once_each [] l) h)

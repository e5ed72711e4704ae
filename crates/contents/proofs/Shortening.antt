-- Short names: where one stands in the table of ten, and the long name at that place.
use mathlib.Core.Bool.{Bool, true, false, ◌&&◌}
use mathlib.Core.Path.{◌≡◌, refl, sym, ap, ◌∙◌}
use mathlib.Core.List.{List, [], ◌∷◌}
use Prim.Native.Nat.{ℕ, zero, suc, ◌+◌, ◌-◌, ◌≤◌, ◌<◌}
use native.Mathlib.Nat.{le_of_suc-le-suc, not-suc-le-zero}
use native.Mathlib.Omega.{arith}
use lib.ListN.{length, get_or, take, drop}
use Rattle.std.proofs.Common.{Option, Some, None}
use Rattle.std.specs.Option.{MatchOption, IfSome, unwrap_or}
use Rattle.octets.specs.Bytes.{lower, same_any_case}
use Rattle.octets.specs.Lists.{text, pick}
use Rattle.cuts.specs.Cutting.{begins}
use Rattle.cuts.specs.Inner.Searching.{first}
use Rattle.contents.specs.Names.{Short, short_names, long_by, name_as_matched}
use Rattle.contents.specs.Inner.Steps.{place_in, short_place, long_at, long_name, long_names, long_starts}

-- ---- the name as it is matched is the one at its place

long_pick : (x : Short) (xs : List Short) (w : List ℕ) (b : Bool) → long_by xs w ≡ long_at xs (place_in xs w) w
    → pick b x.long (long_by xs w) ≡ long_at (x ∷ xs) (pick b 0 (suc (place_in xs w))) w
long_pick x xs w true e = refl
long_pick x xs w false e = e

long_there : (xs : List Short) (w : List ℕ) → long_by xs w ≡ long_at xs (place_in xs w) w
long_there [] w = refl
long_there (x ∷ xs) w = long_pick x xs w (same_any_case w x.letter) (long_there xs w)

name_there : (w : List ℕ) → name_as_matched w ≡ long_at short_names (short_place w) w
unfolding name_as_matched short_place
name_there w = long_there short_names w

-- inside the table the written name plays no part; past its end it is the name
long_within : (xs : List Short) (k : ℕ) (v w : List ℕ) → k < length xs → long_at xs k v ≡ long_at xs k w
long_within [] k v w h = absurd (not-suc-le-zero h)
long_within (x ∷ xs) zero v w h = refl
long_within (x ∷ xs) (suc k) v w h = long_within xs k v w (le_of_suc-le-suc h)

long_past : (xs : List Short) (k : ℕ) (w : List ℕ) → length xs ≤ k → long_at xs k w ≡ w
long_past [] k w h = refl
long_past (x ∷ xs) zero w h = absurd (not-suc-le-zero h)
long_past (x ∷ xs) (suc k) w h = long_past xs k w (le_of_suc-le-suc h)

-- by the place that was found
module _ (w : List ℕ) (k : ℕ) (ek : k ≡ short_place w) where
  pub name_short : k < 10 → (r : List ℕ) → r ≡ long_name k → r ≡ name_as_matched w
  unfolding long_name
  name_short h r er = er ∙ sym (name_there w ∙ sym (ap (λ (j : ℕ). long_at short_names j w) ek) ∙ long_within short_names k w [] h)

  pub name_written : 10 ≤ k → w ≡ name_as_matched w
  name_written h = sym (name_there w ∙ sym (ap (λ (j : ℕ). long_at short_names j w) ek) ∙ long_past short_names k w h)

-- ---- the ten long names, written one after the other

-- name k stands from where it begins to where the next does
record Stands (k : ℕ) : Type 0 where
  order : get_or long_starts k 0 ≤ get_or long_starts (k + 1) 0
  inside : get_or long_starts (k + 1) 0 ≤ 81
  is : take (get_or long_starts (k + 1) 0 - get_or long_starts k 0) (drop (get_or long_starts k 0) long_names) ≡ long_name k

stands : (k : ℕ) → k < 10 → Stands k
unfolding long_name
stands zero h = record { order = omega arith; inside = omega arith; is = refl }
stands (suc zero) h = record { order = omega arith; inside = omega arith; is = refl }
stands (suc (suc zero)) h = record { order = omega arith; inside = omega arith; is = refl }
stands (suc (suc (suc zero))) h = record { order = omega arith; inside = omega arith; is = refl }
stands (suc (suc (suc (suc zero)))) h = record { order = omega arith; inside = omega arith; is = refl }
stands (suc (suc (suc (suc (suc zero))))) h = record { order = omega arith; inside = omega arith; is = refl }
stands (suc (suc (suc (suc (suc (suc zero)))))) h = record { order = omega arith; inside = omega arith; is = refl }
stands (suc (suc (suc (suc (suc (suc (suc zero))))))) h = record { order = omega arith; inside = omega arith; is = refl }
stands (suc (suc (suc (suc (suc (suc (suc (suc zero)))))))) h = record { order = omega arith; inside = omega arith; is = refl }
stands (suc (suc (suc (suc (suc (suc (suc (suc (suc zero))))))))) h = record { order = omega arith; inside = omega arith; is = refl }
stands (suc (suc (suc (suc (suc (suc (suc (suc (suc (suc k)))))))))) h = absurd (omega arith)

module _ (k a e : ℕ) (h : k < 10) (ea : a ≡ get_or long_starts k 0) (ee : e ≡ get_or long_starts (k + 1) 0) where
  pub long_order : a ≤ e
  long_order = omega (arith, (stands k h).order)

  module _ (l : List ℕ) (el : l ≡ long_names) where
    pub long_inside : e ≤ length l
    long_inside = omega (arith, (stands k h).inside, ap length el)

    pub long_found : take (e - a) (drop a l) ≡ long_name k
    long_found = (λ i. take (ee i - ea i) (drop (ea i) (el i))) ∙ (stands k h).is

-- ---- finding the place

and_false : (b : Bool) → (b && false) ≡ false
and_false true = refl
and_false false = refl

-- a letter in either case is no name of another length
pub place_none : (w : List ℕ) → (length w ≡ 1 → ⊥) → 10 ≡ short_place w
unfolding short_place
place_none [] n = refl
place_none (b ∷ []) n = absurd (n refl)
place_none (b ∷ c ∷ w) n = sym (simp and_false)

place_one : (w : List ℕ) (b : ℕ) → length w ≡ 1 → b ≡ lower (get_or w 0 0) → first (begins (b ∷ [])) (text "imelcfsktv") ≡ short_place w
unfolding short_place first
place_one [] b e eb = absurd (omega arith)
place_one (c ∷ []) b e eb = ap (λ (x : ℕ). first (begins (x ∷ [])) (text "imelcfsktv")) eb
place_one (c ∷ d ∷ w) b e eb = absurd (omega arith)

-- what the library's `position` finds in the table
pub place_found : (w : List ℕ) (b : ℕ) (r : Option ℕ) → length w ≡ 1 → b ≡ lower (get_or w 0 0) → IfSome r (λ k. k < 10) → first (begins (b ∷ [])) (text "imelcfsktv") ≡ unwrap_or r 10
    → MatchOption r (10 ≡ short_place w) (λ k. (k < 10) × (k ≡ short_place w))
place_found w b None e eb h f = sym f ∙ place_one w b e eb
place_found w b (Some k) e eb h f = (h, sym f ∙ place_one w b e eb)

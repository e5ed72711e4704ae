-- White space at the ends: the right end found from the end backwards, the left end from the start.
use mathlib.Core.Bool.{Bool, true, false, not, ◌&&◌, and-false}
use mathlib.Core.Path.{◌≡◌, refl, sym, ap, ◌∙◌}
use mathlib.Core.List.{List, [], ◌∷◌}
use Prim.Native.Nat.{ℕ, zero, suc, ◌-◌, ◌≤◌, ◌<◌, ◌+◌, zero-le}
use native.Mathlib.Nat.{not-suc-le-zero, le_of_suc-le-suc}
use native.Mathlib.Omega.{arith}
use lib.ListN.{length, get_or, take, drop}
use lib.Seq.{length-take-le, take_all}
use Rattle.std.proofs.Common.{Option, Some, None, reverse}
use Rattle.std.specs.List.{AllWithin, HoldsAt}
use Rattle.std.specs.Option.{MatchOption}
use Rattle.std.proofs.lemmas.List.{get_or-reverse, length-reverse}
use Rattle.octets.specs.Bytes.{white}
use Rattle.octets.specs.Lists.{pick, empty}
use Rattle.cuts.specs.Trimming.{trim_right, trim_left, trim}
use Rattle.cuts.specs.Inner.Parts.{part}
use Rattle.cuts.specs.Inner.Searching.{first, text_here}
use Rattle.cuts.proofs.Parts.{front_by, front_le, drop_take}
use Rattle.cuts.proofs.Search.{first_yes, first_no}

-- ---- the right end

-- a white byte at the end goes
trim_white : (l : List ℕ) (n : ℕ) → n < length l → white (get_or l n 0) ≡ true → trim_right (take (suc n) l) ≡ trim_right (take n l)
unfolding trim_right
trim_white [] n h w = absurd (not-suc-le-zero h)
trim_white (b ∷ s) zero h w = ap (λ (t : Bool). pick (t && true) [] (b ∷ [])) w
trim_white (b ∷ s) (suc n) h w = ap (λ (later : List ℕ). pick (white b && empty later) [] (b ∷ later)) (trim_white s n (le_of_suc-le-suc h) w)

-- another byte stays, and all before it
trim_text : (l : List ℕ) (n : ℕ) → n < length l → white (get_or l n 0) ≡ false → trim_right (take (suc n) l) ≡ take (suc n) l
unfolding trim_right
trim_text [] n h w = absurd (not-suc-le-zero h)
trim_text (b ∷ s) zero h w = ap (λ (t : Bool). pick (t && true) [] (b ∷ [])) w
trim_text (b ∷ []) (suc n) h w = absurd (not-suc-le-zero (le_of_suc-le-suc h))
trim_text (b ∷ c ∷ s) (suc n) h w =
    ap (λ (later : List ℕ). pick (white b && empty later) [] (b ∷ later)) (trim_text (c ∷ s) n (le_of_suc-le-suc h) w)
    ∙ ap (λ (t : Bool). pick t [] (b ∷ take (suc n) (c ∷ s))) (and-false (white b))

-- what stays is a front of the list
pub trim_front : (l : List ℕ) → trim_right l ≡ take (length (trim_right l)) l
unfolding trim_right
trim_front [] = refl
trim_front (b ∷ s) = front_by b s (trim_right s) (white b && empty (trim_right s)) (trim_front s)

pub trim_le : (l : List ℕ) → length (trim_right l) ≤ length l
trim_le l = front_le (trim_right l) l (trim_front l)

-- all from n on are white
back_to : (t : List ℕ) (n k : ℕ) → n + k ≡ length t → ((j : ℕ) → n ≤ j → j < length t → white (get_or t j 0) ≡ true) → trim_right t ≡ trim_right (take n t)
back_to t n zero e h = ap trim_right (sym (take_all n t (omega (arith, e))))
back_to t n (suc k) e h = back_to t (suc n) k (omega (arith, e)) (λ j l m. h j (omega arith) m) ∙ trim_white t n (omega (arith, e)) (h n (omega arith) (omega (arith, e)))

-- the byte at a place, as it is found from the end
from_end : (t : List ℕ) (j : ℕ) → j < length t → get_or (reverse t) (length t - 1 - j) 0 ≡ get_or t j 0
from_end t j l =
    let back : length t - 1 - (length t - 1 - j) ≡ j = omega arith in
    get_or-reverse t (length t - 1 - j) 0 (omega arith) ∙ ap (λ (i : ℕ). get_or t i 0) back

is_white_at : (t : List ℕ) (k j : ℕ) → AllWithin (λ x. white x ≡ true) (reverse t) 0 k → j < length t → length t - 1 - j < k → white (get_or t j 0) ≡ true
is_white_at t k j h l m = sym (ap white (from_end t j l)) ∙ h (length t - 1 - j) 0 zero-le m

-- what the library's `position` finds from the end
pub back_found : (t : List ℕ) (r : Option ℕ)
    → MatchOption r (AllWithin (λ x. white x ≡ true) (reverse t) 0 (length (reverse t))) (λ i. (i < length (reverse t)) × HoldsAt (λ x. white x ≡ false) (reverse t) i × AllWithin (λ x. white x ≡ true) (reverse t) 0 i)
    → MatchOption r (0 ≡ length (trim_right t)) (λ k. (k ≤ length t) × (length t - k ≡ length (trim_right t)))
unfolding trim_right
back_found t None h = sym (ap length (back_to t 0 (length t) (omega arith) (λ j l m. is_white_at t (length (reverse t)) j h m (omega (arith, length-reverse t)))))
back_found t (Some k) h =
    let inside : k < length t = omega (arith, h.0, length-reverse t) in
    let n : ℕ = length t - 1 - k in
    let at : n < length t = omega arith in
    let here : white (get_or t n 0) ≡ false = sym (ap white (get_or-reverse t k 0 inside)) ∙ h.1 0 in
    let all : trim_right t ≡ take (suc n) t =
    back_to t (suc n) (length t - suc n) (omega arith) (λ j l m. is_white_at t k j h.2 m (omega arith)) ∙ trim_text t n at here
    in
    let long : length t - k ≡ suc n = omega arith in
    (omega arith, long ∙ sym (ap length all ∙ length-take-le (suc n) t at))

-- ---- the left end

left_by : (b : ℕ) (s : List ℕ) → trim_left s ≡ drop (first text_here s) s → (t : Bool) → white b ≡ t → trim_left (b ∷ s) ≡ drop (first text_here (b ∷ s)) (b ∷ s)
unfolding trim_left
left_by b s h true e =
    ap (λ (t : Bool). pick t (trim_left s) (b ∷ s)) e ∙ h ∙ sym (ap (λ (k : ℕ). drop k (b ∷ s)) (first_no text_here b s (ap not e)))
left_by b s h false e = ap (λ (t : Bool). pick t (trim_left s) (b ∷ s)) e ∙ sym (ap (λ (k : ℕ). drop k (b ∷ s)) (first_yes text_here b s (ap not e)))

pub trim_left_at : (s : List ℕ) → trim_left s ≡ drop (first text_here s) s
unfolding trim_left first
trim_left_at [] = refl
trim_left_at (b ∷ s) = left_by b s (trim_left_at s) (white b) refl

-- both ends, by place
pub trim_part : (t : List ℕ) (e a : ℕ) → e ≡ length (trim_right t) → a ≡ first text_here (take e t) → trim t ≡ part t a e
trim_part t e a ee ea =
    let front : trim_right t ≡ take e t = trim_front t ∙ ap (λ (j : ℕ). take j t) (sym ee) in
    ap trim_left front ∙ trim_left_at (take e t) ∙ ap (λ (j : ℕ). drop j (take e t)) (sym ea) ∙ drop_take a e t

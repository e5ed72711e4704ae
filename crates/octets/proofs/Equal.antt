-- Equal bytes, and equal ones in any case, as the library's tests say it.
use Rattle.std.proofs.Common.{◌≡◌, refl, sym, ap, ap₂, ◌∙◌, ◌↔◌, ℕ, suc, Bool, List, [], ◌∷◌, map, length, arith, rules}
use Rattle.std.specs.Bool.{IsTrue, Decides}
use Rattle.std.specs.Char.{to_ascii_lowercase}
use Rattle.std.proofs.lemmas.Bool.Decides.{same_from_decides, nat_tests}
use Rattle.std.proofs.lemmas.Slice.Eq.{compares_Decides}
use Rattle.octets.specs.Lists.{same}
use Rattle.octets.specs.Bytes.{lower, lowers, same_any_case}

pub lowers_length : (s : List ℕ) → length (lowers s) ≡ length s
lowers_length [] = refl
lowers_length (b ∷ s) = ap suc (lowers_length s)

lower_is : (b : ℕ) → to_ascii_lowercase b ≡ lower b
lower_is b = grind (arith, nat_tests)

lowers_are : (s : List ℕ) → map to_ascii_lowercase s ≡ lowers s
lowers_are [] = refl
lowers_are (b ∷ s) = ap₂ (λ (x : ℕ) (l : List ℕ). x ∷ l) (lower_is b) (lowers_are s)

pub cased_by : (a b : List ℕ) (r : Bool) → (IsTrue r ↔ (map to_ascii_lowercase a ≡ map to_ascii_lowercase b)) → r ≡ same_any_case a b
cased_by a b r h =
    let d : Decides (same (lowers a) (lowers b)) (lowers a ≡ lowers b) = compares_Decides same (search rules) (lowers a) (lowers b) in
    same_from_decides r (same_any_case a b) (λ e. sym (lowers_are a) ∙ h.0 e ∙ lowers_are b, λ e. h.1 (lowers_are a ∙ e ∙ sym (lowers_are b))) d

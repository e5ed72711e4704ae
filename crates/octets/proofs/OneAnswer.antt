-- What `class_table` promises leaves one table.
use mathlib.Core.Path.{◌≡◌, refl, sym, ap₂, ◌∙◌}
use mathlib.Core.List.{List, [], ◌∷◌}
use Prim.Native.Nat.{ℕ, suc, ◌<◌}
use native.Mathlib.Omega.{arith}
use lib.ListN.{length, get_or}
use Rattle.octets.specs.Inner.Tables.{Classes}

-- lists of one length with the same number at every place
same_places : (s t : List ℕ) → length s ≡ length t → ((i : ℕ) → i < length s → get_or s i 0 ≡ get_or t i 0) → s ≡ t
same_places [] [] l e = refl
same_places [] (b ∷ t) l e = absurd (omega arith)
same_places (a ∷ s) [] l e = absurd (omega arith)
same_places (a ∷ s) (b ∷ t) l e = ap₂ (λ (x : ℕ) (xs : List ℕ). x ∷ xs) (e 0 (omega arith)) (same_places s t (omega (arith, l)) (λ i h. e (suc i) (omega arith)))

pub classes_one : (s t : List ℕ) → length s ≡ 256 → length t ≡ 256 → Classes s → Classes t → s ≡ t
classes_one s t l m x y = same_places s t (l ∙ sym m) (λ i h. let low : i < 256 = omega (arith, l) in x.each i low ∙ sym (y.each i low))

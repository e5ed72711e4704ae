-- What a caller goes by. Beside these: `value_says` (Values) for values, `line_says` (BodyLines) for body lines, `values_length` and
-- `session_lines_length` (Small) for how many there are.
use mathlib.Core.Path.{◌≡◌, sym, ap, ◌∙◌}
use mathlib.Core.List.{List}
use Prim.Native.Nat.{ℕ, ◌-◌, ◌≤◌}
use native.Mathlib.Nat.{sub-zero}
use native.Mathlib.Omega.{arith}
use lib.ListN.{length, take, drop, length-append}
use lib.Seq.{take_at}
use Rattle.cuts.specs.Inner.Parts.{over}
use Rattle.contents.specs.Values.{reduced}
use Rattle.contents.proofs.Norm.{reduced_le}

-- ---- what was written to the front of a lent place

over_inside : (w d e : List ℕ) (n : ℕ) → n ≡ length w → e ≡ over w d → n ≤ length e
over_inside w d e n en ee = omega (arith, en, ap length ee, length-append w (drop (length w) d))

over_front : (w d e : List ℕ) (n : ℕ) → n ≡ length w → e ≡ over w d → take (n - 0) (drop 0 e) ≡ w
over_front w d e n en ee = ap (λ (k : ℕ). take k e) (sub-zero n) ∙ ap (take n) ee ∙ take_at w (drop (length w) d) n (sym en)

-- a value that was reduced into a room
module _ (raw before room : List ℕ) (n : ℕ) (en : n ≡ length (reduced raw)) (er : room ≡ over (reduced raw) before) where
  pub reduced_front : take (n - 0) (drop 0 room) ≡ reduced raw
  reduced_front = over_front (reduced raw) before room n en er

  pub reduced_inside : n ≤ length room
  reduced_inside = over_inside (reduced raw) before room n en er

  pub reduced_short : length raw ≤ 65535 → length (take (n - 0) room) ≤ 65535
  reduced_short h = omega (arith, ap length reduced_front, reduced_le raw)

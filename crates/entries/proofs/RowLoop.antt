-- The loop over the rows: k of count are read, and the next stands at `at`.
use Prim.Native.Nat.{ℕ, ◌+◌, ◌-◌, ◌*◌, ◌≤◌, ◌<◌}
use native.Mathlib.Omega.{arith}
use native.Mathlib.Nat.{sub-zero}
use mathlib.Core.Path.{◌≡◌, sym, ap, ◌∙◌}
use mathlib.Core.List.{List, [], ◌∷◌, ◌++◌}
use Rattle.cells.specs.Inner.Out.{good, bad}
use Rattle.cells.specs.Inner.Places.{many, ends, limited}
use Rattle.entries.specs.Inner.Places.{reading_row, reading_rows, first_of_row, second_of_row}
use Rattle.entries.specs.declared.Row.{Row}
use Rattle.cells.proofs.Laws.{good_inj}
use Rattle.cells.proofs.Many.{many_step, many_bad, many_end, ends_inv, ends_bad, ends_bind}

pub record RowHead (s : List ℕ) (strs : List (List ℕ)) (n start at k : ℕ) : Type 0 where
  pub count : k ≤ n
  pub place : at ≡ start + 7 * k
  pub read : List Row
  pub so_far : reading_rows s strs n start ≡ many (λ _. reading_row s strs) (n - k) at read

module _ (s : List ℕ) (strs : List (List ℕ)) where
  pub row_next : (at v : ℕ) → ends (reading_row s strs at) ≡ good v → v ≡ at + 7
  unfolding reading_row
  row_next at v e = ends_bind (limited s at 1) _ v (at + 7) (λ _. ends_bind (limited s (at + 1) 4) _ v (at + 7) (λ k. ends_bind (first_of_row s strs k (at + 2)) _ v (at + 7) (λ _. ends_bind (second_of_row s strs k (at + 4)) _ v (at + 7) (λ _. ends_bind (limited s (at + 6) 6) _ v (at + 7) (λ _ q. good_inj (sym q)))))) e

  module _ (n start : ℕ) where
    pub rows_first : RowHead s strs n start start 0
    unfolding reading_rows
    rows_first = record { count = omega arith; place = omega arith; read = []; so_far = rw sub-zero }

    module _ (at k : ℕ) (hd : RowHead s strs n start at k) where
      pub rows_more : (v : ℕ) → k < n → good v ≡ ends (reading_row s strs at) → RowHead s strs n start v (k + 1)
      rows_more v h r =
          let (a, o) = ends_inv (reading_row s strs at) v (sym r) in
          let z = row_next at v (sym r) in
          record { count = omega arith; place = omega (arith, hd.place); read = hd.read ++ (a ∷ []); so_far = hd.so_far ∙ many_step (λ _. reading_row s strs) n k at hd.read a v h o }

      pub rows_bad : (m q : ℕ) → k < n → bad m q ≡ ends (reading_row s strs at) → bad m q ≡ ends (reading_rows s strs n start)
      rows_bad m q h r = sym (ap ends (hd.so_far ∙ many_bad (λ _. reading_row s strs) n k at hd.read m q h (ends_bad (reading_row s strs at) m q (sym r))))

      pub rows_end : n ≤ k → good at ≡ ends (reading_rows s strs n start)
      rows_end h = sym (ap ends (hd.so_far ∙ many_end (λ _. reading_row s strs) n k at hd.read h))

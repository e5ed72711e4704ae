use native.Mathlib.Omega.{arith}
use mathlib.Core.Path.{sym}
use Rattle.cells.proofs.Laws.{counted_inv}
use Rattle.cells.proofs.string_table.sized_at.Goals as goal

pub whole-requires : goal.whole-requires
whole-requires c = omega (arith, counted_inv _ _ _ _ (sym c.in_ok-n.ensures))

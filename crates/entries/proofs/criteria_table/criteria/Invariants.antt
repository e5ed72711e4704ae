use mathlib.Core.Path.{◌≡◌}
use mathlib.Core.Bool.{false}
use Prim.Native.Nat.{◌-◌}
use Rattle.cells.specs.Inner.Places.{texts}
use Rattle.entries.proofs.CriteriaLoop.{CritHead, earlier}
use Rattle.entries.proofs.criteria_table.criteria.Given as goal

abbrev pub invariant-loop-i : goal.invariant-loop-i
invariant-loop-i l = earlier l.s l.start l.i l.p ≡ false

abbrev pub invariant-scan : goal.invariant-scan
invariant-scan l = CritHead l.strings.image.now (texts l.strings.image.now l.strings.count l.strings.table.now) l.rows l.n l.start l.at l.j

abbrev pub decreases-scan : goal.decreases-scan
decreases-scan l = l.n - l.j

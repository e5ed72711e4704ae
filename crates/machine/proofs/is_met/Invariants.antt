use Rattle.machine.proofs.Stepping.{Stepping}
use mathlib.Core.List.{[]}
use Rattle.machine.proofs.is_met.Given as goal

abbrev pub invariant-loop-left : goal.invariant-loop-left
invariant-loop-left l = Stepping l.sets [] l.candidates l.b l.left 0 0

abbrev pub decreases-loop-left : goal.decreases-loop-left
decreases-loop-left l = l.left

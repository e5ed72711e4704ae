use Rattle.machine.proofs.Stepping.{Stepping}
use Rattle.machine.proofs.step.Given as goal

abbrev pub invariant-loop-left : goal.invariant-loop-left
invariant-loop-left l = Stepping l.sets l.before l.candidates l.b l.left l.live l.next

abbrev pub decreases-loop-left : goal.decreases-loop-left
decreases-loop-left l = l.left

use Rattle.machine.proofs.Scan.{Scan}
use Rattle.machine.proofs.smallest.Given as goal

abbrev pub invariant-loop-i : goal.invariant-loop-i
invariant-loop-i l = Scan l.h l.sets l.before l.text l.i l.next l.best

abbrev pub decreases-loop-i : goal.decreases-loop-i
decreases-loop-i l = l.i

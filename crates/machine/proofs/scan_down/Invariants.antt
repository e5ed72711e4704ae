use Rattle.machine.specs.Inner.Machine.{Only}
use Rattle.machine.proofs.Hunt.{Hunt}
use Rattle.machine.proofs.scan_down.Given as goal

abbrev pub invariant-loop-i : goal.invariant-loop-i
invariant-loop-i l = Hunt l.h l.sets l.before l.text l.candidates l.i × Only l.h.stops l.door

abbrev pub decreases-loop-i : goal.decreases-loop-i
decreases-loop-i l = l.i

use Rattle.part.proofs.Forward.{Forward}
use Rattle.part.proofs.longest.Given as goal

abbrev pub invariant-loop-i : goal.invariant-loop-i
invariant-loop-i l = Forward l.h l.sets l.before l.text l.start l.i l.candidates l.best

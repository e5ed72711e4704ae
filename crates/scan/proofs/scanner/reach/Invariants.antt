use Rattle.scan.proofs.Lettered.{ReachAt}
use Rattle.scan.proofs.scanner.reach.Given as goal

abbrev pub invariant-loop-i : goal.invariant-loop-i
invariant-loop-i l = ReachAt l.s l.at l.j l.from l.n l.left l.i

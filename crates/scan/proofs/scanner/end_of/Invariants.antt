use Rattle.scan.proofs.Closing.{Closing}
use Rattle.scan.proofs.scanner.end_of.Given as goal

abbrev pub invariant-loop-i : goal.invariant-loop-i
invariant-loop-i l = Closing l.comment l.s l.at l.q l.p l.i

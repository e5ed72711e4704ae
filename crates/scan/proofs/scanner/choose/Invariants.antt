use lib.ListN.{drop}
use Rattle.scan.proofs.Choosing.{Choosing}
use Rattle.scan.proofs.scanner.choose.Given as goal

abbrev pub invariant-loop-j : goal.invariant-loop-j
invariant-loop-j l = Choosing l.q (drop l.at l.s) l.end l.best l.j

use Rattle.scan.specs.Inner.Points.{class_of}
use Rattle.scan.proofs.Runs.{Running}
use Rattle.scan.proofs.scanner.run_end.Given as goal

abbrev pub invariant-loop-i : goal.invariant-loop-i
invariant-loop-i l = Running (class_of l.kind) l.s l.at l.i

use Rattle.probes.proofs.Placing.{Fielding}
use Rattle.probes.proofs.counts.count_all_values.Given as goal

abbrev pub invariant-loop-i : goal.invariant-loop-i
invariant-loop-i l = Fielding l.request.bytes.now l.i l.n

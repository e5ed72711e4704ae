use Prim.Native.Nat.{◌+◌, ◌-◌}
use lib.ListN.{length}
use Rattle.probes.proofs.PartsCounting.{Lining}
use Rattle.probes.proofs.counts.count_lines.Given as goal

abbrev pub invariant-loop-line : goal.invariant-loop-line
invariant-loop-line l = Lining l.body l.at l.n

abbrev pub decreases-loop-line : goal.decreases-loop-line
decreases-loop-line l = length l.body + 1 - l.at

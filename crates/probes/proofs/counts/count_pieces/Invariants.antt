use Prim.Native.Nat.{◌+◌, ◌-◌}
use lib.ListN.{length}
use Rattle.probes.proofs.Pieces.{Piecing}
use Rattle.probes.proofs.counts.count_pieces.Given as goal

abbrev pub invariant-loop-value : goal.invariant-loop-value
invariant-loop-value l = Piecing l.v l.at l.n

abbrev pub decreases-loop-value : goal.decreases-loop-value
decreases-loop-value l = length l.v + 1 - l.at

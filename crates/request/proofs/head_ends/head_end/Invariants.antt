use Prim.Native.Nat.{◌-◌}
use lib.ListN.{length}
use Rattle.request.proofs.Seconds.{Looking}
use Rattle.request.proofs.head_ends.head_end.Given as goal

abbrev pub invariant-loop-k : goal.invariant-loop-k
invariant-loop-k l = Looking l.s l.k

abbrev pub decreases-loop-k : goal.decreases-loop-k
decreases-loop-k l = length l.s - l.k

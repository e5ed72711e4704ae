use Prim.Native.Nat.{◌+◌, ◌-◌}
use lib.ListN.{length}
use Rattle.spots.proofs.Valuing.{Seeking}
use Rattle.spots.proofs.spot_in_pieces.Given as goal

abbrev pub invariant-loop-cut : goal.invariant-loop-cut
invariant-loop-cut l = Seeking l.content.bytes.now l.v l.from l.value

abbrev pub decreases-loop-cut : goal.decreases-loop-cut
decreases-loop-cut l = length l.v + 1 - l.from

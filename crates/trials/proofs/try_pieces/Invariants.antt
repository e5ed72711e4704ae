use Prim.Native.Nat.{◌+◌, ◌-◌}
use lib.ListN.{length}
use Rattle.trials.proofs.Values.{Trying}
use Rattle.trials.proofs.try_pieces.Given as goal

abbrev pub invariant-loop-value : goal.invariant-loop-value
invariant-loop-value l = Trying l.content.bytes.now l.v l.at l.fits l.trials

abbrev pub decreases-loop-value : goal.decreases-loop-value
decreases-loop-value l = length l.v + 1 - l.at

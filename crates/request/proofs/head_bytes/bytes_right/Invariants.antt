use Prim.Native.Nat.{◌-◌}
use lib.ListN.{length}
use Rattle.request.proofs.Head.{Passed}
use Rattle.request.proofs.head_bytes.bytes_right.Given as goal

abbrev pub invariant-loop-i : goal.invariant-loop-i
invariant-loop-i l = Passed l.h l.i

abbrev pub decreases-loop-i : goal.decreases-loop-i
decreases-loop-i l = length l.h - l.i

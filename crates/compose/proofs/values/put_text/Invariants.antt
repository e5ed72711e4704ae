use Prim.Native.Nat.{◌-◌}
use lib.ListN.{length}
use Rattle.compose.proofs.Copying.{PutAt}
use Rattle.compose.proofs.values.put_text.Given as goal

abbrev pub invariant-loop-i : goal.invariant-loop-i
invariant-loop-i l = PutAt l.t l.initial.dst l.dst l.to l.j l.i

abbrev pub decreases-loop-i : goal.decreases-loop-i
decreases-loop-i l = length l.t - l.i

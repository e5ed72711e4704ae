use Prim.Native.Nat.{◌-◌}
use lib.ListN.{length}
use Rattle.compose.proofs.Copying.{Comparing}
use Rattle.compose.proofs.values.same_text.Given as goal

abbrev pub invariant-loop-i : goal.invariant-loop-i
invariant-loop-i l = Comparing l.t l.x l.i l.j

abbrev pub decreases-loop-i : goal.decreases-loop-i
decreases-loop-i l = length l.t - l.i

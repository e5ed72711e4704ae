use Prim.Native.Nat.{◌-◌}
use lib.ListN.{length}
use Rattle.compose.proofs.Decoding.{Lengthening}
use Rattle.compose.proofs.values.text_length.Given as goal

abbrev pub invariant-loop-i : goal.invariant-loop-i
invariant-loop-i l = Lengthening l.t l.n l.i

abbrev pub decreases-loop-i : goal.decreases-loop-i
decreases-loop-i l = length l.t - l.i

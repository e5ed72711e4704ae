use Rattle.pattern.proofs.Loading.{Loading}
use lib.ListN.{length}
use Prim.Native.Nat.{◌-◌}
use Rattle.pattern.proofs.edition1.load.Given as goal

abbrev pub invariant-loop-i : goal.invariant-loop-i
invariant-loop-i l = Loading l.fold l.s l.initial.sets l.initial.before l.i l.first l.m l.sets l.before

abbrev pub decreases-loop-i : goal.decreases-loop-i
decreases-loop-i l = length l.s - l.i

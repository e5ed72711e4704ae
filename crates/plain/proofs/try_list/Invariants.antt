use Prim.Native.Nat.{◌-◌}
use lib.ListN.{length}
use Rattle.plain.proofs.Trying.{Walked}
use Rattle.plain.proofs.try_list.Given as goal

abbrev pub invariant-loop-i : goal.invariant-loop-i
invariant-loop-i l = Walked l.p l.from l.i l.c l.has

abbrev pub decreases-loop-i : goal.decreases-loop-i
decreases-loop-i l = length l.p - l.i

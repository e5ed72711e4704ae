use Rattle.basic.proofs.Listing.{Gathered}
use lib.ListN.{length}
use Prim.Native.Nat.{◌-◌}
use Rattle.basic.proofs.reader.items_at.Given as goal

abbrev pub invariant-loop-i : goal.invariant-loop-i
invariant-loop-i l = Gathered l.build l.s l.from l.i l.first l.set

abbrev pub decreases-loop-i : goal.decreases-loop-i
decreases-loop-i l = length l.s - l.i

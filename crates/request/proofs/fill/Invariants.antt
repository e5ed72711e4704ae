use Prim.Native.Nat.{◌+◌, ◌-◌}
use lib.ListN.{length}
use Rattle.request.specs.Inner.Places.{starts_in, colons_in}
use Rattle.request.proofs.Filling.{Filling}
use Rattle.request.proofs.fill.Given as goal

abbrev pub invariant-loop-p : goal.invariant-loop-p
invariant-loop-p l = Filling l.h l.from (starts_in l.initial.lent) (colons_in l.initial.lent) (starts_in l.lent) (colons_in l.lent) l.p l.n

abbrev pub decreases-loop-p : goal.decreases-loop-p
decreases-loop-p l = length l.h + 2 - l.p

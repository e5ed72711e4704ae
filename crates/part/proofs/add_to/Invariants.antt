use Rattle.part.proofs.Turning.{Adding}
use lib.ListN.{length}
use mathlib.Core.Path.{◌≡◌}
use Rattle.part.proofs.add_to.Given as goal

abbrev pub invariant-loop-left : goal.invariant-loop-left
invariant-loop-left l = Adding l.positions l.q l.initial.masks l.left l.masks × (length l.masks ≡ 60)

abbrev pub decreases-loop-left : goal.decreases-loop-left
decreases-loop-left l = l.left

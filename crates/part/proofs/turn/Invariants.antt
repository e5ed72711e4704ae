use Rattle.part.proofs.Turning.{Turns}
use lib.ListN.{length}
use mathlib.Core.Path.{◌≡◌}
use Rattle.part.proofs.turn.Given as goal

abbrev pub invariant-loop-q : goal.invariant-loop-q
invariant-loop-q l = Turns l.before l.q l.after × (length l.after ≡ 60)

use Rattle.contents.proofs.Norm.{Reducing}
use Rattle.contents.proofs.pieces.normalise.Given as goal

abbrev pub invariant-loop-b : goal.invariant-loop-b
invariant-loop-b l = Reducing l.raw l.initial.dst l.dst l.gap l.n l.b-index

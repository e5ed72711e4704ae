use Rattle.compose.proofs.Counting.{Valuing}
use Rattle.compose.proofs.values.value_of.Given as goal

abbrev pub invariant-loop-b : goal.invariant-loop-b
invariant-loop-b l = Valuing l.t l.b-index l.n

use Rattle.request.proofs.Described.{Looking}
use Rattle.request.proofs.descriptions.is_described.Given as goal

abbrev pub invariant-loop-i : goal.invariant-loop-i
invariant-loop-i l = Looking l.s l.fields l.i l.describes

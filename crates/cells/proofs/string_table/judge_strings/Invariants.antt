use Rattle.cells.proofs.Uses.{Told}
use Rattle.cells.proofs.string_table.judge_strings.Given as goal

abbrev pub invariant-loop-k : goal.invariant-loop-k
invariant-loop-k l = Told l.s l.n l.table l.uses l.k

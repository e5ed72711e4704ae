use Rattle.cells.proofs.Texts.{Head}
use Rattle.cells.proofs.string_table.strings.Given as goal

abbrev pub invariant-loop-k : goal.invariant-loop-k
invariant-loop-k l = Head l.s l.n l.initial.table l.table l.at l.k

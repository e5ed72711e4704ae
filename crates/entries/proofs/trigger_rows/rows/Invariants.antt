use Rattle.cells.specs.Inner.Places.{texts}
use Rattle.entries.proofs.RowLoop.{RowHead}
use Rattle.entries.proofs.trigger_rows.rows.Given as goal

abbrev pub invariant-loop : goal.invariant-loop
invariant-loop l = RowHead l.strings.image.now (texts l.strings.image.now l.strings.count l.strings.table.now) l.count l.start l.at l.counter

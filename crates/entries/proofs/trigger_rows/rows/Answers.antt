use Rattle.cells.proofs.Laws.{exits}
use Rattle.entries.proofs.RowLoop.{rows_first, rows_more, rows_bad, rows_end}
use Rattle.entries.proofs.trigger_rows.rows.Goals as goal

pub loop-init : goal.loop-init
loop-init c = rows_first _ _ _ _

pub returns-in_err-at : goal.returns-in_err-at
returns-in_err-at c =
    rw (exits c.from_residual.ensures.1) (search (rows_bad, c.in_err-at.ensures))

pub loop-preserved : goal.loop-preserved
loop-preserved c = search (rows_more, c.in_ok-at.ensures)

pub returns : goal.returns
returns c = search rows_end

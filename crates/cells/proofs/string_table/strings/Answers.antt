use Rattle.cells.proofs.Laws.{exits}
use Rattle.cells.proofs.Texts.{head_first, head_more, head_bad, head_end, head_filled}
use Rattle.cells.proofs.string_table.strings.Goals as goal

pub loop-k-init : goal.loop-k-init
loop-k-init c = search head_first

pub loop-k-preserved : goal.loop-k-preserved
loop-k-preserved c = search (head_more, c.in_ok-len.ensures)

pub returns-in_err-len : goal.returns-in_err-len
returns-in_err-len c = rw (exits c.from_residual.ensures.1) (record { tabled = search (head_bad, c.in_err-len.ensures); filled = tt })

pub returns : goal.returns
returns c = record { tabled = search head_end; filled = search head_filled }

use Rattle.cells.proofs.Laws.{exits}
use Rattle.entries.proofs.MemberLoop.{placed_bad, placed_more, placed_end}
use Rattle.entries.proofs.memberships.all_placed.Goals as goal

pub returns-in_err-must : goal.returns-in_err-must
returns-in_err-must c =
    rw (exits c.from_residual.ensures.1) (search (placed_bad, c.in_err-must.ensures))

pub loop-k-preserved : goal.loop-k-preserved
loop-k-preserved c = search (placed_more, c.in_ok-must.ensures)

pub returns : goal.returns
returns c = search placed_end

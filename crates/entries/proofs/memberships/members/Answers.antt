use Rattle.cells.proofs.Laws.{exits}
use Rattle.entries.proofs.MemberLoop.{members_first, members_more, members_bad, members_end}
use Rattle.entries.proofs.memberships.members.Goals as goal

pub loop-k-init : goal.loop-k-init
loop-k-init c = search members_first

pub returns-in_err-m : goal.returns-in_err-m
returns-in_err-m c =
    rw (exits c.from_residual.ensures.1) (search (members_bad, c.in_err-m.ensures))

pub loop-k-preserved : goal.loop-k-preserved
loop-k-preserved c = search (members_more, c.in_ok-m.ensures)

pub returns : goal.returns
returns c = search members_end

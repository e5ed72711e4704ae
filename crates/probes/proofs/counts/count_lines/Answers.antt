use borrow.Author.Rules.{rules}
use Rattle.contents.proofs.Walks.{line_less}
use Rattle.probes.proofs.PartsCounting.{lining_first, lining_end, lining_next, lining_room}
use Rattle.probes.proofs.counts.count_lines.Goals as goal

pub loop-line-init : goal.loop-line-init
loop-line-init c = search lining_first

pub overflow_add-n : goal.overflow_add-n
overflow_add-n c = search (rules, lining_room)

pub loop-line-smaller : goal.loop-line-smaller
loop-line-smaller c = search line_less

pub loop-line-preserved : goal.loop-line-preserved
loop-line-preserved c = search lining_next

pub returns : goal.returns
returns c = search lining_end

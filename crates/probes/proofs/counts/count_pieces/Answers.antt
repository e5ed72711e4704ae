use borrow.Author.Rules.{rules}
use Rattle.contents.proofs.Walks.{cut_less}
use Rattle.probes.proofs.Pieces.{piecing_first, piecing_next, piecing_room, piecing_end}
use Rattle.probes.proofs.counts.count_pieces.Goals as goal

pub loop-value-init : goal.loop-value-init
loop-value-init c = search piecing_first

pub overflow_add-n : goal.overflow_add-n
overflow_add-n c = search (rules, piecing_room)

pub loop-value-smaller : goal.loop-value-smaller
loop-value-smaller c = search cut_less

pub loop-value-preserved : goal.loop-value-preserved
loop-value-preserved c = search piecing_next

pub returns : goal.returns
returns c = search piecing_end

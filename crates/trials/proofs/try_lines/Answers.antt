use borrow.Author.Rules.{rules}
use Rattle.contents.proofs.Walks.{line_less}
use Rattle.trials.proofs.Lining.{lining_first, lining_end, lining_few, lining_next, lining_fit}
use Rattle.trials.proofs.try_lines.Goals as goal

pub loop-line-init : goal.loop-line-init
loop-line-init c = search lining_first

pub overflow_add-trials : goal.overflow_add-trials
overflow_add-trials c = search (rules, lining_fit)

pub loop-line-smaller : goal.loop-line-smaller
loop-line-smaller c = search line_less

pub loop-line-preserved : goal.loop-line-preserved
loop-line-preserved c = search lining_next

pub returns : goal.returns
returns c = (search lining_end, search lining_few)

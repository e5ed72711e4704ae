use Rattle.contents.proofs.Walks.{cut_less}
use Rattle.trials.proofs.Items.{met_as}
use Rattle.trials.proofs.Values.{trying_first, trying_next, trying_end, trying_few}
use Rattle.trials.proofs.try_pieces.Goals as goal

pub loop-value-init : goal.loop-value-init
loop-value-init c = search trying_first

pub loop-value-smaller : goal.loop-value-smaller
loop-value-smaller c = search cut_less

pub loop-value-preserved : goal.loop-value-preserved
loop-value-preserved c =
    trying_next _ _ _ _ c.next_cut.ensures _ _ c.loop-value.invariant _ c.in-Some.is _ (met_as _ _ c.requires.written _ _ _ c.meets-m.ensures)

pub returns : goal.returns
returns c = (search trying_end, search trying_few)

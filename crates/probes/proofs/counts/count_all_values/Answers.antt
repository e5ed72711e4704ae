use Rattle.probes.proofs.Placing.{fielding_first, fielding_end, fielding_next, fielding_room}
use Rattle.probes.proofs.counts.count_all_values.Goals as goal

pub loop-i-init : goal.loop-i-init
loop-i-init c = fielding_first _

pub overflow_add-n : goal.overflow_add-n
overflow_add-n c = record {
  fits = fielding_room _ _ _ _ c.args.request.now.placed _ _ _ c.field-field.ensures _ c.as_matched-name.ensures _ c.loop-i.invariant _ c.count_values-n.ensures;
}

pub loop-i-preserved : goal.loop-i-preserved
loop-i-preserved c =
    fielding_next _ _ _ _ c.args.request.now.placed _ _ _ c.field-field.ensures _ c.as_matched-name.ensures _ c.loop-i.invariant _ c.count_values-n.ensures

pub returns : goal.returns
returns c = fielding_end _ _ _ _ c.args.request.now.placed _ _ c.loop-i.invariant c.loop-i-test.false

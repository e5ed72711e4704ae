use Rattle.trials.proofs.Fielding.{fielding_first, fielding_few, fielding_end, fielding_next, fielding_fit}
use Rattle.trials.proofs.try_fields.Goals as goal

pub loop-i-init : goal.loop-i-init
loop-i-init c = fielding_first _ _ _ _

pub overflow_add-trials : goal.overflow_add-trials
overflow_add-trials c =
    record { fits = fielding_fit _ _ _ _ c.field-field.ensures _ c.as_matched-name.ensures _ _ _ _ _ c.loop-i.invariant _ c.try_field-r.ensures.0 }

pub loop-i-preserved : goal.loop-i-preserved
loop-i-preserved c =
    fielding_next _ _ _ _ c.field-field.ensures _ c.as_matched-name.ensures _ _ _ _ _ c.loop-i.invariant _ c.try_field-r.ensures.0

pub returns : goal.returns
returns c = (
  fielding_end _ _ _ _ c.args.request.now.placed _ _ _ _ _ _ c.loop-i.invariant c.loop-i-test.false,
  fielding_few _ _ _ _ _ _ _ c.loop-i.invariant,
)

use Rattle.spots.proofs.Showing.{fielding_first, fielding_end, fielding_found, fielding_low, fielding_next, none_shown_low}
use Rattle.spots.proofs.show_fields.Goals as goal

pub loop-i-init : goal.loop-i-init
loop-i-init c = fielding_first _ _ _ _

pub returns-then-x : goal.returns-then-x
returns-then-x c = (
  fielding_found _ _ _ _ c.field-field.ensures _ c.as_matched-name.ensures _ _ _ c.loop-i.invariant _ c.spot_in_field-x.ensures.0 c.if-x.true _ c.shown_in.ensures,
  fielding_low _ _ _ _ c.args.request.now.placed _ c.loop-i-test.true _ c.spot_in_field-x.ensures.1 _ c.shown_in.ensures,
)

pub loop-i-preserved : goal.loop-i-preserved
loop-i-preserved c =
    fielding_next _ _ _ _ c.field-field.ensures _ c.as_matched-name.ensures _ _ _ c.loop-i.invariant _ c.spot_in_field-x.ensures.0 c.if-x.false

pub returns : goal.returns
returns c = (
  fielding_end _ _ _ _ c.args.request.now.placed _ _ _ _ c.loop-i.invariant c.loop-i-test.false _ c.none_shown.ensures,
  none_shown_low _ c.none_shown.ensures,
)

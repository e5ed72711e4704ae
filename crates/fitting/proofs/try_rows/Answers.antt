use Rattle.fitting.proofs.Evaluating.{marking_first, marking_next, marking_fit, marking_end}
use Rattle.fitting.proofs.Ruling.{row_tried}
use Rattle.profile.proofs.Standings.{bounds}
use native.Mathlib.Omega.{arith}
use borrow.Author.Rules.{rules}
use Rattle.fitting.proofs.try_rows.Goals as goal

pub loop-i-init : goal.loop-i-init
loop-i-init c = search marking_first

pub try_row-v-requires : goal.try_row-v-requires
try_row-v-requires c = record { in_image = omega (arith, c.loop-i-test.true, c.requires.in_image); room_for_each = search rules }

pub overflow_add-trigger : goal.overflow_add-trigger
overflow_add-trigger c =
    let lies = bounds _ _ _ c.args.image.now.standing in
    record { fits = omega (arith, c.loop-i-test.true, c.requires.in_image, lies.rows_end, lies.size) }

pub mark-mask-requires : goal.mark-mask-requires
mark-mask-requires c = omega (arith, c.loop-i-test.true, c.requires.in_image.1)

pub overflow_add-trials : goal.overflow_add-trials
overflow_add-trials c =
    let more = c.loop-i-test.true in
    let tried = row_tried _ _ _ c.args.image.now.standing _ _ _ (omega (arith, more, c.requires.in_image)) _ c.try_row-v.ensures in
    record { fits = marking_fit _ _ _ _ _ _ _ c.loop-i.invariant more c.requires.in_image.1 _ _ tried }

pub loop-i-preserved : goal.loop-i-preserved
loop-i-preserved c =
    let more = c.loop-i-test.true in
    let tried = row_tried _ _ _ c.args.image.now.standing _ _ _ (omega (arith, more, c.requires.in_image)) _ c.try_row-v.ensures in
    marking_next _ _ _ _ _ _ _ c.loop-i.invariant more _ _ tried c.mark-mask.ensures

pub returns : goal.returns
returns c = marking_end _ _ _ _ _ _ _ c.loop-i.invariant (omega (arith, c.loop-i-test.false))

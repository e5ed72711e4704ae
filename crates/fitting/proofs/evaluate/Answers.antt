use mathlib.Core.Path.{ap}
use mathlib.Core.Bool.{not}
use Rattle.fitting.proofs.Ruling.{trigger_bounds, evaluated_out, evaluated_in}
use native.Mathlib.Omega.{arith}
use Rattle.profile.proofs.Standings.{bounds}
use Rattle.fitting.proofs.evaluate.Goals as goal

pub returns-then-not-part_in : goal.returns-then-not-part_in
returns-then-not-part_in c =
    evaluated_out _ _ _ c.args.image.now.standing _ _ _ c.requires.in_image _ c.criterion-c.ensures _ c.part_in.ensures (ap not c.if-not-part_in.true)

pub try_rows-marks-requires : goal.try_rows-marks-requires
try_rows-marks-requires c =
    let rows = trigger_bounds _ _ _ c.args.image.now.standing _ c.requires.in_image _ c.criterion-c.ensures in
    record { in_image = (rows.1, rows.0); room_for_each = c.requires.room_for_each }

pub invariant_of-members : goal.invariant_of-members
invariant_of-members c = let lies = bounds _ _ _ c.args.image.now.standing in record { inside = lies.members_end; small = lies.size }

pub invariant_of-rows : goal.invariant_of-rows
invariant_of-rows c =
    let rows = trigger_bounds _ _ _ c.args.image.now.standing _ c.requires.in_image _ c.criterion-c.ensures in
    let lies = bounds _ _ _ c.args.image.now.standing in
    record { low = omega (arith, rows.1, lies.rows_end, lies.size); few = rows.0 }

pub returns : goal.returns
returns c =
    evaluated_in _ _ _ c.args.image.now.standing _ _ _ c.requires.in_image _ c.criterion-c.ensures _ c.part_in.ensures (ap not c.if-not-part_in.false) _ _
    c.try_rows-marks.ensures c.trigger_fits.ensures

use native.Mathlib.Omega.{arith}
use Rattle.profile.proofs.Found.{part_room}
use Rattle.profile.proofs.Standings.{string_table}
use Rattle.lookups.proofs.Found.{stored_none, stored_some}
use Rattle.lookups.proofs.stored_part.Goals as goal

pub returns-then-image-i : goal.returns-then-image-i
returns-then-image-i c = stored_none _ _ _ c.args.image.now.standing _ c.if-image-i.true

pub offset_bounds-image-i : goal.offset_bounds-image-i
offset_bounds-image-i c = record { fits = omega (arith, c.if-image-i.false, (string_table _ _ _ c.args.image.now.standing).count) }

pub bounds-image-i : goal.bounds-image-i
bounds-image-i c = omega (arith, c.if-image-i.false, (string_table _ _ _ c.args.image.now.standing).count)

pub number-size-requires : goal.number-size-requires
number-size-requires c = part_room _ _ _ (string_table _ _ _ c.args.image.now.standing) _ _ c.if-image-i.false c.from-o.ensures

pub returns : goal.returns
returns c = stored_some _ _ _ c.args.image.now.standing _ _ c.if-image-i.false c.from-o.ensures _ c.number-size.ensures

use native.Mathlib.Omega.{arith}
use Rattle.request.proofs.Lent.{rooms_new}
use Rattle.request.proofs.Readings.{readable, readable_short}
use Rattle.show.proofs.Calling.{show_unreadable, show_past, show_done}
use Rattle.show.proofs.show_in.Goals as goal

pub read-requires : goal.read-requires
read-requires g c = rooms_new _ _ _ _ c.requires.room

pub returns-in_default : goal.returns-in_default
returns-in_default g c = show_unreadable _ _ _ _ _ _ c.read.ensures _ _ _ c.args.image.now.standing _ _ c.in_default.is c.refuse.ensures

pub returns-then-image-k : goal.returns-then-image-k
returns-then-image-k g c =
    show_past _ _ _ _ _ _ c.read.ensures _ _ _ c.args.image.now.standing _ _ _ c.in-Some.is c.if-image-k.true c.refuse-then-image-k.ensures

pub invariant_of-request : goal.invariant_of-request
invariant_of-request g c = record { placed = readable _ _ _ _ _ _ c.read.ensures _ c.in-Some.is }

pub show_row-requires : goal.show_row-requires
show_row-requires g c =
    let short = readable_short _ _ _ _ _ _ c.read.ensures _ c.in-Some.is in
    record { in_image = c.if-image-k.false; room_for_each = omega (arith, (c.requires.room short).1, c.read.auto.room) }

pub returns : goal.returns
returns g c =
    show_done _ _ _ _ _ _ c.read.ensures _ _ _ c.args.image.now.standing _ _ _ c.in-Some.is c.if-image-k.false _ c.show_row.ensures.0 c.answer_of.ensures

use native.Mathlib.Omega.{arith}
use Rattle.request.proofs.Lent.{rooms_new}
use Rattle.request.proofs.Readings.{readable, readable_short}
use Rattle.probes.proofs.PartsCounting.{nothing_read, fields_low, parts_counted}
use Rattle.probes.proofs.counts.count_parts.Goals as goal

pub read-requires : goal.read-requires
read-requires g c = rooms_new _ _ _ _ c.requires.room

pub returns-in_default : goal.returns-in_default
returns-in_default g c = nothing_read _ _ _ _ _ _ c.read.ensures c.in_default.is

pub invariant_of-request : goal.invariant_of-request
invariant_of-request g c = record { placed = readable _ _ _ _ _ _ c.read.ensures _ c.in-Some.is }

pub to_long-requires : goal.to_long-requires
to_long-requires g c = fields_low _ _ _ _ (readable _ _ _ _ _ _ c.read.ensures _ c.in-Some.is)

pub count_all_values-requires : goal.count_all_values-requires
count_all_values-requires g c =
    let short = readable_short _ _ _ _ _ _ c.read.ensures _ c.in-Some.is in
    omega (arith, (c.requires.room short).1, c.read.auto.room)

pub returns : goal.returns
returns g c =
    parts_counted _ _ _ _ (readable _ _ _ _ _ _ c.read.ensures _ c.in-Some.is) _ _ _ _ c.count_all_values.ensures c.described.ensures.0 c.count_lines.ensures
    c.to_long.ensures

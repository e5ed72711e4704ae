use native.Mathlib.Omega.{arith}
use mathlib.Core.Path.{refl}
use Rattle.plain.proofs.Turning.{reach_done, reach_anchor, reach_fail, reach_once, reach_skip, reach_both, taken_in, short_more, short_way}
use Rattle.plain.proofs.+reach.Goals as goal

pub returns-then-p-i : goal.returns-then-p-i
returns-then-p-i t c = reach_done _ _ _ _ c.requires c.if-p-i.true _ refl

pub returns-then-peek_at-i : goal.returns-then-peek_at-i
returns-then-peek_at-i t c =
    reach_anchor _ _ _ _ c.requires c.if-p-i.false _ c.peek_at.ensures c.if-peek_at-i.true _ c.then_some.ensures

pub returns-then-not-takes : goal.returns-then-not-takes
returns-then-not-takes t c =
    reach_fail _ _ _ _ c.requires c.if-p-i.false _ c.peek_at.ensures c.if-peek_at-i.false _ c.peek_at-2.ensures _ c.try_one-one.ensures _ c.peek_at-3.ensures c.if-peek_at-ne42.true c.if-not-takes.true _ refl

pub reach-on-requires : goal.reach-on-requires
reach-on-requires t c =
    let falls = c.decreases in
    let on = c.try_one-one.ensures.onward in
    let inside = taken_in _ _ c.requires _ c.if-not-takes.false in
    (omega arith, short_more _ _ c.requires inside)

pub one_more-requires : goal.one_more-requires
one_more-requires t c = omega (arith, short_way _ _ _ _ _ c.requires c.reach-on.ensures)

pub returns-then-peek_at-ne42 : goal.returns-then-peek_at-ne42
returns-then-peek_at-ne42 t c =
    reach_once _ _ _ _ c.requires c.if-p-i.false _ c.peek_at.ensures c.if-peek_at-i.false _ c.peek_at-2.ensures _ c.try_one-one.ensures _ c.peek_at-3.ensures c.if-peek_at-ne42.true c.if-not-takes.false _ c.reach-on.ensures _ c.one_more.ensures

pub reach-without-requires : goal.reach-without-requires
reach-without-requires t c =
    let falls = c.decreases in
    let on = c.try_one-one.ensures.onward in
    (omega arith, c.requires)

pub returns-then-not-takes-2 : goal.returns-then-not-takes-2
returns-then-not-takes-2 t c =
    reach_skip _ _ _ _ c.requires c.if-p-i.false _ c.peek_at.ensures c.if-peek_at-i.false _ c.peek_at-2.ensures _ c.try_one-one.ensures _ c.peek_at-3.ensures c.if-peek_at-ne42.false _ c.reach-without.ensures c.if-not-takes-2.true

pub reach-on-requires-2 : goal.reach-on-requires-2
reach-on-requires-2 t c =
    let falls = c.decreases in
    let inside = taken_in _ _ c.requires _ c.if-not-takes-2.false in
    (omega arith, short_more _ _ c.requires inside)

pub one_more-requires-2 : goal.one_more-requires-2
one_more-requires-2 t c = omega (arith, short_way _ _ _ _ _ c.requires c.reach-on-2.ensures)

pub returns : goal.returns
returns t c =
    reach_both _ _ _ _ c.requires c.if-p-i.false _ c.peek_at.ensures c.if-peek_at-i.false _ c.peek_at-2.ensures _ c.try_one-one.ensures _ c.peek_at-3.ensures c.if-peek_at-ne42.false _ c.reach-without.ensures c.if-not-takes-2.false _ c.reach-on-2.ensures _ c.one_more-2.ensures _ c.longer.ensures

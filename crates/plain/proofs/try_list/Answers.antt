use native.Mathlib.Omega.{arith}
use mathlib.Core.Path.{refl}
use Rattle.plain.proofs.Trying.{walk_start, walk_end, walk_close, walk_more, last_inside}
use Rattle.plain.proofs.try_list.Goals as goal

pub loop-i-init : goal.loop-i-init
loop-i-init c =
    walk_start _ _ _ c.requires

pub returns-then-low-from : goal.returns-then-low-from
returns-then-low-from c =
    walk_close _ _ c.loop-i-test.true _ _ _ c.loop-i.invariant _ c.peek_at-low.ensures c.if-low-from.true _ refl

pub overflow_add-i : goal.overflow_add-i
overflow_add-i c =
    omega (arith, (last_inside _ _ _ c.loop-i-test.true c.last_at-last.ensures).1)

pub loop-i-smaller : goal.loop-i-smaller
loop-i-smaller c =
    omega (arith, (last_inside _ _ _ c.loop-i-test.true c.last_at-last.ensures).0)

pub loop-i-preserved : goal.loop-i-preserved
loop-i-preserved c =
    walk_more _ _ c.loop-i-test.true _ _ _ c.loop-i.invariant _ c.peek_at-low.ensures c.if-low-from.false _ c.last_at-last.ensures _ c.peek_at-high.ensures

pub returns : goal.returns
returns c =
    walk_end _ _ _ _ _ c.loop-i.invariant c.loop-i-test.false _ refl

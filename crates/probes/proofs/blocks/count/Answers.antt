use borrow.Author.Rules.{rules}
use mathlib.Core.Path.{◌∙◌}
use Rattle.probes.proofs.Counting.{counting_first, counting_end, counting_next, line_inside}
use native.Mathlib.Omega.{arith}
use Rattle.probes.proofs.blocks.count.Goals as goal

pub loop-at-init : goal.loop-at-init
loop-at-init c = counting_first _ _

pub slice_bounds-meets-end : goal.slice_bounds-meets-end
slice_bounds-meets-end c = search (rules, line_inside)

pub overflow_add-n : goal.overflow_add-n
overflow_add-n c = omega (arith, c.one_if.ensures.1, c.from_long-n.ensures, c.loop-at.invariant.few, c.loop-at-test.true)

pub overflow_add-at : goal.overflow_add-at
overflow_add-at c = omega (arith, line_inside _ _ _ c.loop-at-test.true c.place_of-end.ensures)

pub loop-at-smaller : goal.loop-at-smaller
loop-at-smaller c = search (rules, line_inside)

pub loop-at-preserved : goal.loop-at-preserved
loop-at-preserved c =
    counting_next _ _ _ _ c.loop-at-test.true c.place_of-end.ensures _ c.meets-m.ensures _ (c.from_long-n.ensures ∙ c.one_if.ensures.0) _ c.loop-at.invariant

pub returns : goal.returns
returns c = search counting_end

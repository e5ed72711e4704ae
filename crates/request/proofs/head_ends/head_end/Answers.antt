use Rattle.request.proofs.Seconds.{head_start, head_before, next_by_lf, head_here, next_by_cr, head_none}
use Rattle.request.proofs.head_ends.head_end.Goals as goal

pub loop-k-init : goal.loop-k-init
loop-k-init c = head_start _ _ (record { even = c.every_second-k.ensures.value; above = c.every_second-k.ensures.by_index })

pub returns-then-empty_line_at : goal.returns-then-empty_line_at
returns-then-empty_line_at c = search head_before

pub loop-k-preserved-then-s-k-eq10 : goal.loop-k-preserved-then-s-k-eq10
loop-k-preserved-then-s-k-eq10 c =
    next_by_lf _ _ c.loop-k.invariant c.loop-k-test.true _ _ (record { even = c.every_second-k-then-s-k-eq10.ensures.value; above = c.every_second-k-then-s-k-eq10.ensures.by_index })
    c.if-s-k-eq10.true c.empty_line_at.ensures c.if-empty_line_at.false

pub returns-then-empty_line_at-2 : goal.returns-then-empty_line_at-2
returns-then-empty_line_at-2 c = search head_here

pub loop-k-preserved : goal.loop-k-preserved
loop-k-preserved c =
    next_by_cr _ _ c.loop-k.invariant c.loop-k-test.true _ _ (record { even = c.every_second-k-else-s-k-eq10.ensures.value; above = c.every_second-k-else-s-k-eq10.ensures.by_index })
    c.if-s-k-eq10.false c.empty_line_at-else-s-k-eq10.ensures c.if-empty_line_at-2.false

pub returns : goal.returns
returns c = search head_none

use Rattle.request.proofs.Seconds.{above_none, above_next, low_past}
use Rattle.request.proofs.head_ends.every_second.Goals as goal

pub loop-k-init : goal.loop-k-init
loop-k-init c = above_none _ _

pub returns-then-s-k-le13 : goal.returns-then-s-k-le13
returns-then-s-k-le13 c = let i = c.loop-k.invariant in record { value = i.even; by_index = i.above; result_bound = c.if-s-k-le13.true }

pub loop-k-preserved : goal.loop-k-preserved
loop-k-preserved c = search above_next

pub returns : goal.returns
returns c = let i = c.loop-k.invariant in record { value = i.even; by_index = i.above; result_bound = search low_past }

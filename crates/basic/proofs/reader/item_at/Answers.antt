use Rattle.basic.proofs.Items.{item_not, item_alone, item_last, item_inside, item_range}
use Rattle.basic.proofs.reader.item_at.Goals as goal

pub returns-then-not-may_begin : goal.returns-then-not-may_begin
returns-then-not-may_begin c = search item_not

pub returns-then-next-ne45 : goal.returns-then-next-ne45
returns-then-next-ne45 c = search item_alone

pub returns-then-end : goal.returns-then-end
returns-then-end c = search item_last

pub range_at-requires : goal.range_at-requires
range_at-requires c = search item_inside

pub returns : goal.returns
returns c = search item_range

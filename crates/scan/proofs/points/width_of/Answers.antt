use Rattle.scan.proofs.Lettered.{start_order, width_is}
use Rattle.scan.proofs.points.width_of.Goals as goal

pub overflow_sub-result : goal.overflow_sub-result
overflow_sub-result c = search start_order

pub returns : goal.returns
returns c = search width_is

use borrow.Author.Rules.{rules}
use Rattle.contents.proofs.Shortening.{long_order, long_inside, long_found}
use Rattle.contents.proofs.names.long_name.Goals as goal

pub slice_bounds-result-count : goal.slice_bounds-result-count
slice_bounds-result-count c = search (rules, long_order)

pub slice_bounds-result-start : goal.slice_bounds-result-start
slice_bounds-result-start c = search (rules, long_order)

pub slice_bounds-result-end : goal.slice_bounds-result-end
slice_bounds-result-end c = search (rules, long_inside)

pub returns : goal.returns
returns c = search long_found

use Rattle.contents.proofs.Laws.{reduced_inside, reduced_short}
use Rattle.request.proofs.Described.{value_says}
use borrow.Author.Rules.{rules}
use Rattle.request.proofs.descriptions.value_describes.Goals as goal

pub slice_bounds-is_description-end : goal.slice_bounds-is_description-end
slice_bounds-is_description-end c = search (rules, reduced_inside)

pub is_description-requires : goal.is_description-requires
is_description-requires c = search (rules, reduced_short)

pub returns : goal.returns
returns c = search value_says

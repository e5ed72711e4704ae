use Rattle.contents.proofs.Describing.{piece_order, piece_inside, two_values, one_value}
use Rattle.contents.proofs.description.is_description.Goals as goal

pub returns-then-next-v : goal.returns-then-next-v
returns-then-next-v c = search two_values

pub slice_bounds-says_description-count : goal.slice_bounds-says_description-count
slice_bounds-says_description-count c = search piece_order

pub slice_bounds-says_description-start : goal.slice_bounds-says_description-start
slice_bounds-says_description-start c = search piece_order

pub slice_bounds-says_description-end : goal.slice_bounds-says_description-end
slice_bounds-says_description-end c = search piece_inside

pub returns : goal.returns
returns c = search one_value

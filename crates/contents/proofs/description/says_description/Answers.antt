use Rattle.contents.proofs.Describing.{semicolon_inside, text_inside, blanks_inside, says}
use Rattle.contents.proofs.description.says_description.Goals as goal

pub slice_bounds-trimmed_end-end : goal.slice_bounds-trimmed_end-end
slice_bounds-trimmed_end-end c = search semicolon_inside

pub slice_bounds-blanks-end : goal.slice_bounds-blanks-end
slice_bounds-blanks-end c = search text_inside

pub slice_bounds-same_letters-count : goal.slice_bounds-same_letters-count
slice_bounds-same_letters-count c = search blanks_inside

pub slice_bounds-same_letters-start : goal.slice_bounds-same_letters-start
slice_bounds-same_letters-start c = search blanks_inside

pub slice_bounds-same_letters-end : goal.slice_bounds-same_letters-end
slice_bounds-same_letters-end c = search text_inside

pub returns : goal.returns
returns c = search says

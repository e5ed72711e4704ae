use Rattle.scan.proofs.ValuePoints.{tag_some, tag_number, tag_wide, tag_is, tag_leads}
use Rattle.scan.proofs.tags.end_tag_of.Goals as goal

pub overflow_sub-j : goal.overflow_sub-j
overflow_sub-j c = search tag_some

pub width_of-requires : goal.width_of-requires
width_of-requires c = search tag_number

pub next_of-requires : goal.next_of-requires
next_of-requires c = search tag_number

pub returns : goal.returns
returns c = (search tag_is, search tag_wide, search tag_leads)

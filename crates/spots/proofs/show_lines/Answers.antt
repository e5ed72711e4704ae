use Rattle.contents.proofs.Walks.{line_less}
use Rattle.spots.proofs.Showing.{lining_first, lining_end, lining_found, lining_low, lining_next, line_value_short, count_room, none_shown_low}
use Rattle.spots.proofs.show_lines.Goals as goal

pub loop-line-init : goal.loop-line-init
loop-line-init c = search lining_first

pub spot_in_line-x-requires : goal.spot_in_line-x-requires
spot_in_line-x-requires c = record { value_len_bound = search line_value_short; written = c.requires.written }

pub returns-then-x : goal.returns-then-x
returns-then-x c = (search lining_found, search lining_low)

pub overflow_add-i : goal.overflow_add-i
overflow_add-i c = record { fits = search count_room }

pub loop-line-smaller : goal.loop-line-smaller
loop-line-smaller c = search line_less

pub loop-line-preserved : goal.loop-line-preserved
loop-line-preserved c = search lining_next

pub returns : goal.returns
returns c = (search lining_end, search none_shown_low)

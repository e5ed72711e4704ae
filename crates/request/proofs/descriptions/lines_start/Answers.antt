use Rattle.request.proofs.Described.{start_room, after_head, at_the_end}
use Rattle.request.proofs.descriptions.lines_start.Goals as goal

pub overflow_add-result : goal.overflow_add-result
overflow_add-result c = record { fits = search start_room }

pub returns-then-is_described : goal.returns-then-is_described
returns-then-is_described c = search after_head

pub returns : goal.returns
returns c = search at_the_end

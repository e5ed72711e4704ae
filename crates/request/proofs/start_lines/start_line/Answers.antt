use Rattle.request.proofs.StartParts.{start_no_sp, start_one_sp, start_right, start_wrong}
use Rattle.request.proofs.start_lines.start_line.Goals as goal

pub returns-then-l-m : goal.returns-then-l-m
returns-then-l-m c = search start_no_sp

pub returns-then-l-u : goal.returns-then-l-u
returns-then-l-u c = search start_one_sp

pub returns-then-start_parts_right : goal.returns-then-start_parts_right
returns-then-start_parts_right c = search start_right

pub returns : goal.returns
returns c = search start_wrong

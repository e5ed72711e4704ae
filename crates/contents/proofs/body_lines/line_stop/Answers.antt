use Rattle.contents.proofs.BodyLines.{stop_end, stop_empty, stop_cr, stop_text}
use Rattle.contents.proofs.body_lines.line_stop.Goals as goal

pub returns-then-b-k : goal.returns-then-b-k
returns-then-b-k c = search stop_end

pub returns-then-k-from : goal.returns-then-k-from
returns-then-k-from c = search stop_empty

pub returns-then-last-eq13 : goal.returns-then-last-eq13
returns-then-last-eq13 c = search stop_cr

pub returns : goal.returns
returns c = search stop_text

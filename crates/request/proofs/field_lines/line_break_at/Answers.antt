use Rattle.request.proofs.Ends.{break_no_cr, break_no_lf, break_fold, break_yes}
use Rattle.request.proofs.field_lines.line_break_at.Goals as goal

pub returns-then-h-i-ne13 : goal.returns-then-h-i-ne13
returns-then-h-i-ne13 c = search break_no_cr

pub returns-then-byte_at-ne10 : goal.returns-then-byte_at-ne10
returns-then-byte_at-ne10 c = search break_no_lf

pub returns-then-is_white : goal.returns-then-is_white
returns-then-is_white c = search break_fold

pub returns : goal.returns
returns c = search break_yes

use Rattle.request.proofs.Ends.{empty_none, empty_no_2, empty_no_3, empty_no_4, empty_yes}
use Rattle.request.proofs.head_ends.empty_line_at.Goals as goal

pub returns-then-s-i-ne13 : goal.returns-then-s-i-ne13
returns-then-s-i-ne13 c = search empty_none

pub returns-then-byte_at-ne10 : goal.returns-then-byte_at-ne10
returns-then-byte_at-ne10 c = search empty_no_2

pub returns-then-byte_at-ne13 : goal.returns-then-byte_at-ne13
returns-then-byte_at-ne13 c = search empty_no_3

pub returns-then-byte_at-ne10-2 : goal.returns-then-byte_at-ne10-2
returns-then-byte_at-ne10-2 c = search empty_no_4

pub returns : goal.returns
returns c = search empty_yes

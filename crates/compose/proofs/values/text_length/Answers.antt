use Rattle.compose.proofs.Decoding.{lengthening_first, lengthening_end, lengthening_last, lengthening_next, lengthening_less}
use Rattle.compose.proofs.values.text_length.Goals as goal

pub loop-i-init : goal.loop-i-init
loop-i-init c = search lengthening_first

pub returns-then-t-i : goal.returns-then-t-i
returns-then-t-i c = search lengthening_last

pub loop-i-smaller : goal.loop-i-smaller
loop-i-smaller c = search lengthening_less

pub loop-i-preserved : goal.loop-i-preserved
loop-i-preserved c = search lengthening_next

pub returns : goal.returns
returns c = search lengthening_end

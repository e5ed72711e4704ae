use Rattle.compose.proofs.Counting.{valuing_first, valuing_end, valuing_next}
use Rattle.compose.proofs.values.value_of.Goals as goal

pub loop-b-init : goal.loop-b-init
loop-b-init c = search valuing_first

pub loop-b-preserved : goal.loop-b-preserved
loop-b-preserved c = search valuing_next

pub returns : goal.returns
returns c = search valuing_end

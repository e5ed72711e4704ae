use Rattle.compose.proofs.Finding.{finding_first, finding_found, finding_next, finding_end}
use Rattle.compose.proofs.strings.find_text.Goals as goal

pub loop-k-init : goal.loop-k-init
loop-k-init c = search finding_first

pub returns-then-same_text : goal.returns-then-same_text
returns-then-same_text c = search finding_found

pub loop-k-preserved : goal.loop-k-preserved
loop-k-preserved c = search finding_next

pub returns : goal.returns
returns c = search finding_end

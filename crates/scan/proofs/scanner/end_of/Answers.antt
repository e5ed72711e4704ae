use Rattle.scan.proofs.Closing.{closing_first, closing_found, closing_next, closing_open}
use Rattle.scan.proofs.scanner.end_of.Goals as goal

pub loop-i-init : goal.loop-i-init
loop-i-init c = search closing_first

pub returns-then-ends_with : goal.returns-then-ends_with
returns-then-ends_with c = search closing_found

pub loop-i-preserved : goal.loop-i-preserved
loop-i-preserved c = search closing_next

pub returns : goal.returns
returns c = search closing_open

use Rattle.scan.proofs.Runs.{running_first, running_end, running_stop, running_next}
use Rattle.scan.proofs.scanner.run_end.Goals as goal

pub loop-i-init : goal.loop-i-init
loop-i-init c = search running_first

pub returns-then-not-in_class : goal.returns-then-not-in_class
returns-then-not-in_class c = search running_stop

pub loop-i-preserved : goal.loop-i-preserved
loop-i-preserved c = search running_next

pub returns : goal.returns
returns c = search running_end

use Rattle.scan.proofs.Scanning.{scanning_first, scanning_less, scanning_next, scanning_whole, scanning_wrong}
use Rattle.scan.proofs.scanner.scan_from.Goals as goal

pub loop-e-init : goal.loop-e-init
loop-e-init c = search scanning_first

pub loop-e-smaller : goal.loop-e-smaller
loop-e-smaller c = search scanning_less

pub loop-e-preserved : goal.loop-e-preserved
loop-e-preserved c = search scanning_next

pub returns-in-Whole : goal.returns-in-Whole
returns-in-Whole c = search scanning_whole

pub returns-in-Wrong : goal.returns-in-Wrong
returns-in-Wrong c = search scanning_wrong

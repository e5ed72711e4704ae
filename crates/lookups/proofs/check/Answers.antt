use Rattle.lookups.proofs.Looking.{checks_accepted, checks_refused}
use Rattle.lookups.proofs.check.Goals as goal

pub returns-in-Ok : goal.returns-in-Ok
returns-in-Ok c = checks_accepted _ c.in-Ok.field-0 c.in-Ok.ensures

pub returns-in-Err : goal.returns-in-Err
returns-in-Err c = checks_refused _ _ c.in-Err.ensures _ c.from.ensures

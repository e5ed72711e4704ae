use Rattle.lookups.proofs.Looking.{serves, serves_none, serves_refused}
use Rattle.lookups.proofs.server.Goals as goal

pub returns-in-Err : goal.returns-in-Err
returns-in-Err c = serves_refused _ _ _ _ c.in-Err.ensures _ c.from.ensures c.no_part_with.ensures

pub returns-in-Some : goal.returns-in-Some
returns-in-Some c = serves _ _ _ c.in-Ok.accepted c.in-Ok.ensures _ c.in-Some.ensures c.stored_part.ensures

pub returns-in-None : goal.returns-in-None
returns-in-None c = serves_none _ _ _ c.in-Ok.accepted c.in-Ok.ensures c.in-None.ensures c.no_part_with-in-None.ensures

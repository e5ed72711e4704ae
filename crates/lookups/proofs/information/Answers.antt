use Rattle.lookups.proofs.Looking.{informs, informs_absent, informs_none, informs_refused}
use Rattle.lookups.proofs.information.Goals as goal

pub returns-in-Err : goal.returns-in-Err
returns-in-Err c = informs_refused _ _ _ _ c.in-Err.ensures _ c.from.ensures c.no_part_with.ensures

pub returns-in-Some : goal.returns-in-Some
returns-in-Some c = informs_absent _ _ _ c.in-Ok.accepted c.in-Ok.ensures _ c.in-Some.ensures c.if-c-eq65535.true c.no_part_with-in-Some.ensures

pub returns-in-Some-2 : goal.returns-in-Some-2
returns-in-Some-2 c = informs _ _ _ c.in-Ok.accepted c.in-Ok.ensures _ c.in-Some.ensures c.if-c-eq65535.false c.stored_part.ensures

pub returns-in-None : goal.returns-in-None
returns-in-None c = informs_none _ _ _ c.in-Ok.accepted c.in-Ok.ensures c.in-None.ensures c.no_part_with-in-None.ensures

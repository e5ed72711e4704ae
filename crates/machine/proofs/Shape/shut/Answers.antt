use Rattle.machine.proofs.Hunt.{not_shut, shut_start}
use Rattle.machine.proofs.Shape.shut.Goals as goal

pub returns-then-self-ne0 : goal.returns-then-self-ne0
returns-then-self-ne0 c = not_shut _ _ _

pub returns : goal.returns
returns c = shut_start _ _ _ _ c.if-self-ne0.false c.is_met.ensures

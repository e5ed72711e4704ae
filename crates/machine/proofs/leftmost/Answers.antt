use Rattle.machine.proofs.Hunt.{first_at_once}
use Rattle.machine.proofs.leftmost.Goals as goal

pub returns-then-h-n : goal.returns-then-h-n
returns-then-h-n c = search first_at_once

pub returns-then-shut_out : goal.returns-then-shut_out
returns-then-shut_out c = c.shut_out.ensures c.if-shut_out.true

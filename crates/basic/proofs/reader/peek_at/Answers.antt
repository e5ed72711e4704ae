use Rattle.basic.proofs.Places.{peek_in, peek_past}
use native.Mathlib.Omega.{arith}
use Rattle.basic.proofs.reader.peek_at.Goals as goal

pub overflow_cast-result : goal.overflow_cast-result
overflow_cast-result c = omega (arith, c.type_inv.s c.args.i)

pub returns-then-i-s : goal.returns-then-i-s
returns-then-i-s c = search peek_in

pub returns : goal.returns
returns c = search peek_past

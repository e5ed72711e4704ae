use native.Mathlib.Omega.{arith}
use Rattle.pattern.proofs.Laying.{lay_plain, lay_lost, lay_read}
use Rattle.pattern.proofs.edition1.lay_atom.Goals as goal

pub returns-then-is_plain : goal.returns-then-is_plain
returns-then-is_plain c =
    lay_plain c.args.s.now c.args.i c.args.first c.args.fold c.requires.0 c.args.sets.now c.args.at (omega (arith, c.requires.1, c.requires.2)) _ _ c.is_plain.ensures c.if-is_plain.true c.lay_byte.ensures

pub returns-in_err-a : goal.returns-in_err-a
returns-in_err-a c =
    rw c.from_residual.ensures (lay_lost c.args.s.now c.args.i c.args.first c.args.fold c.requires.0 c.args.sets.now c.args.at (omega (arith, c.requires.1, c.requires.2)) c.in_err-a.ensures)

pub returns : goal.returns
returns c =
    lay_read c.args.s.now c.args.i c.args.first c.args.fold c.requires.0 c.args.sets.now c.args.at (omega (arith, c.requires.1, c.requires.2)) _ c.in_ok-a.ensures _ c.set_as-set.ensures

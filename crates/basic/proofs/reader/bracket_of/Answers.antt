use Rattle.basic.proofs.Atoms.{list_refused, list_closed}
use Rattle.basic.proofs.reader.bracket_of.Goals as goal

pub returns : goal.returns
returns c = list_closed _ _ _ _ _ c.in_ok-p.ensures _ c.closed-set.ensures

pub returns-in_err-p : goal.returns-in_err-p
returns-in_err-p c = rw c.from_residual.ensures (list_refused c.args.s.now c.args.from c.args.negated c.args.build c.in_err-p.ensures)

use Rattle.plain.proofs.Trying.{last_range, last_same}
use Rattle.plain.proofs.last_at.Goals as goal

pub returns-then-peek_at-end : goal.returns-then-peek_at-end
returns-then-peek_at-end c =
    last_range c.args.p.now c.args.i _ _ c.peek_at.ensures c.peek_at-end.ensures c.if-peek_at-end.true

pub returns : goal.returns
returns c =
    last_same c.args.p.now c.args.i _ _ c.peek_at.ensures c.peek_at-end.ensures c.if-peek_at-end.false

use borrow.Author.Rules.{rules}
use Rattle.basic.proofs.Listing.{gather_none, gather_close, gather_refused, gather_more, gather_end}
use Rattle.basic.proofs.reader.items_at.Goals as goal

pub loop-i-init : goal.loop-i-init
loop-i-init c = search gather_none

pub returns-then-s-i : goal.returns-then-s-i
returns-then-s-i c = gather_close _ _ _ _ _ _ c.loop-i.invariant (search rules) c.if-s-i.true

pub loop-i-preserved : goal.loop-i-preserved
loop-i-preserved c = gather_more _ _ _ _ _ _ c.loop-i.invariant (search rules) c.if-s-i.false _ (c.in_ok-item.ensures) _ c.widen-wider.ensures

pub returns : goal.returns
returns c = gather_end _ _ _ _ _ _ c.loop-i.invariant (search rules)

pub returns-in_err-item : goal.returns-in_err-item
returns-in_err-item c = rw c.from_residual.ensures (gather_refused _ _ _ _ _ _ c.loop-i.invariant (search rules) c.if-s-i.false c.in_err-item.ensures)

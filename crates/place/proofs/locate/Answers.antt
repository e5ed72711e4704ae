use Rattle.place.proofs.Answering.{locate_nowhere, locate_place}
use Rattle.place.proofs.locate.Goals as goal

pub returns-then-text-start : goal.returns-then-text-start
returns-then-text-start c = λ fold p ready.
    locate_nowhere fold p _ _ _ ready c.args.text.now (λ i. (c.type_inv.text i).fits) _ c.leftmost-start.ensures c.if-text-start.true

pub returns : goal.returns
returns c = λ fold p ready.
    locate_place fold p _ _ _ ready c.args.text.now (λ i. (c.type_inv.text i).fits) _ c.leftmost-start.ensures c.if-text-start.false _ c.longest-size.ensures

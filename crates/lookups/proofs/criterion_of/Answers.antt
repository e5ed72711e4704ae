use Rattle.lookups.proofs.Looking.{found_past, found_there}
use Rattle.lookups.proofs.criterion_of.Goals as goal

pub returns-then-image-i : goal.returns-then-image-i
returns-then-image-i c = found_past _ _ _ c.args.image.now.standing _ c.if-image-i.true

pub returns : goal.returns
returns c = found_there _ _ _ c.args.image.now.standing _ _ c.criterion.ensures c.if-image-i.false

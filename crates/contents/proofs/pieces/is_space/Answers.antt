use Rattle.contents.proofs.Norm.{space_is}
use Rattle.contents.proofs.pieces.is_space.Goals as goal

pub returns : goal.returns
returns c = search space_is

use Rattle.basic.proofs.Words.{other_words}
use Rattle.basic.proofs.sets.others.Goals as goal

pub returns : goal.returns
returns c f e = other_words _ f e

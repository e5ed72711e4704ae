use Rattle.basic.proofs.Words.{only_words}
use Rattle.basic.proofs.sets.only.Goals as goal

pub returns : goal.returns
returns c = search only_words

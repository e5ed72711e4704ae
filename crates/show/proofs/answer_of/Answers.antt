use Rattle.show.proofs.Rowing.{answered_by}
use Rattle.show.proofs.answer_of.Goals as goal

pub returns : goal.returns
returns c = search answered_by

use Rattle.fitting.proofs.Members.{hits_yes, hits_not}
use Rattle.fitting.proofs.trigger.Members.hits.Goals as goal

pub returns-then-want : goal.returns-then-want
returns-then-want c = search hits_yes

pub returns : goal.returns
returns c = search hits_not

use Rattle.pattern.proofs.Laying.{as_name, as_written}
use Rattle.pattern.proofs.edition1.set_as.Goals as goal

pub returns-then-fold : goal.returns-then-fold
returns-then-fold c = search as_name

pub returns : goal.returns
returns c = search as_written

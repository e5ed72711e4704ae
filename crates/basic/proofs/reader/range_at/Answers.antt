use Rattle.basic.proofs.Items.{range_falls, range_class, range_on}
use Rattle.basic.proofs.reader.range_at.Goals as goal

pub returns-then-hi-lo : goal.returns-then-hi-lo
returns-then-hi-lo c = search range_falls

pub returns-then-opens_class : goal.returns-then-opens_class
returns-then-opens_class c = search range_class

pub returns : goal.returns
returns c = search range_on

use Rattle.basic.proofs.Words.{none_to, some_to, all_to}
use Rattle.basic.proofs.sets.not_above.Goals as goal

pub returns-then-hi-from : goal.returns-then-hi-from
returns-then-hi-from c = search none_to

pub returns-then-k-lt64 : goal.returns-then-k-lt64
returns-then-k-lt64 c = search some_to

pub returns : goal.returns
returns c = search all_to

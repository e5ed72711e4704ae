use Rattle.basic.proofs.Words.{all_from, some_from, none_from}
use Rattle.basic.proofs.sets.not_below.Goals as goal

pub returns-then-lo-from : goal.returns-then-lo-from
returns-then-lo-from c = search all_from

pub returns-then-k-lt64 : goal.returns-then-k-lt64
returns-then-k-lt64 c = search some_from

pub returns : goal.returns
returns c = search none_from

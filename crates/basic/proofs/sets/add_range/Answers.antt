use Rattle.basic.proofs.Words.{range_words}
use Rattle.basic.proofs.sets.add_range.Goals as goal

pub returns : goal.returns
returns c = range_words _ _ _ _ _ _ _ c.span.ensures c.span-2.ensures c.span-3.ensures c.span-4.ensures

use Rattle.encode.proofs.Writes.{wrote_as, wrote_both}
use borrow.Author.Rules.{rules}
use Rattle.encode.proofs.put_row.Goals as goal

pub returns : goal.returns
returns c = (
  search rules,
  wrote_both c.put-kind.ensures.1 c.put-kind.ensures.0
      (wrote_both c.put-first.ensures.1 c.put-first.ensures.0
      (wrote_both (wrote_as c.two.ensures c.put-second.ensures.1) c.put-second.ensures.0
      (wrote_both (wrote_as c.two-2.ensures c.put-set.ensures.1) c.put-set.ensures.0 c.put.ensures.1))),
)

use Rattle.encode.proofs.Writes.{wrote_as, wrote_both}
use borrow.Author.Rules.{rules}
use Rattle.encode.proofs.put_member.Goals as goal

pub returns : goal.returns
returns c = (search rules, wrote_both (wrote_as c.two.ensures c.put-group.ensures.1) c.put-group.ensures.0 (wrote_as c.two-2.ensures c.put.ensures.1))

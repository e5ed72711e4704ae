use borrow.Author.Rules.{rules}
use Rattle.scan.specs.Inner.Points.{nexts}
use Rattle.scan.proofs.points.next_of.Goals as goal

pub returns : goal.returns
unfolding nexts
returns c = search rules

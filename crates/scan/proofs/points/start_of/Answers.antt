use borrow.Author.Rules.{rules}
use Rattle.scan.specs.Inner.Points.{starts}
use Rattle.scan.proofs.points.start_of.Goals as goal

pub returns : goal.returns
unfolding starts
returns c = search rules

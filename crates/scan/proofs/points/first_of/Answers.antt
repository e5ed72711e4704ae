use borrow.Author.Rules.{rules}
use Rattle.scan.specs.Inner.Points.{firsts}
use Rattle.scan.proofs.points.first_of.Goals as goal

pub returns : goal.returns
unfolding firsts
returns c = search rules

use borrow.Author.Rules.{rules}
use Rattle.scan.specs.Inner.Points.{letters}
use Rattle.scan.proofs.points.letter.Goals as goal

pub returns : goal.returns
unfolding letters
returns c = search rules

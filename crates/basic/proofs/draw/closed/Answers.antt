use Rattle.basic.proofs.Drawing.{draw_others, draw_same}
use Rattle.basic.proofs.draw.closed.Goals as goal

pub returns-then-build-negated : goal.returns-then-build-negated
returns-then-build-negated c = search draw_others

pub returns : goal.returns
returns c = search draw_same

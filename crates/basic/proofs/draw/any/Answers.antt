use Rattle.basic.proofs.Drawing.{draw_dot, none_off}
use Rattle.basic.proofs.draw.any.Goals as goal

pub returns-then-build : goal.returns-then-build
returns-then-build c = search draw_dot

pub returns : goal.returns
returns c = search none_off

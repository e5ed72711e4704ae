use Rattle.basic.proofs.Drawing.{draw_range, draw_off}
use mathlib.Core.Path.{◌∙◌}
use Rattle.basic.proofs.draw.widen.Goals as goal

pub returns-then-build : goal.returns-then-build
returns-then-build c = search draw_range

pub returns : goal.returns
returns c l e = e ∙ draw_off _ c.if-build.false _ _

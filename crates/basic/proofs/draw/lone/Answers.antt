use Rattle.basic.proofs.Drawing.{draw_byte, none_off}
use Rattle.basic.proofs.draw.lone.Goals as goal

pub returns-then-build : goal.returns-then-build
returns-then-build c = search draw_byte

pub returns : goal.returns
returns c = search none_off

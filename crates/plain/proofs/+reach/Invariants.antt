use Rattle.std.proofs.Common.{◌+◌, ◌-◌, length}
use Rattle.plain.proofs.+reach.Given as goal

abbrev pub decreases-reach : goal.decreases-reach
decreases-reach l = (length l.p.now - l.i) + (length l.text.now - l.j)

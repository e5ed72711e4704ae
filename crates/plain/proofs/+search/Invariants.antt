use Rattle.std.proofs.Common.{◌-◌, length}
use Rattle.plain.proofs.+search.Given as goal

abbrev pub decreases-search : goal.decreases-search
decreases-search l = length l.text.now - l.j

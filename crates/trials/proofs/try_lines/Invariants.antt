use Rattle.std.specs.Prelude.{is_some}
use Prim.Native.Nat.{◌+◌, ◌-◌}
use lib.ListN.{length}
use Rattle.trials.specs.Inner.Patterns.{content_bytes}
use Rattle.trials.proofs.Lining.{Lining}
use Rattle.trials.proofs.try_lines.Given as goal

abbrev pub invariant-loop-line : goal.invariant-loop-line
invariant-loop-line l =
    Lining l.patterns.name.bytes.now (is_some l.patterns.content) (content_bytes l.patterns.content) l.body l.at l.fits l.trials

abbrev pub decreases-loop-line : goal.decreases-loop-line
decreases-loop-line l = length l.body + 1 - l.at

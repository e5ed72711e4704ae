use Prim.Native.Nat.{◌+◌, ◌-◌}
use lib.ListN.{length, drop}
use Rattle.cuts.specs.Inner.Searching.{first}
use Rattle.cuts.proofs.Search.{Came}
use Rattle.request.specs.Inner.Steps.{line_break}
use Rattle.request.proofs.field_lines.line_end.Given as goal

abbrev pub invariant-loop-k : goal.invariant-loop-k
invariant-loop-k l = Came line_break l.h (l.from + first line_break (drop l.from l.h)) l.k

abbrev pub decreases-loop-k : goal.decreases-loop-k
decreases-loop-k l = length l.h - l.k

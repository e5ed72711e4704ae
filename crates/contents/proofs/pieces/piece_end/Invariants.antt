use Prim.Native.Nat.{◌+◌}
use lib.ListN.{drop}
use Rattle.cuts.specs.Inner.Searching.{span}
use Rattle.contents.specs.Values.{plain, step, cuts}
use Rattle.contents.proofs.Values.{Spanning}
use Rattle.contents.proofs.pieces.piece_end.Given as goal

abbrev pub invariant-loop-i : goal.invariant-loop-i
invariant-loop-i l = Spanning l.v (l.from + span cuts step plain (drop l.from l.v)) l.w l.i

use mathlib.Core.List.{◌∷◌, []}
use Prim.Native.Nat.{◌+◌}
use lib.ListN.{drop}
use Rattle.cuts.specs.Cutting.{begins}
use Rattle.cuts.specs.Inner.Searching.{first}
use Rattle.cuts.proofs.Search.{Came}
use Rattle.cuts.proofs.place_of.Given as goal

abbrev pub invariant-loop-i : goal.invariant-loop-i
invariant-loop-i l = Came (begins (l.b ∷ [])) l.s (l.from + first (begins (l.b ∷ [])) (drop l.from l.s)) l.i

use Rattle.machine.specs.Inner.Machine.{LastMet}
use lib.ListN.{get_or}
use mathlib.Core.List.{[]}
use Rattle.machine.proofs.last_met.Given as goal

abbrev pub invariant-loop-i : goal.invariant-loop-i
invariant-loop-i l = LastMet (get_or l.sets l.p []) l.text l.from l.i

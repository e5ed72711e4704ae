use Rattle.scan.proofs.Lettered.{reach_first, reach_inside, reach_in_text, reach_short, reach_end, reach_other, reach_next}
use native.Mathlib.Omega.{arith}
use Rattle.scan.proofs.scanner.reach.Goals as goal

pub loop-i-init : goal.loop-i-init
loop-i-init c = search reach_first

pub returns-then-left-i : goal.returns-then-left-i
returns-then-left-i c = search reach_short

pub overflow_add-from : goal.overflow_add-from
overflow_add-from c = record { fits = omega (arith, reach_inside _ _ _ _ _ _ _ c.loop-i.invariant c.loop-i-test.true) }

pub letter-a-requires : goal.letter-a-requires
letter-a-requires c = search reach_inside

pub bounds-s-at : goal.bounds-s-at
bounds-s-at c = search reach_in_text

pub returns-then-a-b : goal.returns-then-a-b
returns-then-a-b c = search reach_other

pub loop-i-preserved : goal.loop-i-preserved
loop-i-preserved c = search reach_next

pub returns : goal.returns
returns c = search reach_end

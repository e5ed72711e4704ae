use native.Mathlib.Omega.{arith}
use Rattle.contents.proofs.Values.{spanning_first, spanning_found, spanning_next, spanning_end}
use Rattle.contents.proofs.pieces.piece_end.Goals as goal

pub loop-i-init : goal.loop-i-init
loop-i-init c = search spanning_first

pub returns-then-cuts_here : goal.returns-then-cuts_here
returns-then-cuts_here c = search spanning_found

pub loop-i-preserved : goal.loop-i-preserved
loop-i-preserved c = search spanning_next

pub returns : goal.returns
returns c = omega (arith, spanning_end _ _ _ _ c.loop-i.invariant c.loop-i-test.false, c.loop-i.invariant.inside)

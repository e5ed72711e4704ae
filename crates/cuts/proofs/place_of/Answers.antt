use mathlib.Core.Path.{refl}
use native.Mathlib.Omega.{arith}
use borrow.Author.Rules.{rules}
use Rattle.cuts.proofs.Search.{came_end, place_here, place_next}
use Rattle.cuts.proofs.place_of.Goals as goal

pub loop-i-init : goal.loop-i-init
loop-i-init c = record { inside = search rules; same = refl }

pub returns-then-s-i : goal.returns-then-s-i
returns-then-s-i c = search place_here

pub loop-i-preserved : goal.loop-i-preserved
loop-i-preserved c = search place_next

pub returns : goal.returns
returns c = let l = c.loop-i in omega (arith, came_end _ _ _ _ l.invariant c.loop-i-test.false, l.invariant.inside)

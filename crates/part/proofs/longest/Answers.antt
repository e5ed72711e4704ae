use Rattle.part.proofs.Forward.{forward_start, forward_below, forward_after, forward_hit, forward_miss, forward_stop, forward_all}
use native.Mathlib.Omega.{arith}
use borrow.Author.Rules.{rules}
use Rattle.part.proofs.longest.Goals as goal
use Rattle.part.proofs.longest.Goals.{then-last_of-f-ne0, else-last_of-f-ne0}

pub turn-requires : goal.turn-requires
turn-requires c = record { closed = c.requires.0; after_value = search rules }

pub loop-i-init : goal.loop-i-init
loop-i-init c = forward_start _ _ _ _ _ c.requires.0 c.requires.1 _ c.first_of-candidates.ensures

pub returns-then-candidates-eq0 : goal.returns-then-candidates-eq0
returns-then-candidates-eq0 c = forward_stop _ _ _ _ _ _ _ _ c.loop-i.invariant c.if-candidates-eq0.true

pub step-f-requires : goal.step-f-requires
step-f-requires c = forward_below _ _ _ _ _ _ _ _ c.loop-i.invariant

pub overflow_sub-best : goal.overflow_sub-best
overflow_sub-best c = omega (arith, forward_after _ _ _ _ _ _ _ _ c.loop-i.invariant)

pub loop-i-preserved : goal.loop-i-preserved
loop-i-preserved c =
    let turned = c.turn.ensures in
    elim c.if-last_of-f-ne0.branch [
      | then-last_of-f-ne0 w ↦ rw w.best-is (forward_hit _ _ _ _ _ _ _ _ _ _ c.loop-i.invariant c.loop-i-test.true _ turned c.step-f.ensures _ c.last_of.ensures w.if-last_of-f-ne0.true)
      | else-last_of-f-ne0 w ↦ rw w.best-is (forward_miss _ _ _ _ _ _ _ _ _ _ c.loop-i.invariant c.loop-i-test.true _ turned c.step-f.ensures _ c.last_of.ensures w.if-last_of-f-ne0.false)
    ]

pub returns : goal.returns
returns c = forward_all _ _ _ _ _ _ _ _ c.loop-i.invariant c.loop-i-test.false

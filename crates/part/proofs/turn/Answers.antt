use Rattle.part.proofs.Turning.{turns_none, turns_next, turns_all, before_below}
use mathlib.Core.Path.{◌∙◌}
use native.Mathlib.Omega.{arith}
use borrow.Author.Rules.{rules}
use Rattle.part.proofs.turn.Goals as goal

pub loop-q-init : goal.loop-q-init
loop-q-init c = (turns_none _ _ c.requires.after_value, search rules)

pub offset_bounds-before-q : goal.offset_bounds-before-q
offset_bounds-before-q c = omega (arith, c.requires.closed.few, c.loop-q-test.true)

pub bounds-before-q : goal.bounds-before-q
bounds-before-q c = omega (arith, c.requires.closed.few, c.loop-q-test.true)

pub add_to-requires : goal.add_to-requires
add_to-requires c =
    let l = c.loop-q-test.true in
    let closed = c.requires.closed in
    (c.loop-q.invariant.1, before_below _ _ closed _ l, omega (arith, closed.few, l))

pub loop-q-preserved : goal.loop-q-preserved
loop-q-preserved c =
    let l = c.loop-q.invariant in
    (turns_next _ _ _ l.0 _ c.add_to.ensures, c.add_to.ensures.long ∙ l.1)

pub returns : goal.returns
returns c = turns_all _ _ _ _ c.loop-q.invariant.0 c.loop-q.auto.q-end c.loop-q-test.false

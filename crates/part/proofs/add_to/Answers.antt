use Rattle.part.proofs.Turning.{adding_none, adding_all, adding_next, adding_less, lowest_below}
use lib.Count.{trailing_le}
use mathlib.Core.Path.{refl, sym, ◌∙◌}
use native.Mathlib.Omega.{arith}
use borrow.Author.Rules.{rules}
use Rattle.part.proofs.add_to.Goals as goal

pub loop-left-init : goal.loop-left-init
loop-left-init c = search (rules, adding_none)

pub overflow_cast-p : goal.overflow_cast-p
overflow_cast-p c = omega (arith, trailing_le 64 c.loop-left.left)

pub offset_bounds-masks-p : goal.offset_bounds-masks-p
offset_bounds-masks-p c = omega (arith, lowest_below _ _ _ _ _ c.loop-left.invariant.0 c.loop-left-test.true _ refl c.requires.1)

pub bounds-masks-p : goal.bounds-masks-p
bounds-masks-p c = omega (arith, c.loop-left.invariant.1, lowest_below _ _ _ _ _ c.loop-left.invariant.0 c.loop-left-test.true _ refl c.requires.1)

pub bounds-masks-p-in-loop-left : goal.bounds-masks-p-in-loop-left
bounds-masks-p-in-loop-left c = omega (arith, c.loop-left.invariant.1, lowest_below _ _ _ _ _ c.loop-left.invariant.0 c.loop-left-test.true _ refl c.requires.1)

pub loop-left-smaller : goal.loop-left-smaller
loop-left-smaller c = adding_less _ _ _ _ _ c.loop-left.invariant.0 c.loop-left-test.true _ refl

pub loop-left-preserved : goal.loop-left-preserved
loop-left-preserved c =
    let l = c.loop-left.invariant in
    let below = lowest_below _ _ _ _ _ c.loop-left.invariant.0 c.loop-left-test.true _ refl c.requires.1 in
    (adding_next _ _ _ _ _ l.0 c.loop-left-test.true _ refl (omega (arith, below, l.1)) (omega (arith, c.requires.2)), search rules)

pub returns : goal.returns
returns c = adding_all _ _ _ _ _ c.loop-left.invariant.0 c.loop-left-test.false (c.loop-left.invariant.1 ∙ sym c.requires.0)

use Rattle.machine.proofs.Stepping.{step_none, step_all, step_skip, step_keep, step_less, lowest_lt, lowest_below}
use lib.Count.{trailing_le}
use mathlib.Core.Path.{refl, sym, ◌∙◌}
use native.Mathlib.Omega.{arith}
use borrow.Author.Rules.{rules}
use Rattle.machine.proofs.step.Goals as goal

pub loop-left-init : goal.loop-left-init
loop-left-init c = search step_none

pub overflow_cast-p : goal.overflow_cast-p
overflow_cast-p c = omega (arith, trailing_le 64 c.loop-left.left)

pub has-requires : goal.has-requires
has-requires c = lowest_below _ _ _ _ _ _ _ c.loop-left.invariant c.loop-left-test.true _ refl c.requires

pub overflow_shl-live : goal.overflow_shl-live
overflow_shl-live c = lowest_lt _ _ _ _ _ _ _ c.loop-left.invariant c.loop-left-test.true _ refl

pub offset_bounds-before-p : goal.offset_bounds-before-p
offset_bounds-before-p c = omega (arith, lowest_lt _ _ _ _ _ _ _ c.loop-left.invariant c.loop-left-test.true _ refl)

pub bounds-before-p : goal.bounds-before-p
bounds-before-p c = search (rules, lowest_below _ _ _ _ _ _ _ c.loop-left.invariant c.loop-left-test.true _ refl c.requires)

pub loop-left-smaller-then-has : goal.loop-left-smaller-then-has
loop-left-smaller-then-has c = step_less _ _ _ _ _ _ _ c.loop-left.invariant c.loop-left-test.true _ refl

pub loop-left-preserved-then-has : goal.loop-left-preserved-then-has
loop-left-preserved-then-has c =
    step_keep _ _ _ _ _ _ _ c.loop-left.invariant c.loop-left-test.true _ refl (sym c.has.ensures ∙ c.if-has.true)

pub loop-left-smaller : goal.loop-left-smaller
loop-left-smaller c = step_less _ _ _ _ _ _ _ c.loop-left.invariant c.loop-left-test.true _ refl

pub loop-left-preserved : goal.loop-left-preserved
loop-left-preserved c =
    step_skip _ _ _ _ _ _ _ c.loop-left.invariant c.loop-left-test.true _ refl (sym c.has.ensures ∙ c.if-has.false)

pub returns : goal.returns
returns c = search step_all

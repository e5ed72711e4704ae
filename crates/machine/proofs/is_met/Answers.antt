use Rattle.machine.proofs.Stepping.{step_none, step_skip, step_less, lowest_below, met_some, met_none}
use lib.Count.{trailing_le}
use mathlib.Core.Path.{refl, sym, ◌∙◌}
use native.Mathlib.Omega.{arith}
use Rattle.machine.proofs.is_met.Goals as goal

pub loop-left-init : goal.loop-left-init
loop-left-init c = search step_none

pub overflow_cast-p : goal.overflow_cast-p
overflow_cast-p c = omega (arith, trailing_le 64 c.loop-left.left)

pub has-requires : goal.has-requires
has-requires c = lowest_below _ _ _ _ _ _ _ c.loop-left.invariant c.loop-left-test.true _ refl c.requires

pub returns-then-has : goal.returns-then-has
returns-then-has c =
    met_some _ _ _ _ c.loop-left.invariant c.loop-left-test.true _ refl (sym c.has.ensures ∙ c.if-has.true)

pub loop-left-smaller : goal.loop-left-smaller
loop-left-smaller c = step_less _ _ _ _ _ _ _ c.loop-left.invariant c.loop-left-test.true _ refl

pub loop-left-preserved : goal.loop-left-preserved
loop-left-preserved c =
    step_skip _ _ _ _ _ _ _ c.loop-left.invariant c.loop-left-test.true _ refl (sym c.has.ensures ∙ c.if-has.false)

pub returns : goal.returns
returns c = met_none _ _ _ _ c.loop-left.invariant c.loop-left-test.false

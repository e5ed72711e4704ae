use Rattle.machine.proofs.Hunt.{hunt_below, first_below, hunt_first, hunt_hit, hunt_next, hunt_dead, hunt_skip, hunt_last}
use mathlib.Core.Path.{refl, subst}
use Rattle.machine.specs.Inner.Machine.{Only}
use native.Mathlib.Omega.{arith}
use borrow.Author.Rules.{rules}
use Rattle.machine.proofs.scan_down.Goals as goal

pub loop-i-init : goal.loop-i-init
loop-i-init c = (hunt_first _ _ _ _ c.requires.1 _ refl c.requires.2 c.requires.0, c.requires.3)

pub bounds-text-i : goal.bounds-text-i
bounds-text-i c = search (rules, c.loop-i.invariant.0.inside)

pub step-f-requires : goal.step-f-requires
step-f-requires c = hunt_below _ _ _ _ _ _ c.loop-i.invariant.0

pub returns-then-h-f-ne0 : goal.returns-then-h-f-ne0
returns-then-h-f-ne0 c =
    hunt_hit _ _ _ _ _ _ c.loop-i.invariant.0 _ _ c.step-f.ensures c.loop-i-test.true c.if-h-f-ne0.true

pub returns-then-candidates-eq0 : goal.returns-then-candidates-eq0
returns-then-candidates-eq0 c =
    hunt_dead _ _ _ _ _ _ c.loop-i.invariant.0 _ _ c.step-f.ensures c.loop-i-test.true c.if-h-f-ne0.false c.if-candidates-eq0.true

pub last_met-i-requires : goal.last_met-i-requires
last_met-i-requires c = ((subst (Only c.args.h.stops) c.in-Some.is c.loop-i.invariant.1).0, search (rules, c.loop-i.invariant.0.inside))

pub loop-i-smaller-in-Some : goal.loop-i-smaller-in-Some
loop-i-smaller-in-Some c = omega (arith, c.last_met-i.ensures.within, c.loop-i-test.true)

pub loop-i-preserved-in-Some : goal.loop-i-preserved-in-Some
loop-i-preserved-in-Some c =
    let one = subst (Only c.args.h.stops) c.in-Some.is c.loop-i.invariant.1 in
    (hunt_skip _ _ _ _ _ _ c.loop-i.invariant.0 _ _ c.step-f.ensures c.loop-i-test.true c.if-h-f-ne0.false c.if-f-eq0.true _ _ one c.last_met-i.ensures, one)

pub loop-i-preserved-in_default : goal.loop-i-preserved-in_default
loop-i-preserved-in_default c =
    (hunt_next _ _ _ _ _ _ c.loop-i.invariant.0 _ _ c.step-f.ensures c.loop-i-test.true c.if-h-f-ne0.false, c.loop-i.invariant.1)

pub loop-i-preserved : goal.loop-i-preserved
loop-i-preserved c =
    (hunt_next _ _ _ _ _ _ c.loop-i.invariant.0 _ _ c.step-f.ensures c.loop-i-test.true c.if-h-f-ne0.false, c.loop-i.invariant.1)

pub bounds-text-0 : goal.bounds-text-0
bounds-text-0 c = search (rules, c.loop-i.invariant.0.inside)

pub is_met-requires : goal.is_met-requires
is_met-requires c = first_below _ _ _ _ _ _ c.loop-i.invariant.0

pub returns : goal.returns
returns c =
    hunt_last _ _ _ _ _ _ c.loop-i-test.false c.loop-i.invariant.0 _ c.is_met.ensures

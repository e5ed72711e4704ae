use borrow.Author.Rules.{rules}
use Rattle.basic.proofs.Elements.{count_empty, stop_inside, count_start, count_lost, count_more, count_full, count_done, behind_after, behind_at}
use Prim.Native.Nat.{◌≤◌}
use native.Mathlib.Omega.{arith}
use Rattle.basic.proofs.is_pattern.Goals as goal

pub returns-then-s-eq0 : goal.returns-then-s-eq0
returns-then-s-eq0 c = search count_empty

pub loop-i-init : goal.loop-i-init
loop-i-init c = (search count_start, omega arith)

pub returns-then-n-eq60 : goal.returns-then-n-eq60
returns-then-n-eq60 c = search count_full

pub atom_at-requires : goal.atom_at-requires
atom_at-requires c = search (rules, stop_inside)

pub returns-in_default : goal.returns-in_default
returns-in_default c = count_lost _ _ _ _ c.loop-i.invariant.0 _ c.stop_at-stop.ensures c.loop-i-test.true _ c.in_default.ensures

pub behind-i-requires : goal.behind-i-requires
behind-i-requires c = omega (arith, c.in-Some.ensures.inside)

pub overflow_add-n : goal.overflow_add-n
overflow_add-n c = omega arith

pub loop-i-smaller : goal.loop-i-smaller
loop-i-smaller c =
    let a = c.in-Some in
    let j : a.a.end ≤ c.behind-i.result = search behind_after in
    omega (arith, a.ensures.forward, a.ensures.inside)

pub loop-i-preserved : goal.loop-i-preserved
loop-i-preserved c = (count_more _ _ _ _ c.loop-i.invariant.0 _ c.stop_at-stop.ensures c.loop-i-test.true _ _ c.in-Some.ensures _ (search behind_at), omega arith)

pub returns : goal.returns
returns c = search count_done

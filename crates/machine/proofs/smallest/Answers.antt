use Rattle.machine.proofs.Scan.{scan_end, scan_below, scan_hit, scan_miss, scan_all}
use Rattle.machine.proofs.Hunt.{scan_pass}
use Prim.Native.Nat.{◌+◌, ◌-◌}
use mathlib.Core.Path.{◌≡◌}
use native.Mathlib.Omega.{arith}
use Rattle.machine.proofs.smallest.Goals as goal

pub loop-i-init : goal.loop-i-init
loop-i-init c = search scan_end

pub passed-top-requires : goal.passed-top-requires
passed-top-requires c = (c.loop-i-test.true, c.loop-i.invariant.inside)

pub overflow_sub-i : goal.overflow_sub-i
overflow_sub-i c = omega (arith, c.passed-top.ensures.above)

pub bounds-text-i : goal.bounds-text-i
bounds-text-i c =
    let l = c.loop-i in
    let p = c.passed-top in
    omega (arith, l.invariant.inside, p.ensures.within, p.ensures.above)

pub step-f-requires : goal.step-f-requires
step-f-requires c =
    scan_below _ _ _ _ _ _ _ _ (scan_pass _ _ _ _ _ _ _ _ c.loop-i.invariant c.passed-top.ensures) c.last_of-stop.ensures

pub loop-i-smaller-then-begins : goal.loop-i-smaller-then-begins
loop-i-smaller-then-begins c = let p = c.passed-top in omega (arith, p.ensures.within, p.ensures.above)

pub loop-i-preserved-then-begins : goal.loop-i-preserved-then-begins
loop-i-preserved-then-begins c =
    let top = c.passed-top.result in
    let d : top ≡ top - 1 + 1 = omega (arith, c.passed-top.ensures.above) in
    scan_hit _ _ _ _ _ _ _ _ _ _ _ d (scan_pass _ _ _ _ _ _ _ _ c.loop-i.invariant c.passed-top.ensures) c.last_of-stop.ensures c.step-f.ensures _ c.begins.ensures c.if-begins.true

pub loop-i-smaller : goal.loop-i-smaller
loop-i-smaller c = let p = c.passed-top in omega (arith, p.ensures.within, p.ensures.above)

pub loop-i-preserved : goal.loop-i-preserved
loop-i-preserved c =
    let top = c.passed-top.result in
    let d : top ≡ top - 1 + 1 = omega (arith, c.passed-top.ensures.above) in
    scan_miss _ _ _ _ _ _ _ _ _ _ _ d (scan_pass _ _ _ _ _ _ _ _ c.loop-i.invariant c.passed-top.ensures) c.last_of-stop.ensures c.step-f.ensures _ c.begins.ensures c.if-begins.false

pub returns : goal.returns
returns c = search scan_all

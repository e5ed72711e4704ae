use lib.ListN.{length}
use Prim.Native.Nat.{◌<◌}
use native.Mathlib.Omega.{arith}
use Rattle.basic.proofs.Atoms.{pair_refused, pair_inside, pair_on}
use Rattle.basic.proofs.reader.escaped_at.Goals as goal

pub returns-then-not-is_special : goal.returns-then-not-is_special
returns-then-not-is_special c = search pair_refused

pub bounds-s-i : goal.bounds-s-i
bounds-s-i c = search pair_inside

pub overflow_add-result : goal.overflow_add-result
overflow_add-result c =
    let a = c.args in
    let h : a.i < length a.s.now = search pair_inside in
    omega arith

pub returns : goal.returns
returns c = search pair_on

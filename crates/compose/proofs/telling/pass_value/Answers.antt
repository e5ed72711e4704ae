use Prim.Native.Nat.{◌≤◌}
use native.Mathlib.Omega.{arith}
use Rattle.compose.proofs.ToCome.{end_small, passes}
use borrow.Author.Rules.{rules}
use Rattle.compose.proofs.telling.pass_value.Goals as goal

pub overflow_add-result : goal.overflow_add-result
overflow_add-result c =
    let p : c.place_of-end.result ≤ 65535 = search end_small in
    let w : c.end_tag_of-tag.result.width ≤ 1103 = search rules in
    omega (arith, p, w)

pub returns : goal.returns
returns c = search passes

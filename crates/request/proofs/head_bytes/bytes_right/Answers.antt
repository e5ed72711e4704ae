use native.Mathlib.Omega.{arith}
use Rattle.request.proofs.Head.{passed_none, bytes_end, bytes_printed, bytes_lone, bytes_pair, bytes_other, bytes_wrong}
use Rattle.request.proofs.head_bytes.bytes_right.Goals as goal

pub loop-i-init : goal.loop-i-init
loop-i-init c = passed_none _

pub loop-i-preserved-then-b : goal.loop-i-preserved-then-b
loop-i-preserved-then-b c = search bytes_printed

pub returns-then-byte_at-ne10 : goal.returns-then-byte_at-ne10
returns-then-byte_at-ne10 c = search bytes_lone

pub loop-i-preserved-then-b-eq13 : goal.loop-i-preserved-then-b-eq13
loop-i-preserved-then-b-eq13 c = search bytes_pair

pub overflow_add-i-then-b-eq13-2 : goal.overflow_add-i-then-b-eq13-2
overflow_add-i-then-b-eq13-2 c = omega (arith, loop-i-preserved-then-b-eq13 c)

pub returns-then-not-b : goal.returns-then-not-b
returns-then-not-b c = search bytes_wrong

pub loop-i-preserved : goal.loop-i-preserved
loop-i-preserved c = search bytes_other

pub returns : goal.returns
returns c = bytes_end _ _ c.loop-i.invariant c.loop-i-test.false

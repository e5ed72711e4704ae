use native.Mathlib.Omega.{arith}
use Prim.Native.Nat.{◌+◌, ◌-◌, ◌*◌}
use Rattle.fitting.proofs.Members.{rows_read}
use Rattle.fitting.proofs.Spans.{back_first, back_next, back_same}
use Rattle.fitting.proofs.trigger.Members.skip_back.Goals as goal

pub loop-i-init : goal.loop-i-init
loop-i-init c = back_first _ _ _ _ _

pub returns-then-has : goal.returns-then-has
returns-then-has c = (omega arith, back_same _ _ _ _ _ _ _ c.loop-i.invariant (omega arith))

pub loop-i-preserved : goal.loop-i-preserved
loop-i-preserved c =
    back_next _ _ _ _ _ _ _ c.loop-i.invariant (omega arith)
    (rows_read _ _ c.args.self.now.image.now (c.args.self.now.at + 4 * (c.loop-i.i - 1)) _ c.member.ensures _ c.has.ensures) c.if-has.false

pub returns : goal.returns
returns c = (omega arith, back_same _ _ _ _ _ _ _ c.loop-i.invariant (omega arith))

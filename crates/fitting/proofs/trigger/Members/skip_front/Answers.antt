use Prim.Native.Nat.{◌+◌, ◌*◌}
use Rattle.fitting.proofs.Members.{rows_read}
use Rattle.fitting.proofs.Spans.{front_next}
use Rattle.fitting.proofs.trigger.Members.skip_front.Goals as goal

pub loop-i-preserved : goal.loop-i-preserved
loop-i-preserved c =
    front_next _ _ _ _ _ _ _ c.loop-i.invariant c.loop-i-test.true (rows_read _ _ c.args.self.now.image.now (c.args.self.now.at + 4 * c.loop-i.i) _ c.member.ensures _ c.has.ensures) c.if-has.false

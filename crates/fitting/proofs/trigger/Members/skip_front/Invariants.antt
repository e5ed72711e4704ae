use Prim.Native.Nat.{◌+◌, ◌-◌, ◌*◌}
use Rattle.fitting.specs.Inner.Trigger.{SameRows}
use Rattle.fitting.proofs.trigger.Members.skip_front.Given as goal

abbrev pub invariant-loop-i : goal.invariant-loop-i
invariant-loop-i l = SameRows l.rows.first l.rows.count l.self.image.now l.self.at l.self.count (l.self.at + 4 * l.i) (l.self.count - l.i)

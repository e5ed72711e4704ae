use Rattle.fitting.proofs.Members.{Holding}
use Rattle.fitting.proofs.trigger.Members.groups_hold.Given as goal

abbrev pub invariant-loop-i : goal.invariant-loop-i
invariant-loop-i l = Holding l.want l.rows.mask l.rows.first l.rows.count l.self.image.now l.self.at l.self.count l.i

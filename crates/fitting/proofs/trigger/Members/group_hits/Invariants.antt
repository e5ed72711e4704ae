use Rattle.fitting.proofs.Members.{Seeking}
use Rattle.fitting.proofs.trigger.Members.group_hits.Given as goal

abbrev pub invariant-loop-i : goal.invariant-loop-i
invariant-loop-i l = Seeking l.want l.rows.mask l.rows.first l.rows.count l.group l.self.image.now l.self.at l.self.count l.i

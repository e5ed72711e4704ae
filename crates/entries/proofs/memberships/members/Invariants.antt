use Rattle.entries.proofs.MemberLoop.{MemberHead}
use Rattle.entries.proofs.memberships.members.Given as goal

abbrev pub invariant-loop-k : goal.invariant-loop-k
invariant-loop-k l = MemberHead l.s l.rows l.n l.start l.counts l.last l.k

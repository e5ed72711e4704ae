use lib.ListN.{get_or, length}
use Rattle.entries.proofs.MemberLoop.{PlacedHead}
use Rattle.entries.proofs.memberships.all_placed.Given as goal

abbrev pub invariant-loop-k : goal.invariant-loop-k
invariant-loop-k l = PlacedHead (λ j. get_or l.counts j 0) (length l.counts) l.start l.k

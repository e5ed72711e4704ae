use Rattle.compose.specs.Inner.Values.{decoded}
use Rattle.compose.proofs.Finding.{Finding}
use Rattle.compose.proofs.strings.find_text.Given as goal

abbrev pub invariant-loop-k : goal.invariant-loop-k
invariant-loop-k l = Finding (decoded l.t) l.image l.n l.table l.k

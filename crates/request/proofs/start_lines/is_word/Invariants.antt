use Rattle.request.proofs.StartParts.{Word}
use Rattle.request.proofs.start_lines.is_word.Given as goal

abbrev pub invariant-loop-b : goal.invariant-loop-b
invariant-loop-b l = Word l.uri l.w l.b-index

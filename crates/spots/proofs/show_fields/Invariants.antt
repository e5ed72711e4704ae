use Rattle.std.specs.Prelude.{is_some}
use Rattle.trials.specs.Inner.Patterns.{content_bytes}
use Rattle.spots.proofs.Showing.{Fielding}
use Rattle.spots.proofs.show_fields.Given as goal

abbrev pub invariant-loop-i : goal.invariant-loop-i
invariant-loop-i l = Fielding l.patterns.name.bytes.now (is_some l.patterns.content) (content_bytes l.patterns.content) l.request.bytes.now l.i

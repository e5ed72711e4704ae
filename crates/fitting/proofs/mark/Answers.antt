use Rattle.fitting.proofs.Evaluating.{mark_yes}
use Rattle.fitting.proofs.mark.Goals as goal

pub returns-then-fits : goal.returns-then-fits
returns-then-fits c = search mark_yes

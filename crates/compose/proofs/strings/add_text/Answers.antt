use Rattle.compose.proofs.Adding.{added}
use Rattle.compose.proofs.strings.add_text.Goals as goal

pub returns : goal.returns
returns c = search added

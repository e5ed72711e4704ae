use Rattle.basic.proofs.Atoms.{bracket_from}
use Rattle.basic.proofs.reader.bracket_at.Goals as goal

pub returns : goal.returns
returns c = search bracket_from

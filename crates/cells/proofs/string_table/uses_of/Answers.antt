use Rattle.cells.proofs.Uses.{uses_made}
use Rattle.cells.proofs.string_table.uses_of.Goals as goal

pub returns : goal.returns
returns c = search uses_made

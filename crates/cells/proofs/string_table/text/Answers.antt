use Rattle.cells.proofs.Uses.{text_is}
use Rattle.cells.proofs.string_table.text.Goals as goal

pub returns : goal.returns
returns c = search text_is

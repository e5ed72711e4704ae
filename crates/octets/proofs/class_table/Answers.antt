use Rattle.octets.proofs.Classes.{entry}
use Rattle.octets.proofs.class_table.Goals as goal

pub returns : goal.returns
returns c = record { each = λ b h. (entry b h).class_is }

use Rattle.ifc.proofs.Passing.{passes_check}
use Rattle.ifc.proofs.ifc_check.Goals as goal

pub returns : goal.returns
returns c = passes_check c.check-checked.ensures

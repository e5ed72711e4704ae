use Rattle.ifc.proofs.Passing.{passes_advance}
use Rattle.ifc.proofs.ifc_advance.Goals as goal

pub returns : goal.returns
returns c = passes_advance c.advance-a.ensures

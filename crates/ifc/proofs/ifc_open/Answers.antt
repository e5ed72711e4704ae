use Rattle.ifc.proofs.Passing.{passes_open}
use Rattle.ifc.proofs.ifc_open.Goals as goal

pub returns : goal.returns
returns c = passes_open c.open-opened.ensures

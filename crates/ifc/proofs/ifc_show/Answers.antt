use Rattle.ifc.proofs.Passing.{passes_show}
use Rattle.ifc.proofs.ifc_show.Goals as goal

pub returns : goal.returns
returns c = passes_show c.show-shown.ensures

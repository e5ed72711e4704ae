use Rattle.ifc.proofs.Passing.{passes_list}
use Rattle.ifc.proofs.ifc_list.Goals as goal

pub returns : goal.returns
returns c = passes_list c.list-a.ensures

use Rattle.ifc.proofs.Passing.{passes_information}
use Rattle.ifc.proofs.ifc_information.Goals as goal

pub returns : goal.returns
returns c = passes_information c.information-info.ensures c.«one_if».ensures.0

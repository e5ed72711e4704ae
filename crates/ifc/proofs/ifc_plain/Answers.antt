use Rattle.ifc.proofs.Passing.{passes_plain}
use Rattle.ifc.proofs.ifc_plain.Goals as goal

pub returns : goal.returns
returns c = passes_plain c.plain-matched.ensures c.«one_if».ensures.0

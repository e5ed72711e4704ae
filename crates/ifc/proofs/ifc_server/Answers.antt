use Rattle.ifc.proofs.Passing.{passes_server}
use Rattle.ifc.proofs.ifc_server.Goals as goal

pub returns : goal.returns
returns c = passes_server c.server-name.ensures

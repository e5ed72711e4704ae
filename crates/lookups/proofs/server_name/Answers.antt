use Rattle.lookups.proofs.Looking.{server_in, server_bytes}
use Rattle.lookups.proofs.server_name.Goals as goal

pub part-requires : goal.part-requires
part-requires c = search server_in

pub returns : goal.returns
returns c = search server_bytes

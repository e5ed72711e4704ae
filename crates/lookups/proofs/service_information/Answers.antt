use Rattle.lookups.proofs.Looking.{information_in, information_bytes}
use Rattle.lookups.proofs.service_information.Goals as goal

pub part-requires : goal.part-requires
part-requires c = search information_in

pub returns : goal.returns
returns c = search information_bytes

use Rattle.probes.proofs.PartsCounting.{passes}
use Rattle.probes.proofs.counts.request_parts.Goals as goal

pub returns : goal.returns
returns c = search passes

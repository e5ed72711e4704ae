use Rattle.machine.specs.Inner.Machine.{in_set}
use Rattle.octets.proofs.Bits.{low_bit}
use Rattle.machine.proofs.has.Goals as goal

pub returns : goal.returns
unfolding in_set
returns c = low_bit _ _

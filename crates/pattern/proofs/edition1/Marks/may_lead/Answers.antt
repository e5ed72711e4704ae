use Rattle.octets.proofs.Bits.{low_bit}
use Rattle.pattern.proofs.edition1.Marks.may_lead.Goals as goal

pub returns : goal.returns
returns c = search low_bit

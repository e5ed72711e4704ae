use Rattle.octets.proofs.Equal.{cased_by}
use Rattle.octets.proofs.same_letters.Goals as goal

pub returns : goal.returns
returns c = cased_by _ _ _ c.eq_ignore_ascii_case.ensures.test

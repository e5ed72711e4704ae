use borrow.Author.Rules.{rules}
use Rattle.rows.proofs.Methods.{in_set_past}
use Rattle.octets.proofs.Bits.{low_bit}
use Rattle.rows.proofs.in_set.Goals as goal

pub returns-then-registration-gt63 : goal.returns-then-registration-gt63
returns-then-registration-gt63 c = search (rules, in_set_past)

pub returns : goal.returns
returns c = search (rules, low_bit)

use Rattle.scan.proofs.Scanning.{first_digit, not_digit}
use borrow.Author.Rules.{rules}
use Rattle.scan.proofs.scanner.pass_point.Goals as goal

pub lead-requires : goal.lead-requires
lead-requires c = (search rules, search rules, search rules, λ i. search first_digit)

pub returns-in-Digit-2 : goal.returns-in-Digit-2
returns-in-Digit-2 c = search (rules, not_digit)

use Rattle.std.proofs.Common.{rules, ◌≡◌}
use Rattle.std.proofs.lemmas.Iterator.{cases_from_all, YieldsList-from_slice}
use borrow.Author.Tests.{tests}
use Rattle.octets.specs.Inner.Tables.{class_of}
use Rattle.octets.proofs.Tokens.{token_all}
use Rattle.octets.proofs.is_token.Goals as goal

pub returns-then-not-is_empty : goal.returns-then-not-is_empty
returns-then-not-is_empty c =
    token_all c.args.s.now c.all.result (search rules) (λ i. (c.type_inv.s i).fits)
    (cases_from_all _ _ _ (λ x. class_of x ≡ 1) (λ x. class_of x ≡ 1 → ⊥) c.all.ensures.ran (YieldsList-from_slice c.args.s.now cc)
    (λ x q k. search (rules, tests)) (λ x q k. search (rules, tests)))

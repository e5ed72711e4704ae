use Rattle.std.proofs.Common.{◌≡◌, rules, true, false}
use Rattle.std.proofs.lemmas.Iterator.{IsFirst-from_position}
use Rattle.std.proofs.lemmas.Iterator.Adapters.{YieldsList-from_rev_slice}
use Rattle.std.proofs.lemmas.Option.{MatchOption-at_some, MatchOption-at_none}
use borrow.Author.Tests.{tests}
use Rattle.octets.specs.Bytes.{white}
use Rattle.cuts.proofs.Trims.{back_found}
use Rattle.cuts.proofs.trimmed_end.Goals as goal

pub returns-in-Some : goal.returns-in-Some
returns-in-Some c =
    let found = back_found c.args.t.now c.position.result
    (IsFirst-from_position _ _ _ (λ x. white x ≡ false) (λ x. white x ≡ true) c.position.ensures.ran (YieldsList-from_rev_slice c.args.t.now cc)
    (λ x q k. search (rules, tests)) (λ x q k. search (rules, tests))) in
    (MatchOption-at_some _ _ _ c.in-Some.is found).1

pub returns-in-None : goal.returns-in-None
returns-in-None c =
    let found = back_found c.args.t.now c.position.result
    (IsFirst-from_position _ _ _ (λ x. white x ≡ false) (λ x. white x ≡ true) c.position.ensures.ran (YieldsList-from_rev_slice c.args.t.now cc)
    (λ x q k. search (rules, tests)) (λ x q k. search (rules, tests))) in
    MatchOption-at_none _ _ c.in-None.is found

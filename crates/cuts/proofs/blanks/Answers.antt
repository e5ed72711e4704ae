use Rattle.std.proofs.Common.{◌≡◌, rules, sym, ◌∙◌, true, false}
use Rattle.std.proofs.lemmas.Iterator.{IsFirst-from_position, YieldsList-from_slice}
use borrow.Author.Tests.{tests}
use Rattle.octets.specs.Bytes.{white}
use Rattle.cuts.proofs.Search.{blanks_found}
use Rattle.cuts.proofs.blanks.Goals as goal

pub returns : goal.returns
returns c =
    c.unwrap_or.ensures
    ∙ sym (blanks_found c.args.t.now c.position.result
    (IsFirst-from_position _ _ _ (λ x. white x ≡ false) (λ x. white x ≡ true) c.position.ensures.ran (YieldsList-from_slice c.args.t.now cc)
    (λ x q k. search (rules, tests)) (λ x q k. search (rules, tests))))

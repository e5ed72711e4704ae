use Rattle.std.proofs.Common.{◌≡◌, rules}
use Rattle.std.proofs.lemmas.Iterator.{IsFirst-from_position, YieldsList-from_slice}
use borrow.Author.Tests.{tests}
use Rattle.octets.specs.Lists.{text}
use Rattle.cuts.proofs.Search as S
use Rattle.contents.proofs.Shortening.{place_none, place_found}
use Rattle.contents.proofs.names.short_place.Goals as goal

pub returns-then-written-ne1 : goal.returns-then-written-ne1
returns-then-written-ne1 c = search place_none

pub returns : goal.returns
returns c =
    place_found c.args.written.now c.lower_of-letter.result _ (search rules) c.lower_of-letter.ensures (search rules)
    (S.place_found c.lower_of-letter.result (text "imelcfsktv") c.position.result
    (IsFirst-from_position _ _ _ (λ x. x ≡ c.lower_of-letter.result) (λ x. x ≡ c.lower_of-letter.result → ⊥) c.position.ensures.ran
    (YieldsList-from_slice (text "imelcfsktv") (cc))
    (λ x q k. search (rules, tests)) (λ x q k. search (rules, tests))))

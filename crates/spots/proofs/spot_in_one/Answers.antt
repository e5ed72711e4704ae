use borrow.Author.Tests.{not-true, not-false}
use Rattle.spots.proofs.Valuing.{no_spot_low, one_none, one_found, one_low, placed_as}
use Rattle.spots.proofs.spot_in_one.Goals as goal

pub returns-then-not-at : goal.returns-then-not-at
returns-then-not-at c = (
  one_none _ _ _ (placed_as _ _ c.requires.written _ _ _ c.find-at.ensures) (not-true _ c.if-not-at.true) _ c.no_spot.ensures,
  no_spot_low _ c.no_spot.ensures,
)

pub returns : goal.returns
returns c =
    let at = placed_as _ _ c.requires.written _ _ _ c.find-at.ensures in
    (one_found _ _ _ at (not-false _ c.if-not-at.false), one_low _ _ _ at c.requires.v_len_bound)

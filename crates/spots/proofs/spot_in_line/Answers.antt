use mathlib.Core.List.{[]}
use Rattle.trials.proofs.Items.{met_as, content_as}
use Rattle.spots.proofs.Valuing.{no_spot_low, bare_spot_low, item_no, item_bare, item_with}
use Rattle.spots.proofs.spot_in_line.Goals as goal

pub returns-then-not-meets : goal.returns-then-not-meets
returns-then-not-meets c = (
  item_no _ _ _ _ _ (met_as _ _ c.requires.written _ _ _ c.meets.ensures) c.if-not-meets.true _ _ _ c.no_spot.ensures,
  no_spot_low _ c.no_spot.ensures,
)

pub returns-in_default : goal.returns-in_default
returns-in_default c = (
  item_bare _ _ _ _ _ (met_as _ _ c.requires.written _ _ _ c.meets.ensures) c.if-not-meets.false _ c.in_default.is _ c.bare_spot.ensures,
  bare_spot_low _ c.bare_spot.ensures,
)

pub spot_in_one-requires : goal.spot_in_one-requires
spot_in_one-requires c =
    let met = met_as _ _ c.requires.written _ _ _ c.meets.ensures in
    record {
      v_len_bound = c.requires.value_len_bound;
      written = content_as _ _ _ [] _ met c.if-not-meets.false _ _ c.in-Some.is c.args.patterns.now.written;
    }

pub returns : goal.returns
returns c =
    let met = met_as _ _ c.requires.written _ _ _ c.meets.ensures in
    (item_with _ _ _ _ _ met c.if-not-meets.false _ _ c.in-Some.is _ c.spot_in_one.ensures.0, c.spot_in_one.ensures.1)

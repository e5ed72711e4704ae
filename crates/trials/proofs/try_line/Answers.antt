use mathlib.Core.List.{[]}
use Rattle.trials.proofs.Items.{met_as, content_as, item_no, item_bare, item_one}
use Rattle.trials.proofs.try_line.Goals as goal

pub returns-then-not-meets : goal.returns-then-not-meets
returns-then-not-meets c = item_no _ _ _ _ _ (met_as _ _ c.requires _ _ _ c.meets.ensures) c.if-not-meets.true _ _

pub returns-in_default : goal.returns-in_default
returns-in_default c = item_bare _ _ _ _ _ (met_as _ _ c.requires _ _ _ c.meets.ensures) c.if-not-meets.false _ c.in_default.is

pub returns : goal.returns
returns c =
    let met = met_as _ _ c.requires _ _ _ c.meets.ensures in
    let written = content_as _ _ _ [] _ met c.if-not-meets.false _ _ c.in-Some.is c.args.patterns.now.written in
    item_one _ _ _ _ met c.if-not-meets.false _ _ c.in-Some.is _ (met_as _ _ written _ _ _ c.meets-m.ensures)

use mathlib.Core.List.{[]}
use borrow.Author.Rules.{rules}
use Rattle.trials.proofs.Items.{met_as, content_as, item_no, item_bare, item_with}
use Rattle.trials.proofs.try_field.Goals as goal

pub returns-then-not-meets : goal.returns-then-not-meets
returns-then-not-meets c = (item_no _ _ _ _ _ (met_as _ _ c.requires.for_names _ _ _ c.meets.ensures) c.if-not-meets.true _ _, search rules)

pub returns-in_default : goal.returns-in_default
returns-in_default c = (item_bare _ _ _ _ _ (met_as _ _ c.requires.for_names _ _ _ c.meets.ensures) c.if-not-meets.false _ c.in_default.is, search rules)

pub try_values-v-requires : goal.try_values-v-requires
try_values-v-requires c =
    let met = met_as _ _ c.requires.for_names _ _ _ c.meets.ensures in
    record {
      raw_len_bound = c.requires.raw_len_bound;
      written = content_as _ _ _ [] _ met c.if-not-meets.false _ _ c.in-Some.is c.args.patterns.now.written;
    }

pub returns : goal.returns
returns c =
    let met = met_as _ _ c.requires.for_names _ _ _ c.meets.ensures in
    (item_with _ _ _ _ _ met c.if-not-meets.false _ _ c.in-Some.is _ c.try_values-v.ensures.0, search rules)

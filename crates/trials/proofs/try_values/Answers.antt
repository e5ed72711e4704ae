use borrow.Author.Rules.{rules}
use Rattle.contents.proofs.Laws.{reduced_inside, reduced_short}
use Rattle.trials.proofs.Items.{met_as}
use Rattle.trials.proofs.Values.{values_once, values_pieces}
use Rattle.trials.proofs.try_values.Goals as goal

pub slice_bounds-meets-end : goal.slice_bounds-meets-end
slice_bounds-meets-end c = search (rules, reduced_inside)

pub returns-then-never_cut : goal.returns-then-never_cut
returns-then-never_cut c = (
  values_once _ _ _ _ c.normalise-n.ensures.0 c.normalise-n.ensures.1 _ _ _ c.never_cut.ensures _ (met_as _ _ c.requires.written _ _ _ c.meets-m.ensures) c.if-never_cut.true,
  search rules,
)

pub slice_bounds-try_pieces-end : goal.slice_bounds-try_pieces-end
slice_bounds-try_pieces-end c = search (rules, reduced_inside)

pub try_pieces-requires : goal.try_pieces-requires
try_pieces-requires c = record { v_len_bound = search (rules, reduced_short); written = c.requires.written }

pub returns : goal.returns
returns c = (search values_pieces, search rules)

use borrow.Author.Rules.{rules}
use Rattle.contents.proofs.Laws.{reduced_inside, reduced_short}
use Rattle.probes.proofs.Pieces.{one_value, pieces_counted}
use Rattle.probes.proofs.counts.count_values.Goals as goal

pub returns-then-never_cut : goal.returns-then-never_cut
returns-then-never_cut c = search one_value

pub slice_bounds-count_pieces-end : goal.slice_bounds-count_pieces-end
slice_bounds-count_pieces-end c = search (rules, reduced_inside)

pub count_pieces-requires : goal.count_pieces-requires
count_pieces-requires c = search (rules, reduced_short)

pub returns : goal.returns
returns c = search pieces_counted

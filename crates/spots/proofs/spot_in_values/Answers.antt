use Rattle.contents.proofs.Laws.{reduced_inside, reduced_short}
use Rattle.spots.proofs.Valuing.{values_whole_spot, values_cut_spot}
use borrow.Author.Rules.{rules}
use Rattle.spots.proofs.spot_in_values.Goals as goal

pub slice_bounds-spot_in_one-end : goal.slice_bounds-spot_in_one-end
slice_bounds-spot_in_one-end c = search (rules, reduced_inside)

pub spot_in_one-requires : goal.spot_in_one-requires
spot_in_one-requires c = record { v_len_bound = search (rules, reduced_short); written = c.requires.written }

pub returns-then-never_cut : goal.returns-then-never_cut
returns-then-never_cut c = (search values_whole_spot, search rules)

pub slice_bounds-spot_in_pieces-end : goal.slice_bounds-spot_in_pieces-end
slice_bounds-spot_in_pieces-end c = search (rules, reduced_inside)

pub spot_in_pieces-requires : goal.spot_in_pieces-requires
spot_in_pieces-requires c = record { v_len_bound = search (rules, reduced_short); written = c.requires.written }

pub returns : goal.returns
returns c = (search values_cut_spot, search rules)

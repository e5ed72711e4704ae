use mathlib.Core.Path.{refl}
use borrow.Author.Rules.{rules}
use Rattle.contents.proofs.Values.{values_past}
use Rattle.contents.proofs.Walks.{cut_order, cut_inside, cut_value}
use Rattle.contents.proofs.pieces.next_cut.Goals as goal

pub returns-then-v-from : goal.returns-then-v-from
returns-then-v-from c = search values_past

pub slice_bounds-result-count : goal.slice_bounds-result-count
slice_bounds-result-count c = search (rules, cut_order)

pub slice_bounds-result-start : goal.slice_bounds-result-start
slice_bounds-result-start c = search (rules, cut_order)

pub slice_bounds-result-end : goal.slice_bounds-result-end
slice_bounds-result-end c = search (rules, cut_inside)

pub returns : goal.returns
returns c = cut_value _ _ (search rules) _ c.next_value-x.ensures _ refl refl

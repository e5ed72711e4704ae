use mathlib.Core.Path.{refl}
use borrow.Author.Rules.{rules}
use Rattle.contents.proofs.Walks.{passed_none, passed_all, other_less, passed_other, type_room, type_inside, value_order, value_inside, field_line}
use Rattle.contents.proofs.body_lines.next_field_line.Goals as goal

pub loop-next-init : goal.loop-next-init
loop-next-init c = search passed_none

pub returns-in-Done : goal.returns-in-Done
returns-in-Done c = search passed_all

pub loop-next-smaller : goal.loop-next-smaller
loop-next-smaller c = search other_less

pub loop-next-preserved : goal.loop-next-preserved
loop-next-preserved c = search passed_other

pub overflow_add-result : goal.overflow_add-result
overflow_add-result c = search (rules, type_room)

pub slice_bounds-result-end : goal.slice_bounds-result-end
slice_bounds-result-end c = search (rules, type_inside)

pub slice_bounds-result-count-in-Typed : goal.slice_bounds-result-count-in-Typed
slice_bounds-result-count-in-Typed c = search (rules, value_order)

pub slice_bounds-result-start-in-Typed : goal.slice_bounds-result-start-in-Typed
slice_bounds-result-start-in-Typed c = search (rules, value_order)

pub slice_bounds-result-end-in-Typed : goal.slice_bounds-result-end-in-Typed
slice_bounds-result-end-in-Typed c = search (rules, value_inside)

pub returns-in-Typed : goal.returns-in-Typed
returns-in-Typed c = field_line _ _ _ c.loop-next.invariant _ c.next_line.ensures _ _ _ _ c.in-Typed.is _ refl refl refl

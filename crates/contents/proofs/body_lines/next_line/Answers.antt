use native.Mathlib.Omega.{arith}
use borrow.Author.Rules.{rules}
use Rattle.contents.proofs.BodyLines.{line_past, lf_order, lf_inside, second_inside, next_short, next_other, next_typed}
use Rattle.contents.proofs.body_lines.next_line.Goals as goal

pub returns-then-b-from : goal.returns-then-b-from
returns-then-b-from c = search line_past

pub overflow_add-next : goal.overflow_add-next
overflow_add-next c = omega (arith, lf_inside c.args.b.now _ (search rules) _ c.place_of-k.ensures)

pub line_stop-e-requires : goal.line_stop-e-requires
line_stop-e-requires c = (search lf_order, search lf_inside)

pub returns-then-e-from : goal.returns-then-e-from
returns-then-e-from c = search next_short

pub bounds-b-from : goal.bounds-b-from
bounds-b-from c = search second_inside

pub returns-then-b-from-ne61 : goal.returns-then-b-from-ne61
returns-then-b-from-ne61 c = search next_other

pub returns : goal.returns
returns c = search next_typed

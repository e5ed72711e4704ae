use native.Mathlib.Omega.{arith}
use borrow.Author.Rules.{rules}
use Rattle.request.proofs.Fields.{checking_first, checking_no, checking_next, checking_end, end_inside}
use Rattle.request.proofs.field_lines.are_fields.Goals as goal

pub loop-p-init : goal.loop-p-init
loop-p-init c = search checking_first

pub slice_bounds-is_field-end : goal.slice_bounds-is_field-end
slice_bounds-is_field-end c = search end_inside

pub overflow_add-p : goal.overflow_add-p
overflow_add-p c = omega (arith, end_inside c.args.h.now _ _ (search rules) c.line_end-e.ensures)

pub returns-then-not-right : goal.returns-then-not-right
returns-then-not-right c = search checking_no

pub loop-p-preserved : goal.loop-p-preserved
loop-p-preserved c = search checking_next

pub returns : goal.returns
returns c = search checking_end

use native.Mathlib.Omega.{arith}
use borrow.Author.Rules.{rules}
use Rattle.request.proofs.Fields.{colon_small, end_inside}
use Rattle.request.proofs.Filling.{filling_first, starts_place, filling_next, filling_end}
use Rattle.request.proofs.Lent.{fillable_in, place_in, filling_in}
use Rattle.request.proofs.fill.Goals as goal

pub loop-p-init : goal.loop-p-init
loop-p-init c = filling_first _ _ _ _ (fillable_in _ _ _ c.requires)

pub slice_bounds-place_of-end : goal.slice_bounds-place_of-end
slice_bounds-place_of-end c = search end_inside

pub overflow_add-lent : goal.overflow_add-lent
overflow_add-lent c = omega (arith, colon_small c.args.h.now _ _ (search rules) c.line_end-e.ensures _ c.place_of-k.ensures)

pub overflow_cast-lent : goal.overflow_cast-lent
overflow_cast-lent c = omega (arith, colon_small c.args.h.now _ _ (search rules) c.line_end-e.ensures _ c.place_of-k.ensures)

pub overflow_cast-lent-in-loop-p : goal.overflow_cast-lent-in-loop-p
overflow_cast-lent-in-loop-p c = omega (arith, colon_small c.args.h.now _ _ (search rules) c.line_end-e.ensures _ c.place_of-k.ensures)

pub bounds-lent-n : goal.bounds-lent-n
bounds-lent-n c = place_in _ _ (starts_place _ _ _ _ _ _ _ _ c.loop-p.invariant (fillable_in _ _ _ c.requires) c.loop-p-test.true)

pub loop-p-preserved : goal.loop-p-preserved
loop-p-preserved c =
    filling_in _ _ _ _ _ _ _ _ _ _
    (filling_next _ _ _ _ _ _ _ _ c.loop-p.invariant (fillable_in _ _ _ c.requires) c.loop-p-test.true _ c.line_end-e.ensures _ c.place_of-k.ensures)

pub overflow_add-p : goal.overflow_add-p
overflow_add-p c = omega (arith, end_inside c.args.h.now _ _ (search rules) c.line_end-e.ensures)

pub loop-p-smaller : goal.loop-p-smaller
loop-p-smaller c = omega (arith, end_inside c.args.h.now _ _ (search rules) c.line_end-e.ensures)

pub returns : goal.returns
returns c = filling_end _ _ _ _ _ _ _ _ c.loop-p.invariant (fillable_in _ _ _ c.requires) c.loop-p-test.false

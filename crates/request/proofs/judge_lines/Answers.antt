use mathlib.Core.Path.{◌∙◌}
use native.Mathlib.Omega.{arith}
use borrow.Author.Rules.{rules}
use Rattle.request.proofs.Judging.{n_inside, rest_paired, lines_fold, lines_bad, lines_wrong, lines_right}
use Rattle.request.proofs.judge_lines.Goals as goal

pub overflow_add-n : goal.overflow_add-n
overflow_add-n c = omega (arith, n_inside c.args.h.now _ c.requires c.place_of-n.ensures)

pub returns-then-is_white : goal.returns-then-is_white
returns-then-is_white c = search lines_fold

pub slice_bounds-start_line-end : goal.slice_bounds-start_line-end
slice_bounds-start_line-end c = search n_inside

pub overflow_add-n-2 : goal.overflow_add-n-2
overflow_add-n-2 c = omega (arith, n_inside c.args.h.now _ c.requires c.place_of-n.ensures)

pub are_fields-requires : goal.are_fields-requires
are_fields-requires c = record {
  classes = search rules;
  from_in_bounds = (omega (arith, n_inside c.args.h.now _ c.requires c.place_of-n.ensures), search rules, search rest_paired);
}

pub overflow_add-result : goal.overflow_add-result
overflow_add-result c = omega (arith, n_inside c.args.h.now _ c.requires c.place_of-n.ensures)

pub returns-in_err-start : goal.returns-in_err-start
returns-in_err-start c =
    c.from_residual.ensures
    ∙ lines_bad _ _ c.requires c.place_of-n.ensures _ c.byte_at.ensures _ c.is_white.ensures c.if-is_white.false _ c.start_line.ensures c.in_err-start.was

pub returns-then-not-are_fields : goal.returns-then-not-are_fields
returns-then-not-are_fields c =
    lines_wrong _ _ c.requires c.place_of-n.ensures _ c.byte_at.ensures _ c.is_white.ensures c.if-is_white.false _ c.start_line.ensures
    _ _ c.in_ok-start.was _ c.are_fields.ensures c.if-not-are_fields.true

pub returns : goal.returns
returns c =
    lines_right _ _ c.requires c.place_of-n.ensures _ c.byte_at.ensures _ c.is_white.ensures c.if-is_white.false _ c.start_line.ensures
    _ _ c.in_ok-start.was _ c.are_fields.ensures c.if-not-are_fields.false

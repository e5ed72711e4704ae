use borrow.Author.Rules.{rules}
use native.Mathlib.Omega.{arith}
use mathlib.Core.Path.{sym}
use Rattle.cells.proofs.Laws.{exits}
use Rattle.profile.proofs.ImageLaws.{opening_inv, opening_no, table_is, rows_low, members_low, members_few, criteria_low, criteria_few, strings_no, row_count_no, rows_no, member_count_no, members_no, criterion_count_no, criteria_no, trailing_no, accepts, lays}
use Rattle.profile.proofs.judge_image.Goals as goal

pub returns-in_err-count-clause-table_after : goal.returns-in_err-count-clause-table_after
returns-in_err-count-clause-table_after c = rw (exits c.from_residual.ensures.1) (opening_no _ _ _ c.in_err-count.ensures)

pub strings-requires : goal.strings-requires
strings-requires c = let o = opening_inv _ _ (sym c.in_ok-count.ensures) in (o.0, o.1, c.requires)

pub returns-in_err-rows_at-clause-table_after : goal.returns-in_err-rows_at-clause-table_after
returns-in_err-rows_at-clause-table_after c = rw (exits c.from_residual-in_err-rows_at.ensures.1) (strings_no _ _ c.in_ok-count.ensures _ _ c.in_err-rows_at.ensures.tabled)

pub judge_strings-requires : goal.judge_strings-requires
judge_strings-requires c = (table_is _ _ c.in_ok-count.ensures _ _ c.in_ok-rows_at.ensures.tabled, search rules)

pub returns-in_err-row_count-clause-table_after : goal.returns-in_err-row_count-clause-table_after
returns-in_err-row_count-clause-table_after c = rw (exits c.from_residual-in_err-row_count.ensures.1) (row_count_no _ _ c.in_ok-count.ensures _ _ c.in_ok-rows_at.ensures.tabled _ _ c.in_err-row_count.ensures)

pub rows-requires : goal.rows-requires
rows-requires c = rows_low _ _ c.in_ok-count.ensures _ _ c.in_ok-rows_at.ensures.tabled _ c.in_ok-row_count.ensures

pub returns-in_err-members_at-clause-table_after : goal.returns-in_err-members_at-clause-table_after
returns-in_err-members_at-clause-table_after c = rw (exits c.from_residual-in_err-members_at.ensures.1) (rows_no _ _ c.in_ok-count.ensures _ _ c.in_ok-rows_at.ensures.tabled _ c.in_ok-row_count.ensures _ _ c.in_err-members_at.ensures)

pub count_at-requires-2 : goal.count_at-requires-2
count_at-requires-2 c = omega (arith, members_low _ _ c.in_ok-count.ensures _ _ c.in_ok-rows_at.ensures.tabled _ c.in_ok-row_count.ensures _ c.in_ok-members_at.ensures)

pub returns-in_err-member_count-clause-table_after : goal.returns-in_err-member_count-clause-table_after
returns-in_err-member_count-clause-table_after c = rw (exits c.from_residual-in_err-member_count.ensures.1) (member_count_no _ _ c.in_ok-count.ensures _ _ c.in_ok-rows_at.ensures.tabled _ c.in_ok-row_count.ensures _ c.in_ok-members_at.ensures _ _ c.in_err-member_count.ensures)

pub overflow_add-members_at : goal.overflow_add-members_at
overflow_add-members_at c = omega (arith, members_low _ _ c.in_ok-count.ensures _ _ c.in_ok-rows_at.ensures.tabled _ c.in_ok-row_count.ensures _ c.in_ok-members_at.ensures)

pub placed_members-requires : goal.placed_members-requires
placed_members-requires c = let r = rows_low _ _ c.in_ok-count.ensures _ _ c.in_ok-rows_at.ensures.tabled _ c.in_ok-row_count.ensures in (members_low _ _ c.in_ok-count.ensures _ _ c.in_ok-rows_at.ensures.tabled _ c.in_ok-row_count.ensures _ c.in_ok-members_at.ensures, omega arith, r.1, members_few _ _ c.in_ok-count.ensures _ _ c.in_ok-rows_at.ensures.tabled _ c.in_ok-row_count.ensures _ c.in_ok-members_at.ensures _ c.in_ok-member_count.ensures)

pub returns-in_err-criteria_at-clause-table_after : goal.returns-in_err-criteria_at-clause-table_after
returns-in_err-criteria_at-clause-table_after c = rw (exits c.from_residual-in_err-criteria_at.ensures.1) (members_no _ _ c.in_ok-count.ensures _ _ c.in_ok-rows_at.ensures.tabled _ c.in_ok-row_count.ensures _ c.in_ok-members_at.ensures _ c.in_ok-member_count.ensures _ _ c.in_err-criteria_at.ensures)

pub count_at-requires-3 : goal.count_at-requires-3
count_at-requires-3 c = omega (arith, criteria_low _ _ c.in_ok-count.ensures _ _ c.in_ok-rows_at.ensures.tabled _ c.in_ok-row_count.ensures _ c.in_ok-members_at.ensures _ c.in_ok-member_count.ensures _ c.in_ok-criteria_at.ensures)

pub returns-in_err-criterion_count-clause-table_after : goal.returns-in_err-criterion_count-clause-table_after
returns-in_err-criterion_count-clause-table_after c = rw (exits c.from_residual-in_err-criterion_count.ensures.1) (criterion_count_no _ _ c.in_ok-count.ensures _ _ c.in_ok-rows_at.ensures.tabled _ c.in_ok-row_count.ensures _ c.in_ok-members_at.ensures _ c.in_ok-member_count.ensures _ c.in_ok-criteria_at.ensures _ _ c.in_err-criterion_count.ensures)

pub overflow_add-criteria_at : goal.overflow_add-criteria_at
overflow_add-criteria_at c = omega (arith, criteria_low _ _ c.in_ok-count.ensures _ _ c.in_ok-rows_at.ensures.tabled _ c.in_ok-row_count.ensures _ c.in_ok-members_at.ensures _ c.in_ok-member_count.ensures _ c.in_ok-criteria_at.ensures)

pub criteria-requires : goal.criteria-requires
criteria-requires c = (criteria_low _ _ c.in_ok-count.ensures _ _ c.in_ok-rows_at.ensures.tabled _ c.in_ok-row_count.ensures _ c.in_ok-members_at.ensures _ c.in_ok-member_count.ensures _ c.in_ok-criteria_at.ensures, criteria_few _ _ c.in_ok-count.ensures _ _ c.in_ok-rows_at.ensures.tabled _ c.in_ok-row_count.ensures _ c.in_ok-members_at.ensures _ c.in_ok-member_count.ensures _ c.in_ok-criteria_at.ensures _ c.in_ok-criterion_count.ensures)

pub returns-in_err-end-clause-table_after : goal.returns-in_err-end-clause-table_after
returns-in_err-end-clause-table_after c = rw (exits c.from_residual-in_err-end.ensures.1) (criteria_no _ _ c.in_ok-count.ensures _ _ c.in_ok-rows_at.ensures.tabled _ c.in_ok-row_count.ensures _ c.in_ok-members_at.ensures _ c.in_ok-member_count.ensures _ c.in_ok-criteria_at.ensures _ c.in_ok-criterion_count.ensures _ _ c.in_err-end.ensures)

pub returns-in_err-must-clause-table_after : goal.returns-in_err-must-clause-table_after
returns-in_err-must-clause-table_after c = rw (exits c.from_residual-in_err-must.ensures.1) (trailing_no _ _ c.in_ok-count.ensures _ _ c.in_ok-rows_at.ensures.tabled _ c.in_ok-row_count.ensures _ c.in_ok-members_at.ensures _ c.in_ok-member_count.ensures _ c.in_ok-criteria_at.ensures _ c.in_ok-criterion_count.ensures _ c.in_ok-end.ensures _ _ c.in_err-must.ensures)

pub overflow_add-result-2 : goal.overflow_add-result-2
overflow_add-result-2 c = omega (arith, members_low _ _ c.in_ok-count.ensures _ _ c.in_ok-rows_at.ensures.tabled _ c.in_ok-row_count.ensures _ c.in_ok-members_at.ensures)

pub overflow_add-result-3 : goal.overflow_add-result-3
overflow_add-result-3 c = omega (arith, criteria_low _ _ c.in_ok-count.ensures _ _ c.in_ok-rows_at.ensures.tabled _ c.in_ok-row_count.ensures _ c.in_ok-members_at.ensures _ c.in_ok-member_count.ensures _ c.in_ok-criteria_at.ensures)

pub returns-clause-table_after : goal.returns-clause-table_after
returns-clause-table_after c = accepts _ _ c.in_ok-count.ensures _ _ c.in_ok-rows_at.ensures.tabled _ c.in_ok-row_count.ensures _ c.in_ok-members_at.ensures _ c.in_ok-member_count.ensures _ c.in_ok-criteria_at.ensures _ c.in_ok-criterion_count.ensures _ c.in_ok-end.ensures c.in_ok-must.ensures

pub returns-clause-laid : goal.returns-clause-laid
returns-clause-laid c = lays _ _ c.in_ok-count.ensures _ _ c.in_ok-rows_at.ensures.tabled _ c.in_ok-row_count.ensures _ c.in_ok-members_at.ensures _ c.in_ok-member_count.ensures _ c.in_ok-criteria_at.ensures _ c.in_ok-criterion_count.ensures _ c.in_ok-end.ensures c.in_ok-must.ensures _ c.in_ok-rows_at.ensures.filled

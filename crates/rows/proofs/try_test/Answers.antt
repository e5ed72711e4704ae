use native.Mathlib.Omega.{arith}
use Rattle.rows.proofs.ByKind.{single_few, case_row, uri_row, method_row, pattern_row}
use Rattle.rows.proofs.try_test.Goals as goal

pub returns-in-0 : goal.returns-in-0
returns-in-0 c = (
  uri_row _ _ _ _ _ _ c.string.ensures _ _ c.single.ensures c.in-0.is c.uri.ensures c.same_bytes.ensures,
  single_few _ _ c.single.ensures,
)

pub returns-in-1 : goal.returns-in-1
returns-in-1 c = (
  method_row _ _ _ _ _ _ c.string-in-1.ensures _ _ c.single-in-1.ensures c.in-1.is c.method.ensures c.method_fits.ensures,
  single_few _ _ c.single-in-1.ensures,
)

pub returns-in-3 : goal.returns-in-3
returns-in-3 c = (case_row _ _ _ _ c.in-3.is _ c.from_long.ensures _ c.single-in-3.ensures, single_few _ _ c.single-in-3.ensures)

pub returns-in_default : goal.returns-in_default
returns-in_default c = (
  pattern_row _ _ c.requires.cases (λ e. omega arith) (λ e. omega arith) (λ e. omega arith) _ _ _ c.prepare.ensures _ c.try_patterns.ensures.0,
  c.try_patterns.ensures.1,
)

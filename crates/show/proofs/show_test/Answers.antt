use native.Mathlib.Omega.{arith}
use Rattle.show.proofs.Rowing.{uri_shown, method_shown, case_shown, kept_shown}
use Rattle.spots.proofs.Showing.{none_shown_low}
use Rattle.show.proofs.show_test.Goals as goal

pub returns-in-0 : goal.returns-in-0
returns-in-0 c = (uri_shown _ _ _ _ c.none_shown.ensures c.in-0.is, none_shown_low _ c.none_shown.ensures)

pub returns-in-1 : goal.returns-in-1
returns-in-1 c = (method_shown _ _ _ _ c.none_shown-in-1.ensures c.in-1.is, none_shown_low _ c.none_shown-in-1.ensures)

pub returns-in-3 : goal.returns-in-3
returns-in-3 c = (case_shown _ _ _ _ c.none_shown-in-3.ensures c.in-3.is, none_shown_low _ c.none_shown-in-3.ensures)

pub returns-in_default : goal.returns-in_default
returns-in_default c = (
  kept_shown _ _ c.requires.cases (λ e. omega arith) (λ e. omega arith) (λ e. omega arith) _ _ c.prepare.ensures _ c.show_patterns.ensures.0,
  c.show_patterns.ensures.1,
)

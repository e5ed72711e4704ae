use mathlib.Core.Path.{◌≡◌}
use Rattle.bulk.proofs.Walking.{sessions_after, refusals_after}
use Rattle.bulk.proofs.report_all.Given as goal

abbrev pub invariant-loop-i : goal.invariant-loop-i
invariant-loop-i l = record {
  sessions_are : l.sessions ≡ sessions_after l.i l.fn.sessions l.reports;
  refusals_are : l.refusals ≡ refusals_after l.i l.fn.sessions l.reports l.fn.refusals;
}

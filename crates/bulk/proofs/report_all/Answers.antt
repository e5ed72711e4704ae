use mathlib.Core.Path.{sym, ◌∙◌}
use Rattle.bulk.proofs.Walking.{refused, turn_of_all, ended_all}
use Rattle.bulk.proofs.report_all.Goals as goal

pub returns-then-not-lengths_fit : goal.returns-then-not-lengths_fit
returns-then-not-lengths_fit c = refused _ _ _ (sym c.lengths_fit.ensures ∙ c.if-not-lengths_fit.true)

pub loop-i-preserved : goal.loop-i-preserved
loop-i-preserved c =
    let two = turn_of_all _ _ _ (sym c.lengths_fit.ensures ∙ c.if-not-lengths_fit.false) c.loop-i.i _ c.loop-i.invariant.sessions_are _ c.loop-i.invariant.refusals_are c.loop-i-test.true _ c.report-a.result c.report-a.ensures.answer in
    record { sessions_are = two.0; refusals_are = two.1 }

pub returns : goal.returns
returns c =
    ended_all _ _ _ (sym c.lengths_fit.ensures ∙ c.if-not-lengths_fit.false) c.loop-i.i _ c.loop-i.invariant.sessions_are _ c.loop-i.invariant.refusals_are c.loop-i.auto.i-end c.loop-i-test.false

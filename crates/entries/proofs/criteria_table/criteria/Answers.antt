use native.Mathlib.Omega.{arith}
use mathlib.Core.Path.{ap, ◌∙◌, sym}
use Rattle.cells.proofs.Laws.{exits}
use Rattle.cells.specs.Inner.Out.{good}
use Rattle.cells.proofs.Laws.{u32_inv, must_refused, must_passed}
use borrow.Author.Tests.{leb-true, leb-false}
use Rattle.entries.proofs.CriteriaLoop.{earlier_none, earlier_not, earlier_found, earlier_all, crit_first, crit_end, crit_cut, crit_repeat, crit_bad, crit_more}
use Rattle.entries.proofs.criteria_table.criteria.Goals as goal
use Rattle.entries.proofs.criteria_table.criteria.Goals.{then-n-j, else-n-j+in_ok-p+then-loop-i-test+then-priority-p}

pub scan-init : goal.scan-init
scan-init c = crit_first _ _ _ _ _

pub returns-in_err-p : goal.returns-in_err-p
returns-in_err-p c =
    rw (exits c.from_residual.ensures.1) (search (crit_cut, c.in_err-p.ensures))

pub loop-i-init : goal.loop-i-init
loop-i-init c = earlier_none _ _ _

pub priority-requires : goal.priority-requires
priority-requires c =
    omega (arith, u32_inv _ _ _ (sym c.in_ok-p.ensures))

pub loop-i-preserved : goal.loop-i-preserved
loop-i-preserved c = earlier_not _ _ _ _ _ c.loop-i.invariant c.priority.ensures.0 c.if-priority-p.false

pub returns-in_err-at : goal.returns-in_err-at
returns-in_err-at c =
    rw (exits c.from_residual-in_err-at.ensures.1) (crit_bad _ _ _ _ _ _ _ c.scan.invariant c.if-n-j.false _ c.in_ok-p.ensures (earlier_all _ _ _ _ _ c.loop-i.invariant (omega arith) c.loop-i-test.false) _ _ c.in_err-at.ensures)

pub scan-preserved : goal.scan-preserved
scan-preserved c = crit_more _ _ _ _ _ _ _ c.scan.invariant c.if-n-j.false _ c.in_ok-p.ensures (earlier_all _ _ _ _ _ c.loop-i.invariant (omega arith) c.loop-i-test.false) _ c.in_ok-at.ensures

pub returns-in_err-must : goal.returns-in_err-must
returns-in_err-must c =
    let m = must_refused _ _ _ _ _ c.in_err-must.ensures in
    rw (exits c.from_residual-in_err-must.ensures.1, m.1, m.2) (elim c.if-n-j.branch [
      | then-n-j w ↦ absurd (let h = leb-false _ _ m.0 in omega arith)
      | else-n-j+in_ok-p+then-loop-i-test+then-priority-p w ↦
          rw w.found-is (crit_repeat _ _ _ _ _ _ _ c.scan.invariant w.if-n-j.false _ w.in_ok-p.ensures (earlier_found _ _ _ _ _ _ w.loop-i-test.true w.priority.ensures.0 w.if-priority-p.true))
    ])

pub returns : goal.returns
returns c =
    let m = must_passed _ _ _ c.in_ok-must.ensures in
    elim c.if-n-j.branch [
      | then-n-j w ↦ ap good w.found-is ∙ crit_end _ _ _ _ _ _ _ c.scan.invariant w.if-n-j.true
      | else-n-j+in_ok-p+then-loop-i-test+then-priority-p w ↦ absurd (let h = leb-true _ _ m in omega arith)
    ]

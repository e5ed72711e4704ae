use native.Mathlib.Omega.{arith}
use Rattle.fitting.proofs.Members.{form_dnf, form_cnf, form_none}
use Rattle.fitting.proofs.trigger.Members.fit.Goals as goal

pub returns-in-0 : goal.returns-in-0
returns-in-0 c = search form_dnf

pub returns-in-1 : goal.returns-in-1
returns-in-1 c = form_cnf _ _ _ _ _ _ c.groups_hold-in-1.ensures (λ e. omega (arith, c.in-1.is)) c.in-1.is

pub returns-in_default : goal.returns-in_default
returns-in_default c = form_none _ _ _ _ _ (λ e. omega arith) (λ e. omega arith)

use native.Mathlib.Omega.{arith}
use Rattle.fitting.proofs.Members.{form_none}
use Rattle.fitting.proofs.Spans.{fits_there}
use Rattle.fitting.proofs.trigger.Members.trigger_fits.Goals as goal

pub returns-then-form-gt1 : goal.returns-then-form-gt1
returns-then-form-gt1 c = form_none _ _ _ _ _ (λ z. absurd (omega arith)) (λ z. absurd (omega arith))

pub returns : goal.returns
returns c = search fits_there

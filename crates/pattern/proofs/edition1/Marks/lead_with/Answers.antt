use mathlib.Core.Path.{refl, sym, ap, ◌∙◌}
use mathlib.Core.Bool.{Bool, ◌&&◌}
use Rattle.octets.proofs.Choosing.{picks_first, picks_second}
use Rattle.pattern.proofs.edition1.Marks.lead_with.Goals as goal

pub returns-then-repeats-may_lead : goal.returns-then-repeats-may_lead
returns-then-repeats-may_lead c =
    picks_first _ _ _ _ (ap (λ (t : Bool). c.args.repeats && t) (sym c.may_lead.ensures) ∙ c.if-repeats-may_lead.true) c.with_position.ensures

pub returns : goal.returns
returns c =
    picks_second _ _ _ _ (ap (λ (t : Bool). c.args.repeats && t) (sym c.may_lead.ensures) ∙ c.if-repeats-may_lead.false) refl

use Rattle.pattern.proofs.Positions.{mark_is}
use Rattle.pattern.proofs.edition1.Marks.with.Goals as goal

pub returns : goal.returns
returns c =
    let a = c.args in
    mark_is a.self a.repeats _ _ c.run_with-run.ensures c.lead_with-lead.ensures

use Rattle.ifc.proofs.Passing.{passes_report}
use Rattle.ifc.proofs.ifc_report.Goals as goal

pub returns : goal.returns
returns c = passes_report c.report-reported.ensures

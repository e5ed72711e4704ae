use Rattle.cells.proofs.Laws.{exits}
use Rattle.profile.proofs.Keeping.{stands, refuses}
use Rattle.profile.proofs.accept.Goals as goal

pub returns-in_err-layout : goal.returns-in_err-layout
returns-in_err-layout c = rw (exits c.from_residual.ensures.1) (refuses _ _ _ c.judge_image.ensures.table_after _ c.in_err-layout.was)

pub invariant_of-result : goal.invariant_of-result
invariant_of-result c = record { standing = stands _ _ _ c.judge_image.ensures.table_after _ c.in_ok-layout.was c.judge_image.ensures.laid }

use Rattle.rows.proofs.Methods.{method_other, method_plain, method_no_set, method_set}
use Rattle.rows.proofs.method_fits.Goals as goal

pub returns-then-not-same_bytes : goal.returns-then-not-same_bytes
returns-then-not-same_bytes c = search method_other

pub returns-then-not-same_bytes-2 : goal.returns-then-not-same_bytes-2
returns-then-not-same_bytes-2 c = search method_plain

pub returns-then-set-eq0 : goal.returns-then-set-eq0
returns-then-set-eq0 c = search method_no_set

pub returns : goal.returns
returns c = search method_set

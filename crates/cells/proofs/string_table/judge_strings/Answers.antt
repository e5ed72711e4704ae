use Rattle.cells.proofs.Uses.{told_none, told_more, told_all, inside_at}
use Rattle.cells.proofs.string_table.judge_strings.Goals as goal

pub loop-k-init : goal.loop-k-init
loop-k-init c = search told_none

pub text-t-requires : goal.text-t-requires
text-t-requires c = search inside_at

pub loop-k-preserved : goal.loop-k-preserved
loop-k-preserved c = search told_more

pub returns : goal.returns
returns c = search told_all

use Rattle.machine.proofs.Hunt.{start_below, shut_nothing}
use mathlib.Core.Bool.{true≢false}
use mathlib.Core.Path.{sym}
use Rattle.machine.proofs.shut_out.Goals as goal

pub returns-then-n-eq0 : goal.returns-then-n-eq0
returns-then-n-eq0 c = λ e. absurd (true≢false (sym e))

pub returns-then-empty_somewhere : goal.returns-then-empty_somewhere
returns-then-empty_somewhere c = λ e. absurd (true≢false (sym e))

pub shut-requires : goal.shut-requires
shut-requires c = search start_below

pub returns : goal.returns
returns c = search shut_nothing

use Rattle.fitting.proofs.Members.{hold_first, hold_next, hold_no, hold_end}
use Rattle.fitting.proofs.trigger.Members.groups_hold.Goals as goal

pub loop-i-init : goal.loop-i-init
loop-i-init c = search hold_first

pub returns-then-not-group_holds : goal.returns-then-not-group_holds
returns-then-not-group_holds c = search hold_no

pub loop-i-preserved : goal.loop-i-preserved
loop-i-preserved c = search hold_next

pub returns : goal.returns
returns c = search hold_end

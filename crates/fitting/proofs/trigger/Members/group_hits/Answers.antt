use Rattle.fitting.proofs.Members.{seek_first, seek_next, seek_yes, seek_end}
use Rattle.fitting.proofs.trigger.Members.group_hits.Goals as goal

pub loop-i-init : goal.loop-i-init
loop-i-init c = search seek_first

pub returns-then-hits : goal.returns-then-hits
returns-then-hits c = search seek_yes

pub loop-i-preserved : goal.loop-i-preserved
loop-i-preserved c = search seek_next

pub returns : goal.returns
returns c = search seek_end

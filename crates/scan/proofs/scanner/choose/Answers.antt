use Rattle.scan.proofs.Choosing.{choosing_first, choosing_word, choosing_found, choosing_next, choosing_missed}
use borrow.Author.Rules.{rules}
use Rattle.scan.proofs.scanner.choose.Goals as goal

pub loop-j-init : goal.loop-j-init
loop-j-init c = search choosing_first

pub reach-r-requires : goal.reach-r-requires
reach-r-requires c = (search rules, search choosing_word)

pub width_of-requires : goal.width_of-requires
width_of-requires c = search choosing_word

pub returns-then-r-width_of : goal.returns-then-r-width_of
returns-then-r-width_of c = search choosing_found

pub loop-j-preserved : goal.loop-j-preserved
loop-j-preserved c = search choosing_next

pub returns : goal.returns
returns c = search choosing_missed

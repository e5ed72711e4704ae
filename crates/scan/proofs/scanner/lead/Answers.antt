use Rattle.scan.proofs.Scanning.{lead_whole, lead_top, lead_on, run_inside}
use borrow.Author.Rules.{rules}
use Rattle.scan.proofs.scanner.lead.Goals as goal
use Rattle.scan.proofs.scanner.lead.Goals.{else-q-eq0-via-then-q-eq0+else-e-s, else-q-eq0-via-else-q-eq0}

pub returns-then-e-s : goal.returns-then-e-s
returns-then-e-s c = search lead_whole

pub word_turn-requires : goal.word_turn-requires
word_turn-requires c = (search run_inside, search rules)

pub returns : goal.returns
returns c =
    elim c.else-q-eq0.branch [
      | else-q-eq0-via-then-q-eq0+else-e-s w ↦ search (lead_top, run_inside)
      | else-q-eq0-via-else-q-eq0 w ↦ search lead_on
    ]

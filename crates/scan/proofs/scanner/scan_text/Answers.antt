use Rattle.scan.proofs.Starting.{start_inside, start_within, start_closed, start_open, no_start}
use Rattle.scan.proofs.scanner.scan_text.Goals as goal

pub end_of-requires : goal.end_of-requires
end_of-requires c = search start_inside

pub scan_from-requires : goal.scan_from-requires
scan_from-requires c = search start_within

pub returns-in-Some : goal.returns-in-Some
returns-in-Some c = search start_closed

pub returns-in-None : goal.returns-in-None
returns-in-None c = search start_open

pub returns : goal.returns
returns c = search no_start

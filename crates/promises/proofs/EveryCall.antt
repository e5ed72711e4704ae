-- Demand 1 over every call, from what is proved of each.
use mathlib.Core.List.{map}
use mathlib.Core.Path.{◌≡◌}
use Rattle.promises.specs.Calls.{Call, checking, opening, advancing, reporting, listing_it, serving, informing, showing, reporting_all, matching, Store, step}
use Rattle.promises.specs.EachCall.{lines, Refuses, number, Untouched}
use Rattle.promises.proofs.Refused.{check_refusal, open_refusal, advance_refusal, listing_refusal, report_refusal, server_refusal, information_refusal, show_refusal, plain_refusal}
use Rattle.promises.proofs.InBulk as in_bulk
use Rattle.promises.proofs.Unchanged as unchanged

pub each_refuses : (c : Call) (st : Store) → Refuses (lines c st) (step c st).answer
unfolding step
each_refuses (checking image) st = check_refusal image
each_refuses (opening k case) st = open_refusal case
each_refuses (advancing k image r) st = advance_refusal (st k) image r
each_refuses (reporting k n) st = report_refusal (st k) n
each_refuses (listing_it g image r places) st = listing_refusal g image r places
each_refuses (serving image i) st = server_refusal image i
each_refuses (informing image i) st = information_refusal image i
each_refuses (showing image r k) st = show_refusal image r k
each_refuses (reporting_all ks ns before) st = in_bulk.reports_refusal (map st ks) ns before
each_refuses (matching p t) st = plain_refusal p t

pub refused_untouched : (c : Call) (st : Store) → (number (step c st).answer ≡ 0 → ⊥) → Untouched c st
unfolding step
refused_untouched (checking image) st h = tt
refused_untouched (opening k case) st h = unchanged.open_unopened case h
refused_untouched (advancing k image r) st h = unchanged.advance_unchanged (st k) image r h
refused_untouched (reporting k n) st h = unchanged.report_unchanged (st k) n h
refused_untouched (listing_it g image r places) st h = unchanged.listing_unchanged g image r places h
refused_untouched (serving image i) st h = unchanged.server_empty image i h
refused_untouched (informing image i) st h = unchanged.information_empty image i h
refused_untouched (showing image r k) st h = unchanged.show_empty image r k h
refused_untouched (reporting_all ks ns before) st h = in_bulk.reports_unchanged (map st ks) ns before h
refused_untouched (matching p t) st h = unchanged.plain_empty p t h

-- Demand 1 over every call: the lines of its table, what its answer says of them, and what a refusal leaves as it was.
use Rattle.std.specs.Prelude.{ℕ, List, map, ◌≡◌}
use Rattle.lookups.specs.Lookups.{server, information}
use Rattle.session.specs.Session.{unopened, open_session, report_session}
use Rattle.route.specs.Advance.{advance}
use Rattle.listing.specs.Listing.{listing}
use Rattle.show.specs.Show.{show}
use Rattle.bulk.specs.Bulk.{report_all}
use Rattle.plain.specs.Plain.{plain_answer}
use Rattle.promises.specs.Calls.{Call, checking, opening, advancing, reporting, listing_it, serving, informing, showing, reporting_all, matching, Answer, checked, opened, advanced, reported, listed, looked, shown, reported_all, matched, Store}
use Rattle.promises.specs.Refusals.{Line, First, FirstNumber, check_lines, open_lines, advance_lines, report_lines, listing_lines, lookup_lines, show_lines, reports_lines, plain_lines, AdvanceUnchanged, ListingUnchanged, LookupEmpty, ShowEmpty, BulkUnchanged, PlainEmpty}

-- the lines of the table that are met in a call, in their order
abbrev pub lines : Call → Store → List Line
lines (checking image) st = check_lines image
lines (opening k case) st = open_lines case
lines (advancing k image r) st = advance_lines (st k) image r
lines (reporting k n) st = report_lines (st k) n
lines (listing_it g image r places) st = listing_lines g image r places
lines (serving image i) st = lookup_lines image i
lines (informing image i) st = lookup_lines image i
lines (showing image r k) st = show_lines image r k
lines (reporting_all ks ns before) st = reports_lines (map st ks) ns before
lines (matching p t) st = plain_lines p t

-- "one fixed refusal number for each fault": that of the first line that holds, and its place where the call answers one
abbrev pub Refuses : List Line → Answer → Type 0
Refuses ls (checked a) = First ls a.refusal a.place
Refuses ls (opened a) = FirstNumber ls a.refusal
Refuses ls (advanced a) = First ls a.refusal a.place
Refuses ls (reported a) = FirstNumber ls a.refusal
Refuses ls (listed l) = First ls l.answer.refusal l.answer.place
Refuses ls (looked a) = First ls a.refusal a.place
Refuses ls (shown a) = First ls a.refusal a.place
Refuses ls (reported_all a) = FirstNumber ls a.refusal
Refuses ls (matched a) = FirstNumber ls a.refusal

-- the number that an answer gives; 0 is none
abbrev pub number : Answer → ℕ
number (checked a) = a.refusal
number (opened a) = a.refusal
number (advanced a) = a.refusal
number (reported a) = a.refusal
number (listed l) = l.answer.refusal
number (looked a) = a.refusal
number (shown a) = a.refusal
number (reported_all a) = a.refusal
number (matched a) = a.refusal

-- "on a refusal the session comes back as it went in, counts are zero, no place of an output list is written"; "A refused opening gives a
-- finished session of case 0"
abbrev pub Untouched : Call → Store → Type 0
Untouched (checking image) st = Unit {0}
Untouched (opening k case) st = (open_session case).session ≡ unopened
Untouched (advancing k image r) st = AdvanceUnchanged (st k) (advance (st k) image r)
Untouched (reporting k n) st = (report_session (st k) n).session ≡ st k
Untouched (listing_it g image r places) st = ListingUnchanged places (listing g image r places)
Untouched (serving image i) st = LookupEmpty (server image i)
Untouched (informing image i) st = LookupEmpty (information image i)
Untouched (showing image r k) st = ShowEmpty (show image r k)
Untouched (reporting_all ks ns before) st = BulkUnchanged (map st ks) before (report_all (map st ks) ns before)
Untouched (matching p t) st = PlainEmpty (plain_answer p t)

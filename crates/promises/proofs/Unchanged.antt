-- Demand 1: whatever the refusal, nothing is changed, counted or written.
use mathlib.Core.Bool.{Bool, true, false, not, ◌&&◌}
use mathlib.Core.Option.{Option, none, some}
use mathlib.Core.Path.{◌≡◌, refl}
use Prim.Native.Nat.{ℕ}
use mathlib.Core.List.{List}
use lib.ListN.{length, get_elem?}
use lib.Dec.{leb, ltb, eqb}
use Rattle.octets.specs.Lists.{pick, same, total}
use Rattle.octets.proofs.Tests.{either}
use Rattle.profile.specs.Image.{Stored, Criterion, Profile, Judged, accepted, refused, Row}
use Rattle.profile.specs.Judging.{judge}
use Rattle.lookups.specs.Lookups.{the_part, look_at, look_judged, its_server, its_information, server, information}
use Rattle.request.specs.Request.{Request, read_request}
use Rattle.session.specs.Session.{possible, ready, waiting, fresh, unopened, open_session, stays, goes, released, ended, after_report, report_session}
use Rattle.session.specs.declared.Session.{Session}
use Rattle.session.specs.declared.Opened.{Opened}
use Rattle.session.specs.declared.Reported.{Reported}
use Rattle.rows.specs.Rows.{REGISTER}
use Rattle.rows.specs.declared.Given.{Given}
use Rattle.fitting.specs.Fitting.{criterion_fits, criterion_trials}
use Rattle.order.specs.Order.{Numbered, least, candidates}
use Rattle.route.specs.Advance.{refuse, answer, walk, walk_with, in_session, advance_read, advance_judged, advance}
use Rattle.listing.specs.Listing.{Listing, listed, refuse_list, filled, fill, fill_with, list_read, list_judged, listing}
use Rattle.route.specs.declared.Advanced.{Advanced}
use Rattle.show.specs.Show.{show_row, show_read, show_judged, show}
use Rattle.basic.specs.Pattern.{Pattern, meets}
use Rattle.basic.specs.Reading.{read_pattern}
use Rattle.place.specs.Place.{place_of}
use Rattle.place.specs.declared.Place.{Place}
use Rattle.plain.specs.Plain as plainly
use Rattle.plain.specs.Plain.{plain_answer}
use Rattle.promises.specs.Refusals.{AdvanceUnchanged, ListingUnchanged, LookupEmpty, ShowEmpty, PlainEmpty}

-- ---- opening: "a finished session of case 0"

pub open_unopened : (case : ℕ) → ((open_session case).refusal ≡ 0 → ⊥) → (open_session case).session ≡ unopened
unfolding open_session
open_unopened case =
    either (λ (o : Opened). (o.refusal ≡ 0 → ⊥) → o.session ≡ unopened) (leb case 3)
    (record { refusal = 0; session = fresh case }) (record { refusal = 8; session = unopened })
    (λ h. absurd (h refl)) (λ h. refl)

-- ---- advance

abbrev Quiet : Session → Advanced → Type 0
Quiet x a = (a.refusal ≡ 0 → ⊥) → AdvanceUnchanged x a

refused_quiet : (x : Session) (n place : ℕ) → Quiet x (refuse x n place)
refused_quiet x n place h = record { session = refl; outcome = refl; number = refl; priority = refl; examined = refl; trials = refl }

answer_quiet : (x : Session) (o : Option Numbered) (e t : ℕ) → Quiet x (answer x o e t)
answer_quiet x none e t h = absurd (h refl)
answer_quiet x (some n) e t h = absurd (h refl)

walk_quiet : (x : Session) (p : Profile) (q : Request) → Quiet x (walk x p q)
unfolding walk walk_with
walk_quiet x p q = answer_quiet x (least (λ n. criterion_fits q (in_session x) p n.criterion) (candidates x p.criteria)) _ _

read_quiet : (x : Session) (p : Profile) (o : Option Request) → Quiet x (advance_read x p o)
read_quiet x p none = refused_quiet x 7 0
read_quiet x p (some q) = either (Quiet x) (same q.method REGISTER) (refuse x 11 0) (walk x p q) (refused_quiet x 11 0) (walk_quiet x p q)

judged_quiet : (x : Session) (j : Judged) (r : List ℕ) → Quiet x (advance_judged x j r)
judged_quiet x (accepted p) r = read_quiet x p (read_request r)
judged_quiet x (refused n place) r = refused_quiet x n place

pub advance_unchanged : (x : Session) (image r : List ℕ) → ((advance x image r).refusal ≡ 0 → ⊥) → AdvanceUnchanged x (advance x image r)
unfolding advance
advance_unchanged x image r =
    either (Quiet x) (possible x && eqb x.state ready) (advance_judged x (judge image) r) (refuse x 10 0)
    (judged_quiet x (judge image) r) (refused_quiet x 10 0)

-- ---- report

abbrev Kept : Session → Reported → Type 0
Kept x a = (a.refusal ≡ 0 → ⊥) → a.session ≡ x

goes_kept : (x : Session) (s : ℕ) → Kept x (goes x s)
goes_kept x s h = absurd (h refl)

after_kept : (n : ℕ) (x : Session) → Kept x (after_report n x)
after_kept n x =
    let two : Reported = pick (eqb n 2) (goes x ended) (stays x 8) in
    let one : Reported = pick (eqb n 1) (goes x (pick (eqb x.handling 0) ready released)) two in
    either (Kept x) (eqb n 0) (goes x ready) one (goes_kept x ready)
    (either (Kept x) (eqb n 1) (goes x (pick (eqb x.handling 0) ready released)) two (goes_kept x (pick (eqb x.handling 0) ready released))
    (either (Kept x) (eqb n 2) (goes x ended) (stays x 8) (goes_kept x ended) (λ h. refl)))

pub report_unchanged : (x : Session) (n : ℕ) → ((report_session x n).refusal ≡ 0 → ⊥) → (report_session x n).session ≡ x
unfolding report_session
report_unchanged x n = either (Kept x) (possible x && eqb x.state waiting) (after_report n x) (stays x 10) (after_kept n x) (λ h. refl)

-- ---- listing

abbrev Unwritten : List ℕ → Listing → Type 0
Unwritten before l = (l.answer.refusal ≡ 0 → ⊥) → ListingUnchanged before l

refused_unwritten : (before : List ℕ) (n place : ℕ) → Unwritten before (refuse_list before n place)
refused_unwritten before n place h = record { places = refl; count = refl; examined = refl; trials = refl }

fill_unwritten : (q : Request) (g : Given) (p : Profile) (before : List ℕ) → Unwritten before (fill q g p before)
unfolding fill fill_with
fill_unwritten q g p before =
    let l : List ℕ = listed (criterion_fits q g p) p.criteria in
    either (Unwritten before) (leb (length l) (length before)) (filled l (length p.criteria) (total (criterion_trials q g p) p.criteria) before) (refuse_list before 12 0)
    (λ h. absurd (h refl)) (refused_unwritten before 12 0)

list_read_unwritten : (g : Given) (p : Profile) (o : Option Request) (before : List ℕ) → Unwritten before (list_read g p o before)
list_read_unwritten g p none before = refused_unwritten before 7 0
list_read_unwritten g p (some q) before =
    let last : Listing = fill q g p before in
    let nine : Listing = pick (not (leb g.registration 2)) (refuse_list before 9 0) last in
    let eight : Listing = pick (not (leb g.case 3)) (refuse_list before 8 0) nine in
    either (Unwritten before) (not (same q.method REGISTER)) (refuse_list before 11 0) eight (refused_unwritten before 11 0)
    (either (Unwritten before) (not (leb g.case 3)) (refuse_list before 8 0) nine (refused_unwritten before 8 0)
    (either (Unwritten before) (not (leb g.registration 2)) (refuse_list before 9 0) last (refused_unwritten before 9 0) (fill_unwritten q g p before)))

pub listing_unchanged : (g : Given) (image r before : List ℕ) → ((listing g image r before).answer.refusal ≡ 0 → ⊥) → ListingUnchanged before (listing g image r before)
unfolding listing
listing_unchanged g image r before = go (judge image)
  where
    go : (j : Judged) → Unwritten before (list_judged g j r before)
    go (accepted p) = list_read_unwritten g p (read_request r) before
    go (refused n place) = refused_unwritten before n place

-- ---- lookups

looked_empty : (part : Criterion → Option Stored) (j : Judged) (i : ℕ) → ((look_judged part j i).refusal ≡ 0 → ⊥) → LookupEmpty (look_judged part j i)
looked_empty part (refused n place) i = λ h. record { present = refl; start = refl; size = refl }
looked_empty part (accepted p) i = go (get_elem? p.criteria i)
  where
    found : (o : Option Stored) → ((the_part o).refusal ≡ 0 → ⊥) → LookupEmpty (the_part o)
    found none h = absurd (h refl)
    found (some x) h = absurd (h refl)

    go : (o : Option Criterion) → ((look_at part o).refusal ≡ 0 → ⊥) → LookupEmpty (look_at part o)
    go none h = record { present = refl; start = refl; size = refl }
    go (some c) h = found (part c) h

pub server_empty : (image : List ℕ) (i : ℕ) → ((server image i).refusal ≡ 0 → ⊥) → LookupEmpty (server image i)
unfolding server
server_empty image i = looked_empty its_server (judge image) i

pub information_empty : (image : List ℕ) (i : ℕ) → ((information image i).refusal ≡ 0 → ⊥) → LookupEmpty (information image i)
unfolding information
information_empty image i = looked_empty its_information (judge image) i

-- ---- show

show_empty_by : (j : Judged) (r : List ℕ) (k : ℕ) → ((show_judged j r k).refusal ≡ 0 → ⊥) → ShowEmpty (show_judged j r k)
show_empty_by (refused n place) r k = λ h. record { found = refl; field = refl; value = refl; start = refl; size = refl }
show_empty_by (accepted p) r k = by (read_request r)
  where
    go : (q : Request) (o : Option Row) → ((show_row q o).refusal ≡ 0 → ⊥) → ShowEmpty (show_row q o)
    go q none h = record { found = refl; field = refl; value = refl; start = refl; size = refl }
    go q (some x) h = absurd (h refl)

    by : (o : Option Request) → ((show_read p o k).refusal ≡ 0 → ⊥) → ShowEmpty (show_read p o k)
    by none h = record { found = refl; field = refl; value = refl; start = refl; size = refl }
    by (some q) h = go q (get_elem? p.rows k) h

pub show_empty : (image r : List ℕ) (k : ℕ) → ((show image r k).refusal ≡ 0 → ⊥) → ShowEmpty (show image r k)
unfolding show
show_empty image r k = show_empty_by (judge image) r k

-- ---- the plain matcher

plain_empty_by : (o : Option Pattern) (t : List ℕ) → ((plainly.by_pattern o t).refusal ≡ 0 → ⊥) → PlainEmpty (plainly.by_pattern o t)
plain_empty_by none t = λ h. record { found = refl; start = refl; size = refl }
plain_empty_by (some p) t = go (place_of meets p t) (ltb 256 (length t))
  where
    go : (r : Place) (b : Bool) → ((pick b (plainly.refused 17) (plainly.answered r)).refusal ≡ 0 → ⊥) → PlainEmpty (pick b (plainly.refused 17) (plainly.answered r))
    go r true h = record { found = refl; start = refl; size = refl }
    go r false h = absurd (h refl)

pub plain_empty : (s t : List ℕ) → ((plain_answer s t).refusal ≡ 0 → ⊥) → PlainEmpty (plain_answer s t)
unfolding plain_answer
plain_empty s t = plain_empty_by (read_pattern s) t

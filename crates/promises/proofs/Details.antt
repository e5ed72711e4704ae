-- The page behind `Main`: what details its statements, call by call.
use mathlib.Core.Bool.{true}
use mathlib.Core.Path.{◌≡◌, refl, sym, ap, ◌∙◌}
use mathlib.Core.Logic.{◌↔◌}
use Prim.Native.Nat.{ℕ, ◌-◌, ◌*◌, ◌≤◌, ◌<◌, ◌^◌}
use mathlib.Core.List.{List, Memᴰ, [], ◌∷◌}
use lib.ListN.{length, take, get_elem?}
use mathlib.Core.Option.{none, some, Option}
use Rattle.basic.specs.Pattern.{Pattern, meets}
use Rattle.basic.specs.Reading.{read_pattern}
use Rattle.pattern.specs.Matching.{written_matches, name_matches}
use Rattle.profile.specs.Image.{Stored, Criterion, Profile, accepted, refused, header, description}
use Rattle.profile.specs.Judging.{judge}
use Rattle.profile.specs.Reader as reader
use Rattle.profile.proofs.Placed.{placed_low, one_long, long_one, two_at_end, three_exactly, six_earlier}
use Rattle.lookups.specs.Lookups.{check, server, information, no_part, the_part, part_of, Checks, Serves, Informs}
use Rattle.lookups.specs.declared.Checked.{Checked}
use Rattle.lookups.specs.declared.Lookup.{Lookup}
use Rattle.lookups.proofs.Parts.{information_part, information_absent}
use Rattle.request.specs.Request.{Request, Field, request_lines}
use Rattle.session.specs.Session.{fresh, unopened, open_session, with_state, report_session, Opens, Reports}
use Rattle.session.specs.declared.Session.{Session}
use Rattle.session.specs.declared.Opened.{Opened}
use Rattle.session.specs.declared.Reported.{Reported}
use Rattle.contents.specs.Body.{Line as SessionLine}
use Rattle.rows.specs.Rows.{test_fits}
use Rattle.rows.specs.declared.Given.{Given}
use Rattle.show.specs.Show.{test_shown, show, Shows, PartIn}
use Rattle.show.specs.declared.Answer.{Answer}
use Rattle.show.proofs.Saying as saying
use Rattle.place.specs.Place.{place_of}
use Rattle.place.specs.declared.Place.{Place}
use Rattle.plain.specs.Plain.{plain_answer, answered, Plains}
use Rattle.plain.specs.declared.Answer as plain
use Rattle.plain.proofs.Agreement as agreement
use Rattle.bulk.specs.Bulk.{report_all, ReportsTo}
use Rattle.bulk.proofs.Single as single
use Rattle.order.specs.Order.{Numbered, priority}
use Rattle.route.specs.Advance.{advance, Advances}
use Rattle.route.specs.declared.Advanced.{Advanced}
use Rattle.listing.specs.Listing.{Listing, listing, Lists}
use Rattle.listing.specs.declared.Listed.{Listed}
use Rattle.route.proofs.Trials as trials
use Rattle.listing.proofs.Trials as list_trials
use Rattle.promises.specs.Agreement.{MayDiffer, agreeing}
use Rattle.promises.specs.Common as common
use Rattle.promises.specs.Passed.{Step, Walk, Fits, Asks, NoneAsked, Turn, PassedAt, WayPast}
use Rattle.promises.specs.Refusals.{Line, First, FirstNumber, check_lines, open_lines, advance_lines, listing_lines, report_lines, lookup_lines, AdvanceUnchanged, ListingUnchanged, LookupEmpty, show_lines, ShowEmpty, reports_lines, BulkUnchanged, plain_lines, PlainEmpty}
use Rattle.promises.specs.Walks.{Candidate, Answers, Move, forwards}
use Rattle.promises.proofs.Alike as alike
use Rattle.promises.proofs.AlikeShown.{show_same}
use Rattle.promises.proofs.Asked as asked
use Rattle.promises.proofs.Differing.{unasked_agree, short_agree, asked_differ, type_differ}
use Rattle.promises.proofs.OneAnswer as one
use Rattle.promises.proofs.Sessions.{opens_fresh}
use Rattle.promises.proofs.AtMost.{at_most}
use Rattle.promises.proofs.InBulk as in_bulk
use Rattle.promises.proofs.Next.{route_iff}
use Rattle.promises.proofs.PassedBy as passed_by
use Rattle.promises.proofs.Refused.{first_one, check_refusal, open_refusal, advance_refusal, listing_refusal, report_refusal, server_refusal, information_refusal, show_refusal, plain_refusal}
use Rattle.promises.proofs.Unchanged as unchanged
use Rattle.promises.specs.Pairs.{invite, under, line_m, typed}

-- ---- "when exactly does a call not pass the recorder"

-- the same over several images: of each step's own, none of this priority was asked
pub none_asked_exactly : (case : ℕ) (w : List Step) → Walk (open_session case).session w → (k : ℕ) → NoneAsked w k ↔ WayPast case w k
none_asked_exactly = passed_by.none_asked_exactly

-- "when a server's turn comes, the call goes to it exactly if its criterion fits the request as it is at that moment"
pub asked_exactly : (s : Step) (n : Numbered) → Asks s n ↔ (Turn s (priority n) × Fits s n)
asked_exactly s n = asked.asked_exactly

-- and if it does not, it is for one of these reasons
pub passed_at_exactly : (s : Step) (n : Numbered) → (Asks s n → ⊥) ↔ PassedAt s n
passed_at_exactly s n = asked.passed_at_exactly

-- it was asked once: two steps of a walk that ask servers of one priority are the same step
pub asked_once : {x : Session} {w : List Step} → Walk x w → (s t : Step) (m n : Numbered) → Memᴰ s w → Memᴰ t w
    → Asks s m → Asks t n → priority m ≡ priority n → s ≡ t
asked_once = passed_by.asked_once

-- ---- demand 1: the refusals of each call

-- "one fixed refusal number for each fault": that of the first line of the table that holds
pub advance_refuses : (x : Session) (image r : List ℕ) → First (advance_lines x image r) (advance x image r).refusal (advance x image r).place
advance_refuses = advance_refusal

pub listing_refuses : (g : Given) (image r before : List ℕ) → First (listing_lines g image r before) (listing g image r before).answer.refusal (listing g image r before).answer.place
listing_refuses = listing_refusal

pub check_refuses : (image : List ℕ) → First (check_lines image) (check image).refusal (check image).place
check_refuses = check_refusal

pub open_refuses : (case : ℕ) → FirstNumber (open_lines case) (open_session case).refusal
open_refuses = open_refusal

pub server_refuses : (image : List ℕ) (i : ℕ) → First (lookup_lines image i) (server image i).refusal (server image i).place
server_refuses = server_refusal

pub information_refuses : (image : List ℕ) (i : ℕ) → First (lookup_lines image i) (information image i).refusal (information image i).place
information_refuses = information_refusal

pub report_refuses : (x : Session) (n : ℕ) → FirstNumber (report_lines x n) (report_session x n).refusal
report_refuses = report_refusal

pub show_refuses : (image r : List ℕ) (k : ℕ) → First (show_lines image r k) (show image r k).refusal (show image r k).place
show_refuses = show_refusal

pub reports_refuses : (xs : List Session) (ns before : List ℕ) → FirstNumber (reports_lines xs ns before) (report_all xs ns before).refusal
reports_refuses = in_bulk.reports_refusal

pub plain_refuses : (s t : List ℕ) → FirstNumber (plain_lines s t) (plain_answer s t).refusal
plain_refuses = plain_refusal

-- and no other: of one list of lines there is one such number and place
pub one_refusal : {ls : List Line} {m n p q : ℕ} → First ls m p → First ls n q → (m ≡ n) × (p ≡ q)
one_refusal = first_one

-- an image fault is one of the numbers 1 to 6; which of them comes first is the reading order of profile `Judging.profile`
pub image_numbers : (image : List ℕ) (n place : ℕ) → judge image ≡ refused n place → (place ≤ 32768) × (0 < n) × (n ≤ 6)
image_numbers image n place e = placed_low image n place e

-- number 1 exactly if the image is longer than 32,768 bytes, and then at place 0
pub number_1_exactly : (image : List ℕ) (place : ℕ) → (judge image ≡ refused 1 place) ↔ ((32768 < length image) × (place ≡ 0))
number_1_exactly image place =
    (λ e. one_long image 1 place e refl, λ h. long_one image h.0 ∙ ap (λ (p : ℕ). refused 1 p) (sym h.1))

-- "Number 2 is placed at the image's length"
pub number_2_at_the_end : (image : List ℕ) (place : ℕ) → judge image ≡ refused 2 place → place ≡ length image
number_2_at_the_end image place e = two_at_end image 2 place e refl

-- number 3 at a place exactly if the bytes before it are an image that is accepted, and more follow, within the limit
pub number_3_exactly : (image : List ℕ) (place : ℕ)
    → (judge image ≡ refused 3 place) ↔ ((place < length image) × (length image ≤ 32768) × ((p : Profile) × (judge (take place image) ≡ accepted p)))
number_3_exactly = three_exactly

-- "Number 6 is placed at the first criterion whose number stands earlier too": the four bytes there are those of one k criteria before it
pub number_6_stands_earlier : (image : List ℕ) (place : ℕ) → judge image ≡ refused 6 place
    → (k : ℕ) × (0 < k) × (15 * k ≤ place) × (reader.number 4 image (place - 15 * k) 0 ≡ reader.number 4 image place 0)
number_6_stands_earlier image place e = six_earlier image 6 place e refl

-- ---- demand 1: what a refusal leaves

-- "on a refusal the session comes back as it went in, counts are zero, no place of an output list is written"
pub advance_unchanged : (x : Session) (image r : List ℕ) → ((advance x image r).refusal ≡ 0 → ⊥) → AdvanceUnchanged x (advance x image r)
advance_unchanged = unchanged.advance_unchanged

pub listing_unchanged : (g : Given) (image r before : List ℕ) → ((listing g image r before).answer.refusal ≡ 0 → ⊥) → ListingUnchanged before (listing g image r before)
listing_unchanged = unchanged.listing_unchanged

pub report_unchanged : (x : Session) (n : ℕ) → ((report_session x n).refusal ≡ 0 → ⊥) → (report_session x n).session ≡ x
report_unchanged = unchanged.report_unchanged

-- "A refused opening gives a finished session of case 0"
pub open_unopened : (case : ℕ) → ((open_session case).refusal ≡ 0 → ⊥) → (open_session case).session ≡ unopened
open_unopened = unchanged.open_unopened

-- "Refused or absent gives an empty part"
pub server_empty : (image : List ℕ) (i : ℕ) → ((server image i).refusal ≡ 0 → ⊥) → LookupEmpty (server image i)
server_empty = unchanged.server_empty

pub information_empty : (image : List ℕ) (i : ℕ) → ((information image i).refusal ≡ 0 → ⊥) → LookupEmpty (information image i)
information_empty = unchanged.information_empty

pub show_empty : (image r : List ℕ) (k : ℕ) → ((show image r k).refusal ≡ 0 → ⊥) → ShowEmpty (show image r k)
show_empty = unchanged.show_empty

pub reports_unchanged : (xs : List Session) (ns before : List ℕ) → ((report_all xs ns before).refusal ≡ 0 → ⊥) → BulkUnchanged xs before (report_all xs ns before)
reports_unchanged = in_bulk.reports_unchanged

pub plain_empty : (s t : List ℕ) → ((plain_answer s t).refusal ≡ 0 → ⊥) → PlainEmpty (plain_answer s t)
plain_empty = unchanged.plain_empty

pub absent_is_empty : (image : List ℕ) (p : Profile) → judge image ≡ accepted p → (i : ℕ) (c : Criterion) → get_elem? p.criteria i ≡ some c
    → c.info ≡ none → information image i ≡ no_part 0 0
absent_is_empty = information_absent

-- ---- demand 2

-- "Opened with a case; ready, nothing forwarded"
pub opens_ready : (case : ℕ) → case ≤ 3 → open_session case ≡ record { refusal = 0; session = fresh case }
opens_ready = opens_fresh

-- normal routing: exactly if no criterion above the last fits
pub route_iff_none_fits : (x : Session) (image r : List ℕ) (p : Profile) (q : Request) → Answers x image r p q
    → ((advance x image r).outcome ≡ 2) ↔ ((n : Numbered) → Candidate x p q n → ⊥)
route_iff_none_fits = route_iff

-- "over one image of n criteria a session forwards at most n times"
pub forwards_at_most : (image : List ℕ) (p : Profile) → judge image ≡ accepted p → (ms : List Move) (x : Session) → forwards image ms x ≤ length p.criteria
forwards_at_most = at_most

-- trials stay below 2^32, whatever is lent
pub advance_trials : (x : Session) (image r : List ℕ) → (advance x image r).trials < 2 ^ 32
advance_trials = trials.advance_below

pub listing_trials : (g : Given) (image r before : List ℕ) → (listing g image r before).answer.trials < 2 ^ 32
listing_trials = list_trials.listing_below

-- and so is its information, which is then told to be present, also where it is empty
pub information_is_part : (image : List ℕ) (p : Profile) → judge image ≡ accepted p → (i : ℕ) (c : Criterion) → get_elem? p.criteria i ≡ some c
    → (x : Stored) → c.info ≡ some x → (information image i ≡ the_part (some x)) × (part_of image (information image i) ≡ x.bytes)
information_is_part = information_part

-- ---- what a show tells (change request 2)

-- something is shown exactly if the row matches, before its negation
pub shown_iff_matched : (q : Request) (g : Given) (h : Pattern) (c : Option Pattern)
    → ((test_shown q (header h c)).found ≡ test_fits q g (header h c)) × ((test_shown q (description h c)).found ≡ test_fits q g (description h c))
shown_iff_matched = saying.shown_iff_matched

-- the part at that place of that value fits: none that fits begins earlier, and none from there is longer
pub shown_field_fits : (q : Request) (h c : Pattern) → (test_shown q (header h (some c))).found ≡ true
    → PartIn (λ (f : Field). name_matches h f.name) (λ f. f.values) c q.fields (test_shown q (header h (some c)))
shown_field_fits = saying.header_part

pub shown_line_fits : (q : Request) (h c : Pattern) → (test_shown q (description h (some c))).found ≡ true
    → PartIn (λ (l : SessionLine). written_matches h l.type) (λ l. l.value ∷ []) c (request_lines q) (test_shown q (description h (some c)))
shown_line_fits = saying.line_part

-- ---- the plain matcher (change request 7)

-- "It agrees with the main one on every such pair, places of CR 2 included": what each one's contract says of its answer
pub matchers_agree : (s t : List ℕ) (p : Pattern) → read_pattern s ≡ some p → length t ≤ 256 → (own : plain.Answer) → Plains s t own
    → (main : Place) → main ≡ place_of meets p t → own ≡ answered main
matchers_agree = agreement.matchers_agree

-- it finds a part exactly where the pattern matches, as trials have it
pub plain_finds_matches : (s t : List ℕ) (p : Pattern) → read_pattern s ≡ some p → length t ≤ 256 → (own : plain.Answer) → Plains s t own
    → own.found ≡ written_matches p t
plain_finds_matches = agreement.plain_finds_matches

-- ---- reports in bulk (change request 8)

-- "Each session ends as the single call leaves it ..; the numbers are the single call's": of the session and the report at place i
pub bulk_is_single : (xs : List Session) (ns before : List ℕ) → (report_all xs ns before).refusal ≡ 0
    → (i : ℕ) (x : Session) (n : ℕ) → get_elem? xs i ≡ some x → get_elem? ns i ≡ some n
    → (get_elem? (report_all xs ns before).sessions i ≡ some (report_session x n).session)
    × (get_elem? (report_all xs ns before).refusals i ≡ some (report_session x n).refusal)
bulk_is_single = single.as_single

-- and there are no other places: each list is as long as it was
pub bulk_keeps_lengths : (xs : List Session) (ns before : List ℕ)
    → (length (report_all xs ns before).sessions ≡ length xs) × (length (report_all xs ns before).refusals ≡ length before)
bulk_keeps_lengths = single.as_long

-- "refused ones unchanged"
pub bulk_refused_unchanged : (xs : List Session) (ns before : List ℕ) → (report_all xs ns before).refusal ≡ 0
    → (i : ℕ) (x : Session) (n : ℕ) → get_elem? xs i ≡ some x → get_elem? ns i ≡ some n → ((report_session x n).refusal ≡ 0 → ⊥)
    → get_elem? (report_all xs ns before).sessions i ≡ some x
bulk_refused_unchanged = in_bulk.refused_stays

-- of any session only the state may change
pub report_only_state : (x : Session) (n : ℕ) → (report_session x n).session ≡ with_state x (report_session x n).session.state
report_only_state = single.only_state

-- order does not matter: a session with its report gets the same answer at any place of any list, whatever else stands there
pub bulk_order_free : (xs : List Session) (ns before : List ℕ) → (report_all xs ns before).refusal ≡ 0
    → (ys : List Session) (ms before' : List ℕ) → (report_all ys ms before').refusal ≡ 0
    → (i j : ℕ) (x : Session) (n : ℕ) → get_elem? xs i ≡ some x → get_elem? ns i ≡ some n → get_elem? ys j ≡ some x → get_elem? ms j ≡ some n
    → (get_elem? (report_all xs ns before).sessions i ≡ get_elem? (report_all ys ms before').sessions j)
    × (get_elem? (report_all xs ns before).refusals i ≡ get_elem? (report_all ys ms before').refusals j)
bulk_order_free = in_bulk.order_free

-- ---- demand 3, call by call

pub advance_reads_no_more : (image a b : List ℕ) → MayDiffer image a b → (x : Session) → advance x image a ≡ advance x image b
advance_reads_no_more = alike.advance_same

pub listing_reads_no_more : (image a b : List ℕ) → MayDiffer image a b → (g : Given) (before : List ℕ) → listing g image a before ≡ listing g image b before
listing_reads_no_more = alike.listing_same

pub show_reads_no_more : (image a b : List ℕ) → MayDiffer image a b → (k : ℕ) → show image a k ≡ show image b k
show_reads_no_more = show_same

-- two requests that differ in a value and a body of which no row asks: they may differ, and get one answer
pub unasked_may_differ : MayDiffer (common.from_joe 0) (invite "joe" "1" "m=a") (invite "joe" "2" "m=b")
    × ((x : Session) → advance x (common.from_joe 0) (invite "joe" "1" "m=a") ≡ advance x (common.from_joe 0) (invite "joe" "2" "m=b"))
unasked_may_differ = (agreeing unasked_agree, advance_reads_no_more _ _ _ (agreeing unasked_agree))

-- "Demand 3 compares names after this step" (change request 1): `f` in one and `From` in the other are the same name
pub short_may_differ : MayDiffer (common.from_joe 0) (under "f") (under "From")
    × ((x : Session) → advance x (common.from_joe 0) (under "f") ≡ advance x (common.from_joe 0) (under "From"))
short_may_differ = (agreeing short_agree, advance_reads_no_more _ _ _ (agreeing short_agree))

-- two that differ in a value of which one asks, and do not
pub asked_tells : ((advance (fresh 0) (common.from_joe 0) (invite "joe" "1" "m=a")).outcome ≡ 1) × ((advance (fresh 0) (common.from_joe 0) (invite "ann" "1" "m=a")).outcome ≡ 2)
asked_tells = asked_differ

-- and two that differ in the Content-Type value, where a row asks for a line of the body (change request 5)
pub type_tells : ((advance (fresh 0) line_m (typed "application/sdp")).outcome ≡ 1) × ((advance (fresh 0) line_m (typed "text/plain")).outcome ≡ 2)
type_tells = type_differ

-- ---- one answer: what the contracts cite leaves no other

pub one_check : {image : List ℕ} {a b : Checked} → Checks image a → Checks image b → a ≡ b
one_check = one.one_check

pub one_open : {case : ℕ} {a b : Opened} → Opens case a → Opens case b → a ≡ b
one_open = one.one_open

pub one_report : {x : Session} {n : ℕ} {a b : Reported} → Reports x n a → Reports x n b → a ≡ b
one_report = one.one_report

pub one_reports : {xs ys zs : List Session} {ns before rs ts : List ℕ} {n m : ℕ} → ReportsTo xs ns before n ys rs → ReportsTo xs ns before m zs ts
    → (n ≡ m) × (ys ≡ zs) × (rs ≡ ts)
one_reports = single.one_answer

pub one_plain : {s t : List ℕ} {a b : plain.Answer} → Plains s t a → Plains s t b → a ≡ b
one_plain = one.one_plain

pub one_server : {image : List ℕ} {i : ℕ} {a b : Lookup} → Serves image i a → Serves image i b → a ≡ b
one_server = one.one_server

pub one_information : {image : List ℕ} {i : ℕ} {a b : Lookup} → Informs image i a → Informs image i b → a ≡ b
one_information = one.one_information

-- for an advance, a listing and a show also where the request is another that may differ
pub one_advance : {x : Session} {image r s : List ℕ} {a b : Advanced} → MayDiffer image r s → Advances x image r a → Advances x image s b → a ≡ b
one_advance {x} {image} {r} {s} d h k = h.answer ∙ advance_reads_no_more image r s d x ∙ sym k.answer

pub one_listing : {g : Given} {image r s before after after' : List ℕ} {a b : Listed} → MayDiffer image r s → Lists g image r before a after → Lists g image s before b after'
    → (a ≡ b) × (after ≡ after')
one_listing {g} {image} {r} {s} {before} d h k =
    let same = listing_reads_no_more image r s d g before in
    (h.answer ∙ ap (λ (l : Listing). l.answer) same ∙ sym k.answer, h.places ∙ ap (λ (l : Listing). l.places) same ∙ sym k.places)

pub one_show : {image r s : List ℕ} {k : ℕ} {a b : Answer} → MayDiffer image r s → Shows image r k a → Shows image s k b → a ≡ b
one_show {image} {r} {s} {k} d h l = h.answer ∙ show_reads_no_more image r s d k ∙ sym l.answer

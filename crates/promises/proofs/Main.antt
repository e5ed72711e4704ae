-- The page to open first: the regulator's question (README, "When"), then the three demands (README, "What is proved"), in fifteen
-- statements whose proofs cite where the work is; what details them stands on the page behind this one, `Details`. They speak of the
-- definitions; `the_code_meets` says that the code's answers are these.
use mathlib.Core.Bool.{Bool}
use mathlib.Core.Path.{◌≡◌}
use mathlib.Core.Logic.{◌↔◌}
use Prim.Native.Nat.{ℕ}
use mathlib.Core.List.{List, Memᴰ}
use lib.ListN.{get_elem?}
use lib.Dec.{T, eqb}
use mathlib.Core.Option.{some}
use Rattle.octets.specs.Lists.{pick, every}
use Rattle.basic.specs.Pattern.{Atom, Pattern, Matches}
use Rattle.pattern.specs.Matching.{matches}
use Rattle.pattern.proofs.Meaning.{matches_iff}
use Rattle.profile.specs.Image.{Criterion, Profile, accepted}
use Rattle.profile.specs.Judging.{judge}
use Rattle.lookups.specs.Lookups.{server, the_part, part_of}
use Rattle.lookups.proofs.Parts.{server_part}
use Rattle.request.specs.Request.{Request}
use Rattle.session.specs.Session.{possible, ready, waiting, released, ended, open_session, goes, report_session}
use Rattle.session.specs.declared.Session.{Session}
use Rattle.rows.specs.declared.Given.{Given}
use Rattle.order.specs.Order.{Numbered, numbered, priority}
use Rattle.route.specs.Advance.{advance}
use Rattle.listing.specs.Listing.{listing}
use Rattle.promises.specs.Calls.{Call, Store, step, run, AllRelated}
use Rattle.promises.specs.Common as common
use Rattle.promises.specs.Marked as marked
use Rattle.promises.specs.Passed.{Step, Walk, Over, Asks, NeverAsked, Became, WayPast}
use Rattle.promises.specs.Reached.{Reached}
use Rattle.promises.specs.Walks.{Answers, Answered, Listable, ListsAll}
use Rattle.promises.proofs.Asked as asked
use Rattle.promises.proofs.Sessions.{report_answers}
use Rattle.promises.proofs.Listings.{lists_all}
use Rattle.promises.proofs.Next.{advance_answers}
use Rattle.promises.proofs.PassedBy as passed_by
use Rattle.promises.proofs.Reach as reach
use Rattle.promises.proofs.Sequences.{run_same}
use Rattle.promises.specs.EachCall.{lines, Refuses, number, Untouched}
use Rattle.promises.specs.Libraries.{RuledOut}
use Rattle.promises.proofs.EveryCall.{each_refuses, refused_untouched}
use Rattle.promises.proofs.RuledOut.{ruled_out}
use Rattle.ifc.proofs.ifc_check.Statement as ifc_check
use Rattle.ifc.proofs.ifc_open.Statement as ifc_open
use Rattle.ifc.proofs.ifc_advance.Statement as ifc_advance
use Rattle.ifc.proofs.ifc_report.Statement as ifc_report
use Rattle.ifc.proofs.ifc_list.Statement as ifc_list
use Rattle.ifc.proofs.ifc_server.Statement as ifc_server
use Rattle.ifc.proofs.ifc_information.Statement as ifc_information
use Rattle.ifc.proofs.ifc_show.Statement as ifc_show
use Rattle.ifc.proofs.ifc_reports.Statement as ifc_reports
use Rattle.ifc.proofs.ifc_plain.Statement as ifc_plain
use Rattle.ifc.proofs.ifc_check.Met.{met as check_met}
use Rattle.ifc.proofs.ifc_open.Met.{met as open_met}
use Rattle.ifc.proofs.ifc_advance.Met.{met as advance_met}
use Rattle.ifc.proofs.ifc_report.Met.{met as report_met}
use Rattle.ifc.proofs.ifc_list.Met.{met as list_met}
use Rattle.ifc.proofs.ifc_server.Met.{met as server_met}
use Rattle.ifc.proofs.ifc_information.Met.{met as information_met}
use Rattle.ifc.proofs.ifc_show.Met.{met as show_met}
use Rattle.ifc.proofs.ifc_reports.Met.{met as reports_met}
use Rattle.ifc.proofs.ifc_plain.Met.{met as plain_met}

-- ---- "when exactly does a call not pass the recorder"

-- in a walk over one image that has come to its end: a criterion's server was never asked exactly if one of the ways past it was taken
pub passed_by_exactly : (image : List ℕ) (p : Profile) → judge image ≡ accepted p → (c : Numbered) → Memᴰ c (numbered 0 p.criteria)
    → (case : ℕ) (w : List Step) → Walk (open_session case).session w → Over image w → NeverAsked w c ↔ WayPast case w (priority c)
passed_by_exactly = passed_by.passed_by_exactly

-- of a server that was asked: what became of it is what was reported, and its default where it was not reached
pub asked_became : (s : Step) (n : Numbered) → Asks s n → Became s n
asked_became s n = asked.became

-- ---- demand 1: any bytes, any order, callers that checked nothing

-- "one fixed refusal number for each fault": that of the first line of the call's table that holds
pub each_call_refuses : (c : Call) (st : Store) → Refuses (lines c st) (step c st).answer
each_call_refuses = each_refuses

-- "on a refusal the session comes back as it went in, counts are zero, no place of an output list is written"
pub refused_call_changes_nothing : (c : Call) (st : Store) → (number (step c st).answer ≡ 0 → ⊥) → Untouched c st
refused_call_changes_nothing = refused_untouched

-- the records that an advance and a report take are exactly those that some calls lead to; any other is refused with 10
pub possible_iff_reached : (x : Session) → T (possible x) ↔ Reached x
possible_iff_reached = reach.possible_iff

-- ---- demand 2: every answer is what the documents say

-- the answer of an advance: the fitting criterion with the smallest priority above the last, or route
pub next_is_least : (x : Session) (image r : List ℕ) (p : Profile) (q : Request) → Answers x image r p q → Answered x p q (advance x image r)
next_is_least = advance_answers

-- "0 returned, ready again; 1 unreachable, ready if the default is continued, else released; 2 final response, ended": only the state changes
pub report_leads_to : (x : Session) → T (possible x) → x.state ≡ waiting
    → (report_session x 0 ≡ goes x ready) × (report_session x 1 ≡ goes x (pick (eqb x.handling 0) ready released)) × (report_session x 2 ≡ goes x ended)
report_leads_to = report_answers

-- a listing is exactly the fitting criteria, priority rising
pub listed_exactly : (g : Given) (image r before : List ℕ) (p : Profile) (q : Request) → Listable g image r before p q → ListsAll g p q before (listing g image r before)
listed_exactly = lists_all

-- "handed back as that part of the lent image": its place and length are those of the string that the criterion names, and the bytes there
-- are that string's
pub server_is_part : (image : List ℕ) (p : Profile) → judge image ≡ accepted p → (i : ℕ) (c : Criterion) → get_elem? p.criteria i ≡ some c
    → (server image i ≡ the_part (some c.server)) × (part_of image (server image i) ≡ c.server.bytes)
server_is_part = server_part

-- a pattern matches exactly if some part of the string fits it
pub matches_iff_fits : (meet : Atom → ℕ → Bool) (p : Pattern) (s : List ℕ) → T (matches meet p s) ↔ Matches meet p s
matches_iff_fits = matches_iff

-- ---- demand 3: nothing else in two readable requests changes an answer

-- over any sequence of calls: equal answers, refusals, counts, lists and sessions
pub calls_read_no_more : {cs ds : List Call} → AllRelated cs ds → (st : Store) → run cs st ≡ run ds st
calls_read_no_more = run_same

-- ---- the code

-- each exported call meets its contract, in which every number it returns or writes is that of the definition (ifc `Exports`)
pub the_code_meets : {M : Type 1}
    → ifc_check.statement M
    × ifc_open.statement M
    × ifc_advance.statement M
    × ifc_report.statement M
    × ifc_list.statement M
    × ifc_server.statement M
    × ifc_information.statement M
    × ifc_show.statement M
    × ifc_reports.statement M
    × ifc_plain.statement M
the_code_meets = (check_met, open_met, advance_met, report_met, list_met, server_met, information_met, show_met, reports_met, plain_met)

-- five libraries that would be easy to prove something of meet none of it
pub wrong_libraries : RuledOut
wrong_libraries = ruled_out

-- ---- the examples

-- "Marked for proof, as a single list with one claim about all of it"
pub marked_right : T (every marked.right marked.marked)
marked_right = marked.all_right

-- "Ways it is commonly got wrong"
pub common_right : T (every common.right common.common)
common_right = common.all_right

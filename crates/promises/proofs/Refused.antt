-- Demand 1: each refusal is that of the first line that holds.
use borrow.Author.Tests.{ne_eqb}
use mathlib.Core.Bool.{Bool, true, false, not, ◌&&◌}
use mathlib.Core.Option.{Option, none, some}
use mathlib.Core.Path.{◌≡◌, refl, sym, subst, ap, ◌∙◌}
use Prim.Native.Nat.{ℕ, zero, suc, ◌≤◌, ◌<◌}
use native.Mathlib.Omega.{arith}
use mathlib.Core.List.{List, [], ◌∷◌}
use lib.ListN.{length, get_elem?}
use lib.Dec.{T, leb, ltb, eqb, not_T, leb→le, T_not}
use Rattle.octets.specs.Lists.{pick, same, total}
use Rattle.octets.proofs.Tests.{is_false, T_of}
use Rattle.profile.specs.Image.{Stored, Criterion, Profile, Judged, accepted, refused, Row}
use Rattle.profile.specs.Judging.{judge}
use Rattle.lookups.specs.Lookups.{checked, check, the_part, look_at, look_judged, its_server, its_information, server, information}
use Rattle.lookups.specs.declared.Checked.{Checked}
use Rattle.lookups.specs.declared.Lookup.{Lookup}
use Rattle.request.specs.Request.{Request, read_request}
use Rattle.session.specs.Session.{possible, ready, waiting, fresh, unopened, open_session, stays, after_report, report_session}
use Rattle.session.specs.declared.Session.{Session}
use Rattle.session.specs.declared.Opened.{Opened}
use Rattle.session.specs.declared.Reported.{Reported}
use Rattle.rows.specs.Rows.{REGISTER}
use Rattle.rows.specs.declared.Given.{Given}
use Rattle.fitting.specs.Fitting.{criterion_fits, criterion_trials}
use Rattle.order.specs.Order.{Numbered, least, candidates}
use Rattle.route.specs.Advance.{refuse, answer, walk, walk_with, in_session, advance_read, advance_judged, advance}
use Rattle.listing.specs.Listing.{Listing, listed, refuse_list, filled, fill, fill_with, list_read, list_judged, listing}
use Rattle.route.specs.declared.Advanced.{Advanced}
use Rattle.show.specs.Show.{show_row, show_read, show_judged, show}
use Rattle.show.specs.declared.Answer.{Answer}
use Rattle.basic.specs.Pattern.{Pattern, meets}
use Rattle.basic.specs.Reading.{read_pattern}
use Rattle.place.specs.Place.{place_of}
use Rattle.place.specs.declared.Place.{Place}
use Rattle.plain.specs.Plain as plainly
use Rattle.plain.specs.Plain.{plain_answer}
use Rattle.plain.specs.declared.Answer as plain
use Rattle.promises.specs.Refusals.{Line, at_0, First, FirstNumber, numbered, none_holds, this_one, a_later_one, image_line, unreadable, is_register, too_many, missing, no_such, check_lines, open_lines, advance_lines, report_lines, listing_lines, lookup_lines, no_row, show_lines, plain_lines}

-- ---- the first line that holds

-- a refusal's number and place; 0 and 0 is none
pub record Refusal : Type 0 where
  pub number : ℕ
  pub place : ℕ

abbrev pub no_refusal : Refusal
no_refusal = record { number = 0; place = 0 }

abbrev pub this_or : Bool → Line → Refusal → Refusal
this_or b l later = pick b (record { number = l.number; place = l.place }) later

abbrev pub first_of : List Line → Refusal
first_of [] = no_refusal
first_of (l ∷ ls) = this_or l.holds l (first_of ls)

first_is : (ls : List Line) → First ls (first_of ls).number (first_of ls).place
first_is [] = none_holds
first_is (l ∷ ls) = go l.holds refl (first_is ls)
  where
    go : (b : Bool) → l.holds ≡ b → First ls (first_of ls).number (first_of ls).place
        → First (l ∷ ls) (this_or b l (first_of ls)).number (this_or b l (first_of ls)).place
    go true e f = this_one (T_of e)
    go false e f = a_later_one (subst (λ (b : Bool). T (not b)) (sym e) tt) f

-- no other is
pub first_one : {ls : List Line} {m n p q : ℕ} → First ls m p → First ls n q → (m ≡ n) × (p ≡ q)
first_one none_holds none_holds = (refl, refl)
first_one (this_one t) (this_one u) = (refl, refl)
first_one (this_one {l = l} t) (a_later_one u f) = absurd (T_not l.holds u t)
first_one (a_later_one {l = l} u f) (this_one t) = absurd (T_not l.holds u t)
first_one (a_later_one u f) (a_later_one v g) = first_one f g

pub as_first : (ls : List Line) (r : Refusal) → r ≡ first_of ls → First ls r.number r.place
as_first ls r e = subst (λ (x : Refusal). First ls x.number x.place) (sym e) (first_is ls)

-- ---- the refusal of an answer

abbrev of_checked : Checked → Refusal
of_checked a = record { number = a.refusal; place = a.place }

abbrev of_opened : Opened → Refusal
of_opened a = record { number = a.refusal; place = 0 }

abbrev of_advanced : Advanced → Refusal
of_advanced a = record { number = a.refusal; place = a.place }

abbrev of_reported : Reported → Refusal
of_reported a = record { number = a.refusal; place = 0 }

abbrev of_listing : Listing → Refusal
of_listing l = record { number = l.answer.refusal; place = l.answer.place }

abbrev of_lookup : Lookup → Refusal
of_lookup a = record { number = a.refusal; place = a.place }

abbrev of_shown : Answer → Refusal
of_shown a = record { number = a.refusal; place = a.place }

-- ---- check

pub check_refusal : (image : List ℕ) → First (check_lines image) (check image).refusal (check image).place
unfolding check
check_refusal image = as_first (check_lines image) (of_checked (checked (judge image))) (go (judge image))
  where
    go : (j : Judged) → of_checked (checked j) ≡ first_of (image_line j ∷ [])
    go (accepted p) = refl
    go (refused n place) = refl

-- ---- open

pub open_refusal : (case : ℕ) → FirstNumber (open_lines case) (open_session case).refusal
unfolding open_session
open_refusal case = numbered 0 (as_first (open_lines case) (of_opened (open_session case)) (go (leb case 3)))
  where
    go : (b : Bool) → of_opened (pick b (record { refusal = 0; session = fresh case }) (record { refusal = 8; session = unopened })) ≡ first_of (at_0 (not b) 8 ∷ [])
    go true = refl
    go false = refl

-- ---- advance

answer_refusal : (x : Session) (o : Option Numbered) (e t : ℕ) → of_advanced (answer x o e t) ≡ no_refusal
answer_refusal x none e t = refl
answer_refusal x (some n) e t = refl

walk_refusal : (x : Session) (p : Profile) (q : Request) → of_advanced (walk x p q) ≡ no_refusal
unfolding walk walk_with
walk_refusal x p q = answer_refusal x (least (λ n. criterion_fits q (in_session x) p n.criterion) (candidates x p.criteria)) _ _

advance_first : (x : Session) (image r : List ℕ) → of_advanced (advance x image r) ≡ first_of (advance_lines x image r)
unfolding advance
advance_first x image r = ready_or_not (possible x && eqb x.state ready)
  where
    method_or_not : (p : Profile) (q : Request) (b : Bool) → of_advanced (pick b (refuse x 11 0) (walk x p q)) ≡ first_of (at_0 b 11 ∷ [])
    method_or_not p q true = refl
    method_or_not p q false = walk_refusal x p q

    read_or_not : (p : Profile) (o : Option Request) → of_advanced (advance_read x p o) ≡ first_of (at_0 (unreadable o) 7 ∷ at_0 (is_register o) 11 ∷ [])
    read_or_not p none = refl
    read_or_not p (some q) = method_or_not p q (same q.method REGISTER)

    judged_or_not : (j : Judged) → of_advanced (advance_judged x j r) ≡ first_of (image_line j ∷ at_0 (unreadable (read_request r)) 7 ∷ at_0 (is_register (read_request r)) 11 ∷ [])
    judged_or_not (accepted p) = read_or_not p (read_request r)
    judged_or_not (refused n place) = refl

    ready_or_not : (b : Bool) → of_advanced (pick b (advance_judged x (judge image) r) (refuse x 10 0))
        ≡ first_of (at_0 (not b) 10 ∷ image_line (judge image) ∷ at_0 (unreadable (read_request r)) 7 ∷ at_0 (is_register (read_request r)) 11 ∷ [])
    ready_or_not true = judged_or_not (judge image)
    ready_or_not false = refl

pub advance_refusal : (x : Session) (image r : List ℕ) → First (advance_lines x image r) (advance x image r).refusal (advance x image r).place
advance_refusal x image r = as_first (advance_lines x image r) (of_advanced (advance x image r)) (advance_first x image r)

-- ---- report

after_refusal : (n : ℕ) (x : Session) → of_reported (after_report n x) ≡ first_of (at_0 (not (leb n 2)) 8 ∷ [])
after_refusal zero x = refl
after_refusal (suc zero) x = refl
after_refusal (suc (suc zero)) x = refl
after_refusal (suc (suc (suc n))) x =
    let m : ℕ = suc (suc (suc n)) in
    simp (ne_eqb m 0 (λ e. omega arith), ne_eqb m 1 (λ e. omega arith), ne_eqb m 2 (λ e. omega arith), lt_leb m (omega arith))
  where
    lt_leb : (m : ℕ) → 2 < m → leb m 2 ≡ false
    lt_leb m h = is_false (leb m 2) (not_T (leb m 2) (λ t. let k : m ≤ 2 = leb→le m 2 t in omega arith))

report_first : (x : Session) (n : ℕ) → of_reported (report_session x n) ≡ first_of (report_lines x n)
unfolding report_session
report_first x n = go (possible x && eqb x.state waiting)
  where
    go : (b : Bool) → of_reported (pick b (after_report n x) (stays x 10))
        ≡ first_of (at_0 (not b) 10 ∷ at_0 (not (leb n 2)) 8 ∷ [])
    go true = after_refusal n x
    go false = refl

pub report_refusal : (x : Session) (n : ℕ) → FirstNumber (report_lines x n) (report_session x n).refusal
report_refusal x n = numbered 0 (as_first (report_lines x n) (of_reported (report_session x n)) (report_first x n))

-- ---- listing

fill_refusal : (q : Request) (g : Given) (p : Profile) (places : List ℕ) → of_listing (fill q g p places) ≡ first_of (at_0 (too_many g (accepted p) (some q) places) 12 ∷ [])
unfolding fill fill_with
fill_refusal q g p places = go (listed (criterion_fits q g p) p.criteria)
  where
    by_room : (l : List ℕ) (b : Bool) → of_listing (pick b (filled l (length p.criteria) (total (criterion_trials q g p) p.criteria) places) (refuse_list places 12 0)) ≡ first_of (at_0 (not b) 12 ∷ [])
    by_room l true = refl
    by_room l false = refl

    go : (l : List ℕ) → of_listing (pick (leb (length l) (length places)) (filled l (length p.criteria) (total (criterion_trials q g p) p.criteria) places) (refuse_list places 12 0)) ≡ first_of (at_0 (not (leb (length l) (length places))) 12 ∷ [])
    go l = by_room l (leb (length l) (length places))

listing_first : (g : Given) (image r places : List ℕ) → of_listing (listing g image r places) ≡ first_of (listing_lines g image r places)
unfolding listing
listing_first g image r places = judged_or_not (judge image)
  where
    numbers_or_not : (p : Profile) (q : Request) (a b c : Bool)
        → of_listing (pick (not a) (refuse_list places 11 0) (pick (not b) (refuse_list places 8 0) (pick (not c) (refuse_list places 9 0) (fill q g p places))))
        ≡ first_of (at_0 (not a) 11 ∷ at_0 (not b) 8 ∷ at_0 (not c) 9 ∷ at_0 (too_many g (accepted p) (some q) places) 12 ∷ [])
    numbers_or_not p q true true true = fill_refusal q g p places
    numbers_or_not p q true true false = refl
    numbers_or_not p q true false c = refl
    numbers_or_not p q false b c = refl

    read_or_not : (p : Profile) (o : Option Request) → of_listing (list_read g p o places)
        ≡ first_of (at_0 (unreadable o) 7 ∷ at_0 (not (is_register o)) 11 ∷ at_0 (not (leb g.case 3)) 8 ∷ at_0 (not (leb g.registration 2)) 9 ∷ at_0 (too_many g (accepted p) o places) 12 ∷ [])
    read_or_not p none = refl
    read_or_not p (some q) = numbers_or_not p q (same q.method REGISTER) (leb g.case 3) (leb g.registration 2)

    judged_or_not : (j : Judged) → of_listing (list_judged g j r places)
        ≡ first_of (image_line j ∷ at_0 (unreadable (read_request r)) 7 ∷ at_0 (not (is_register (read_request r))) 11 ∷ at_0 (not (leb g.case 3)) 8
        ∷ at_0 (not (leb g.registration 2)) 9 ∷ at_0 (too_many g j (read_request r) places) 12 ∷ [])
    judged_or_not (accepted p) = read_or_not p (read_request r)
    judged_or_not (refused n place) = refl

pub listing_refusal : (g : Given) (image r places : List ℕ) → First (listing_lines g image r places) (listing g image r places).answer.refusal (listing g image r places).answer.place
listing_refusal g image r places = as_first (listing_lines g image r places) (of_listing (listing g image r places)) (listing_first g image r places)

-- ---- lookups

part_refusal : (o : Option Stored) → of_lookup (the_part o) ≡ no_refusal
part_refusal none = refl
part_refusal (some x) = refl

looked_first : (part : Criterion → Option Stored) (j : Judged) (i : ℕ) → of_lookup (look_judged part j i) ≡ first_of (image_line j ∷ at_0 (no_such j i) 13 ∷ [])
looked_first part (refused n place) i = refl
looked_first part (accepted p) i = go (get_elem? p.criteria i)
  where
    go : (o : Option Criterion) → of_lookup (look_at part o) ≡ first_of (at_0 (missing o) 13 ∷ [])
    go none = refl
    go (some c) = part_refusal (part c)

pub server_refusal : (image : List ℕ) (i : ℕ) → First (lookup_lines image i) (server image i).refusal (server image i).place
unfolding server
server_refusal image i = as_first (lookup_lines image i) (of_lookup (server image i)) (looked_first its_server (judge image) i)

pub information_refusal : (image : List ℕ) (i : ℕ) → First (lookup_lines image i) (information image i).refusal (information image i).place
unfolding information
information_refusal image i = as_first (lookup_lines image i) (of_lookup (information image i)) (looked_first its_information (judge image) i)

-- ---- show

shown_first : (j : Judged) (r : List ℕ) (k : ℕ) (o : Option Request) → read_request r ≡ o
    → of_shown (show_judged j r k) ≡ first_of (image_line j ∷ at_0 (unreadable o) 7 ∷ at_0 (no_row j k) 13 ∷ [])
shown_first (refused n place) r k o e = refl
shown_first (accepted p) r k o e = ap (λ (q : Option Request). of_shown (show_read p q k)) e ∙ by o
  where
    go : (q : Request) (x : Option Row) → of_shown (show_row q x) ≡ first_of (at_0 (missing x) 13 ∷ [])
    go q none = refl
    go q (some x) = refl

    by : (o : Option Request) → of_shown (show_read p o k) ≡ first_of (at_0 (unreadable o) 7 ∷ at_0 (missing (get_elem? p.rows k)) 13 ∷ [])
    by none = refl
    by (some q) = go q (get_elem? p.rows k)

pub show_refusal : (image r : List ℕ) (k : ℕ) → First (show_lines image r k) (show image r k).refusal (show image r k).place
unfolding show
show_refusal image r k = as_first (show_lines image r k) (of_shown (show image r k)) (shown_first (judge image) r k (read_request r) refl)

-- ---- the plain matcher

abbrev of_plain : plain.Answer → Refusal
of_plain a = record { number = a.refusal; place = 0 }

plain_first : (o : Option Pattern) (t : List ℕ) → of_plain (plainly.by_pattern o t) ≡ first_of (at_0 (missing o) 5 ∷ at_0 (ltb 256 (length t)) 17 ∷ [])
plain_first none t = refl
plain_first (some p) t = go (place_of meets p t) (ltb 256 (length t))
  where
    go : (r : Place) (b : Bool) → of_plain (pick b (plainly.refused 17) (plainly.answered r)) ≡ first_of (at_0 b 17 ∷ [])
    go r true = refl
    go r false = refl

pub plain_refusal : (s t : List ℕ) → FirstNumber (plain_lines s t) (plain_answer s t).refusal
unfolding plain_answer
plain_refusal s t = numbered 0 (as_first (plain_lines s t) (of_plain (plain_answer s t)) (plain_first (read_pattern s) t))

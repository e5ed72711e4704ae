-- Any sequence of calls: what each is lent, what it answers, and what becomes of the sessions, which stand in a store.
use Rattle.std.specs.Prelude.{ℕ, List, [], ◌∷◌, map, eqb}
use Rattle.octets.specs.Lists.{pick}
use Rattle.lookups.specs.Lookups.{check, server, information}
use Rattle.lookups.specs.declared.Checked.{Checked}
use Rattle.lookups.specs.declared.Lookup.{Lookup}
use Rattle.session.specs.Session.{open_session, report_session}
use Rattle.session.specs.declared.Session.{Session}
use Rattle.session.specs.declared.Opened.{Opened}
use Rattle.session.specs.declared.Reported.{Reported}
use Rattle.rows.specs.declared.Given.{Given}
use Rattle.route.specs.Advance.{advance}
use Rattle.listing.specs.Listing.{Listing, listing}
use Rattle.route.specs.declared.Advanced.{Advanced}
use Rattle.show.specs.Show.{show}
use Rattle.show.specs.declared.Answer as show
use Rattle.bulk.specs.Bulk.{Bulk, report_all}
use Rattle.plain.specs.Plain.{plain_answer}
use Rattle.plain.specs.declared.Answer as plain
use Rattle.promises.specs.Agreement.{MayDiffer}

-- every call of the library, with all that it is lent; a session is named by its slot
pub data Call : Type 0 where
  checking : (image : List ℕ) → Call
  opening : (slot case : ℕ) → Call
  advancing : (slot : ℕ) (image request : List ℕ) → Call
  reporting : (slot report : ℕ) → Call
  listing_it : (given : Given) (image request places : List ℕ) → Call
  serving : (image : List ℕ) (criterion : ℕ) → Call
  informing : (image : List ℕ) (criterion : ℕ) → Call
  showing : (image request : List ℕ) (row : ℕ) → Call
  reporting_all : (slots reports refusals : List ℕ) → Call
  matching : (pattern text : List ℕ) → Call

-- what it answers, every number and every lent place
pub data Answer : Type 0 where
  checked : Checked → Answer
  opened : Opened → Answer
  advanced : Advanced → Answer
  reported : Reported → Answer
  listed : Listing → Answer
  looked : Lookup → Answer
  shown : show.Answer → Answer
  reported_all : Bulk → Answer
  matched : plain.Answer → Answer

abbrev pub Store : Type 0
Store = ℕ → Session

abbrev pub put : Store → ℕ → Session → Store
put st k x = λ j. pick (eqb j k) x (st j)

-- a list of sessions, each to its slot
abbrev pub put_all : Store → List ℕ → List Session → Store
put_all st [] xs = st
put_all st (k ∷ ks) [] = st
put_all st (k ∷ ks) (x ∷ xs) = put_all (put st k x) ks xs

-- ---- one call

pub record Stepped : Type 0 where
  pub answer : Answer
  pub store : Store

unfoldable pub step : Call → Store → Stepped
step (checking image) st = record { answer = checked (check image); store = st }
step (opening k c) st = let o = open_session c in record { answer = opened o; store = put st k o.session }
step (advancing k image r) st = let a = advance (st k) image r in record { answer = advanced a; store = put st k a.session }
step (reporting k n) st = let a = report_session (st k) n in record { answer = reported a; store = put st k a.session }
step (listing_it g image r places) st = record { answer = listed (listing g image r places); store = st }
step (serving image i) st = record { answer = looked (server image i); store = st }
step (informing image i) st = record { answer = looked (information image i); store = st }
step (showing image r k) st = record { answer = shown (show image r k); store = st }
step (reporting_all ks ns before) st =
    let b = report_all (map st ks) ns before in
    record { answer = reported_all b; store = put_all st ks b.sessions }
step (matching p t) st = record { answer = matched (plain_answer p t); store = st }

-- ---- one after the other

pub record Ran : Type 0 where
  pub answers : List Answer
  pub store : Store

unfoldable pub run : List Call → Store → Ran
unfolding step
run [] st = record { answers = []; store = st }
run (c ∷ cs) st =
    let s = step c st in
    let later = run cs s.store in
    record { answers = s.answer ∷ later.answers; store = later.store }

-- ---- two sequences that differ only in what demand 3 lets differ

-- a call and itself; or two with a request each, which may differ, all else equal
pub data Related : Call → Call → Type 0 where
  equal : {c : Call} → Related c c
  advances : {k : ℕ} {image a b : List ℕ} → MayDiffer image a b → Related (advancing k image a) (advancing k image b)
  lists : {g : Given} {image a b places : List ℕ} → MayDiffer image a b → Related (listing_it g image a places) (listing_it g image b places)
  shows : {image a b : List ℕ} {row : ℕ} → MayDiffer image a b → Related (showing image a row) (showing image b row)

pub data AllRelated : List Call → List Call → Type 0 where
  no_calls : AllRelated [] []
  call_and : {c d : Call} {cs ds : List Call} → Related c d → AllRelated cs ds → AllRelated (c ∷ cs) (d ∷ ds)

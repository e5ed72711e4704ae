-- Demand 2 in a reader's words: which criteria an advance could forward, and what its answer says of them.
use Rattle.std.specs.Prelude.{true, false, ◌≡◌, ℕ, ◌+◌, ◌≤◌, length, drop, T, leb, eqb}
use Rattle.std.proofs.Math.Option.{some}
use mathlib.Core.List.{List, [], ◌∷◌, ◌++◌, Memᴰ}
use Rattle.octets.specs.Lists.{pick, same, total}
use Rattle.profile.specs.Image.{Profile, accepted}
use Rattle.profile.specs.Judging.{judge}
use Rattle.request.specs.Request.{Request, read_request}
use Rattle.session.specs.Session.{possible, ready, finished, with_state, report_session, forwarded_to}
use Rattle.session.specs.declared.Session.{Session}
use Rattle.rows.specs.Rows.{REGISTER}
use Rattle.rows.specs.declared.Given.{Given}
use Rattle.fitting.specs.Fitting.{criterion_fits, criterion_trials}
use Rattle.order.specs.Order.{Numbered, numbered, priority, above_last, candidates, up_to, Rises}
use Rattle.route.specs.Advance.{in_session, advance}
use Rattle.listing.specs.Listing.{Listing, listed, numbers}
use Rattle.route.specs.declared.Advanced.{Advanced}

-- ---- one advance

-- a criterion of the image above the last one forwarded that fits the request in hand
pub record Candidate (x : Session) (p : Profile) (q : Request) (n : Numbered) : Type 0 where
  pub member : Memᴰ n (numbered 0 p.criteria)
  pub above : T (above_last x n)
  pub fit : T (criterion_fits q (in_session x) p n.criterion)

-- what lets an advance give an answer: nothing refuses it
pub record Answers (x : Session) (image r : List ℕ) (p : Profile) (q : Request) : Type 0 where
  pub can_be : T (possible x)
  pub is_ready : T (eqb x.state ready)
  pub accepts : judge image ≡ accepted p
  pub reads : read_request r ≡ some q
  pub other : same q.method REGISTER ≡ false

-- no refusal, and the counts of the criteria looked at
pub record Counts (x : Session) (p : Profile) (q : Request) (seen : List Numbered) (a : Advanced) : Type 0 where
  pub refusal : a.refusal ≡ 0
  pub place : a.place ≡ 0
  pub examined : a.examined ≡ length seen
  pub trials : a.trials ≡ total (λ n. criterion_trials q (in_session x) p n.criterion) seen

-- the chosen one, with what the answer says of it
pub record Forward (x : Session) (p : Profile) (q : Request) (a : Advanced) : Type 0 where
  pub chosen_one : Numbered
  pub candidate : Candidate x p q chosen_one
  pub lowest : (n : Numbered) → Candidate x p q n → priority chosen_one ≤ priority n
  pub outcome : a.outcome ≡ 1
  pub number : a.number ≡ chosen_one.number
  pub its_priority : a.priority ≡ priority chosen_one
  pub session : a.session ≡ forwarded_to x (priority chosen_one) chosen_one.criterion.handling
  pub counts : Counts x p q (up_to (some chosen_one) (candidates x p.criteria)) a

-- there is none: of the session only the state changes
pub record Routes (x : Session) (p : Profile) (q : Request) (a : Advanced) : Type 0 where
  pub none_fits : (n : Numbered) → Candidate x p q n → ⊥
  pub outcome : a.outcome ≡ 2
  pub number : a.number ≡ 0
  pub its_priority : a.priority ≡ 0
  pub session : a.session ≡ with_state x finished
  pub counts : Counts x p q (candidates x p.criteria) a

-- an answer is one or the other
pub data Answered (x : Session) (p : Profile) (q : Request) (a : Advanced) : Type 0 where
  forwarding : Forward x p q a → Answered x p q a
  routing : Routes x p q a → Answered x p q a

-- ---- one listing

-- what lets a listing give an answer: nothing refuses it
pub record Listable (g : Given) (image r before : List ℕ) (p : Profile) (q : Request) : Type 0 where
  pub accepts : judge image ≡ accepted p
  pub reads : read_request r ≡ some q
  pub register : same q.method REGISTER ≡ true
  pub case_known : T (leb g.case 3)
  pub type_known : T (leb g.registration 2)
  pub room : length (listed (criterion_fits q g p) p.criteria) ≤ length before

-- "every fitting criterion, priority rising, criterion numbers in the first places of a lent list, the rest untouched"
pub record ListsAll (g : Given) (p : Profile) (q : Request) (before : List ℕ) (l : Listing) : Type 0 where
  pub chosen : List Numbered
  pub rises : Rises chosen
  pub all_fit : (n : Numbered) → Memᴰ n chosen → Memᴰ n (numbered 0 p.criteria) × T (criterion_fits q g p n.criterion)
  pub no_other : (n : Numbered) → Memᴰ n (numbered 0 p.criteria) → T (criterion_fits q g p n.criterion) → Memᴰ n chosen
  pub places : l.places ≡ numbers chosen ++ drop (length chosen) before
  pub count : l.answer.count ≡ length chosen
  pub refusal : l.answer.refusal ≡ 0
  pub place : l.answer.place ≡ 0
  pub examined : l.answer.examined ≡ length p.criteria
  pub trials : l.answer.trials ≡ total (criterion_trials q g p) p.criteria

-- ---- how often

-- 1 if the outcome is forward
abbrev pub one_if : ℕ → ℕ
one_if outcome = pick (eqb outcome 1) 1 0

-- a request to advance with, or a report
pub data Move : Type 0 where
  ask : List ℕ → Move
  tell : ℕ → Move

-- how often it forwards
unfoldable pub forwards : List ℕ → List Move → Session → ℕ
forwards image [] x = 0
forwards image (ask r ∷ ms) x = one_if (advance x image r).outcome + forwards image ms (advance x image r).session
forwards image (tell n ∷ ms) x = forwards image ms (report_session x n).session

-- Advance (document 01, "The session"): the next criterion that fits, or route.
use Rattle.std.specs.Prelude.{Bool, ◌&&◌, ◌≡◌, ℕ, List, length, eqb}
use Rattle.std.proofs.Math.Option.{Option, none, some}
use Rattle.octets.specs.Lists.{pick, total, same}
use Rattle.profile.specs.Image.{Criterion, Profile, Judged, accepted, refused}
use Rattle.profile.specs.Judging.{judge}
use Rattle.request.specs.Request.{Request, refusal_of, read_request}
use Rattle.session.specs.Session.{ready, finished, possible, with_state, forwarded_to}
use Rattle.session.specs.declared.Session.{Session}
use Rattle.rows.specs.Rows.{REGISTER}
use Rattle.rows.specs.declared.Given.{Given}
use Rattle.fitting.specs.Fitting.{criterion_fits, criterion_trials}
use Rattle.order.specs.Order.{Numbered, priority, candidates, least, up_to}
use Rattle.route.specs.declared.Advanced.{Advanced}

-- ---- the answers

-- "On a refusal the session comes back as it went in, counts are zero", and so are the other numbers
abbrev pub refuse : Session → ℕ → ℕ → Advanced
refuse x n place = record { refusal = n; place = place; outcome = 0; number = 0; priority = 0; examined = 0; trials = 0; session = x }

-- "forward (criterion's number from 0 in the image, priority), session waiting", which keeps that priority and default
abbrev pub forward : Session → ℕ → ℕ → ℕ → ℕ → ℕ → Advanced
forward x number priority handling examined trials = record {
  refusal = 0;
  place = 0;
  outcome = 1;
  number = number;
  priority = priority;
  examined = examined;
  trials = trials;
  session = forwarded_to x priority handling;
}

-- "or route, session finished (both numbers 0, as when refused)"
abbrev pub route : Session → ℕ → ℕ → Advanced
route x examined trials = record {
  refusal = 0;
  place = 0;
  outcome = 2;
  number = 0;
  priority = 0;
  examined = examined;
  trials = trials;
  session = with_state x finished;
}

-- the one found, or none
abbrev pub answer : Session → Option Numbered → ℕ → ℕ → Advanced
answer x none examined trials = route x examined trials
answer x (some n) examined trials = forward x n.number (priority n) n.criterion.handling examined trials

-- ---- the walk

-- which criteria fit the request in hand, and what trials each takes, is all that the walk asks of it
unfoldable pub walk_with : (Criterion → Bool) → (Criterion → ℕ) → Session → List Criterion → Advanced
unfolding candidates least
walk_with fits trials x cs =
    let ns : List Numbered = candidates x cs in
    let a : Option Numbered = least (λ n. fits n.criterion) ns in
    answer x a (length (up_to a ns)) (total (λ n. trials n.criterion) (up_to a ns))

-- the session's case; no registration type, since REGISTER is refused
abbrev pub in_session : Session → Given
in_session x = record { case = x.case; registration = 0 }

-- "The request may differ at each advance."
unfoldable pub walk : Session → Profile → Request → Advanced
unfolding walk_with criterion_fits criterion_trials
walk x p q = walk_with (criterion_fits q (in_session x) p) (criterion_trials q (in_session x) p) x p.criteria

-- ---- "Order: 10, image faults .., 7, 11"

-- the request, then its method
abbrev pub advance_read : Session → Profile → Option Request → Advanced
advance_read x p none = refuse x (refusal_of none) 0
advance_read x p (some q) = pick (same q.method REGISTER) (refuse x 11 0) (walk x p q)

-- "Each call judges the image lent to it"
abbrev pub advance_judged : Session → Judged → List ℕ → Advanced
advance_judged x (refused n place) r = refuse x n place
advance_judged x (accepted p) r = advance_read x p (read_request r)

-- "Advance, only when ready"
unfoldable pub advance : Session → List ℕ → List ℕ → Advanced
unfolding walk read_request possible judge
advance x image r = pick (possible x && eqb x.state ready) (advance_judged x (judge image) r) (refuse x 10 0)

-- ---- what the contract cites

-- an advance of x over this image and request answers a
pub record Advances (x : Session) (image request : List ℕ) (a : Advanced) : Type 0 where
  pub answer : a ≡ advance x image request

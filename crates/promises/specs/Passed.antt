-- "When exactly does a call not pass the recorder": what a host does with a session, step by step, and the ways past a criterion.
use Rattle.std.specs.Prelude.{Bool, ◌||◌, ◌≡◌, ℕ, ◌<◌, T, ltb, eqb}
use Rattle.std.proofs.Math.Option.{some}
use mathlib.Core.List.{List, [], ◌∷◌, Memᴰ}
use Rattle.octets.specs.Lists.{pick}
use Rattle.profile.specs.Image.{Profile, accepted}
use Rattle.profile.specs.Judging.{judge}
use Rattle.request.specs.Request.{Request, read_request}
use Rattle.session.specs.Session.{ready, waiting, released, ended, open_session, report_session}
use Rattle.session.specs.declared.Session.{Session}
use Rattle.session.specs.declared.Reported.{Reported}
use Rattle.fitting.specs.Fitting.{criterion_fits}
use Rattle.order.specs.Order.{Numbered, numbered, priority}
use Rattle.route.specs.Advance.{in_session, advance}
use Rattle.route.specs.declared.Advanced.{Advanced}

-- ---- a step

-- the session as it is then, the image lent, the request in hand, and what is reported if that is forwarded: 0 the server sent the call
-- back, 1 it was not reached, 2 it gave the final response
pub record Step : Type 0 where
  pub session : Session
  pub image : List ℕ
  pub request : List ℕ
  pub report : ℕ

-- what the advance answers
abbrev pub its_advance : Step → Advanced
its_advance s = advance s.session s.image s.request

-- what the report answers, which follows a forward
abbrev pub its_report : Step → Reported
its_report s = report_session (its_advance s).session s.report

-- the session that the step leaves
unfoldable pub after : Step → Session
after s = pick (eqb (its_advance s).outcome 1) (its_report s).session (its_advance s).session

-- the refusal of one of its calls, 0 if there is none
unfoldable pub its_refusal : Step → ℕ
its_refusal s = pick (eqb (its_advance s).outcome 1) (its_report s).refusal (its_advance s).refusal

-- ---- a walk

-- all steps from a session on, each with the session that the one before it left
pub data Walk : Session → List Step → Type 0 where
  -- the session is no longer ready: the walk has come to its end
  at_end : {x : Session} → (x.state ≡ ready → ⊥) → Walk x []
  -- a call is refused: "the controller must stop the call"
  stopped : (s : Step) → s.session.state ≡ ready → (its_refusal s ≡ 0 → ⊥) → Walk s.session (s ∷ [])
  -- one step, and on from there
  step_and : (s : Step) {w : List Step} → s.session.state ≡ ready → its_refusal s ≡ 0 → Walk (after s) w → Walk s.session (s ∷ w)

-- a walk over one image
abbrev pub Over : List ℕ → List Step → Type 0
Over image w = (s : Step) → Memᴰ s w → s.image ≡ image

-- ---- what a step says of the criteria of its own image

-- the criterion fits the request then in hand
pub record Fits (s : Step) (n : Numbered) : Type 0 where
  pub profile : Profile
  pub in_hand : Request
  pub accepts : judge s.image ≡ accepted profile
  pub reads : read_request s.request ≡ some in_hand
  pub member : Memᴰ n (numbered 0 profile.criteria)
  pub fit : T (criterion_fits in_hand (in_session s.session) profile n.criterion)

-- its server is asked: the request is forwarded there
pub record Asks (s : Step) (n : Numbered) : Type 0 where
  pub profile : Profile
  pub accepts : judge s.image ≡ accepted profile
  pub member : Memᴰ n (numbered 0 profile.criteria)
  pub outcome : (its_advance s).outcome ≡ 1
  pub number : (its_advance s).number ≡ n.number

-- a server is never asked in a walk
abbrev pub NeverAsked : List Step → Numbered → Type 0
NeverAsked w n = (s : Step) → Memᴰ s w → Asks s n → ⊥

-- nor is any of this priority, whatever the image
abbrev pub NoneAsked : List Step → ℕ → Type 0
NoneAsked w k = (n : Numbered) → priority n ≡ k → NeverAsked w n

-- a priority is still ahead: no server was asked yet, or the last one has a priority below it
abbrev pub ahead : Session → ℕ → Bool
ahead x k = eqb x.forwarded 0 || ltb x.last k

-- the turn of a priority comes: the advance is answered, the last priority is below it, and no criterion between them fits
pub record Turn (s : Step) (k : ℕ) : Type 0 where
  pub answered : (its_advance s).refusal ≡ 0
  pub above : T (ahead s.session k)
  pub none_between : (n : Numbered) → Fits s n → T (ahead s.session (priority n)) → priority n < k → ⊥

-- why a step does not ask the server of a criterion
pub data PassedAt (s : Step) (n : Numbered) : Type 0 where
  -- its priority is not above that of the last server asked: it was asked or passed over before, or "the host lent another profile"
  not_above : (T (ahead s.session (priority n)) → ⊥) → PassedAt s n
  -- its turn comes, and it does not fit
  not_fitting : Turn s (priority n) → (Fits s n → ⊥) → PassedAt s n
  -- a server before it is asked
  another_asked : (m : Numbered) → Asks s m → priority m < priority n → PassedAt s n
  -- the advance is refused
  not_answered : ((its_advance s).refusal ≡ 0 → ⊥) → PassedAt s n

-- ---- what became of a server that was asked

-- what was reported, and its default where it was not reached
pub data Became (s : Step) (n : Numbered) : Type 0 where
  -- it sent the call back: the session is ready again
  sent_back : s.report ≡ 0 → (after s).state ≡ ready → Became s n
  -- it was not reached: the call goes on where its default is "continued" or absent
  continued : s.report ≡ 1 → n.criterion.handling ≡ 0 → (after s).state ≡ ready → Became s n
  -- and is released where it is "terminated"
  terminated : s.report ≡ 1 → n.criterion.handling ≡ 1 → (after s).state ≡ released → Became s n
  -- it gave the final response: the session has ended
  final : s.report ≡ 2 → (after s).state ≡ ended → Became s n
  -- the report was refused: the session still waits for one
  not_told : ((its_report s).refusal ≡ 0 → ⊥) → (after s).state ≡ waiting → Became s n

-- ---- the ways past a criterion, known by its priority, in a walk from an opening

pub data WayPast (case : ℕ) (w : List Step) (k : ℕ) : Type 0 where
  -- the profile that is lent has none of this priority, or "it does not fit when its turn comes"
  does_not_fit : (s : Step) → Memᴰ s w → Turn s k → ((n : Numbered) → Fits s n → priority n ≡ k → ⊥) → WayPast case w k
  -- "a server before it gave the final response"
  final_response : (s : Step) → Memᴰ s w → (n : Numbered) → Asks s n → priority n < k → s.report ≡ 2 → WayPast case w k
  -- "or was not reached and its default is 'terminated'"
  not_reached : (s : Step) → Memᴰ s w → (n : Numbered) → Asks s n → priority n < k → s.report ≡ 1 → n.criterion.handling ≡ 1 → WayPast case w k
  -- "the library refused": the opening
  opening_refused : ((open_session case).refusal ≡ 0 → ⊥) → WayPast case w k
  -- an advance, with this priority still ahead
  advance_refused : (s : Step) → Memᴰ s w → T (ahead s.session k) → ((its_advance s).refusal ≡ 0 → ⊥) → WayPast case w k
  -- the report of a server before it
  report_refused : (s : Step) → Memᴰ s w → (n : Numbered) → Asks s n → priority n < k → ((its_report s).refusal ≡ 0 → ⊥) → WayPast case w k

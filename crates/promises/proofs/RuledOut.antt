-- "Try against the statements": five wrong libraries, each shut out by a concrete image and request.
use mathlib.Core.Path.{◌≡◌, refl, sym, ap, ◌∙◌}
use Prim.Native.Nat.{ℕ}
use native.Mathlib.Omega.{arith}
use mathlib.Core.List.{List, [], ◌∷◌}
use Rattle.octets.specs.Lists.{text}
use Rattle.profile.specs.Examples.{one_criterion}
use Rattle.profile.specs.Inner.Writable.{asking_from}
use Rattle.profile.specs.Written.{row_of, member_of, criterion_of, written}
use Rattle.session.specs.Session.{fresh, report_session}
use Rattle.session.specs.declared.Session.{Session}
use Rattle.rows.specs.declared.Given.{Given}
use Rattle.route.specs.Advance.{advance}
use Rattle.listing.specs.Listing.{listing}
use Rattle.route.specs.declared.Advanced.{Advanced}
use Rattle.promises.specs.Common.{pair}
use Rattle.promises.specs.Libraries.{Library, Meets, Lister, MeetsList, RuledOut}

-- ---- bytes to try them on

invite : List ℕ
invite = text "INVITE sip:b SIP/2.0\r\n\r\n"

invite_from : List ℕ
invite_from = text "INVITE sip:b SIP/2.0\r\nFrom: joe\r\n\r\n"

register : List ℕ
register = text "REGISTER sip:b SIP/2.0\r\n\r\n"

-- criterion 0 of priority 5 with no trigger, and criterion 1 of priority 3 for Method REGISTER
two_criteria : List ℕ
two_criteria = written (record {
  strings = text "sip:a" ∷ text "REGISTER" ∷ [];
  rows = row_of 0 1 1 65535 ∷ [];
  members = member_of 0 0 ∷ [];
  criteria = criterion_of 5 2 0 0 0 1 ∷ criterion_of 3 0 0 1 0 0 ∷ [];
})

-- two criteria with no trigger
twice : List ℕ
twice = pair 5 7

-- one criterion for a From field
for_from : List ℕ
for_from = written asking_from

-- ---- what the definitions say of them

forwards_5 : (advance (fresh 0) one_criterion invite).outcome ≡ 1
unfolding advance invite
forwards_5 = refl

-- the session once the first server returned the request: there is another
returned : Session
returned = (report_session (advance (fresh 0) twice invite).session 0).session

forwards_again : (advance returned twice invite).outcome ≡ 1
unfolding advance report_session invite returned twice written
forwards_again = refl

no_trials : (advance (fresh 0) for_from invite).trials ≡ 0
unfolding advance invite for_from written
no_trials = refl

one_trial : (advance (fresh 0) for_from invite_from).trials ≡ 1
unfolding advance invite_from for_from written
one_trial = refl

given : Given
given = record { case = 0; registration = 0 }

lists_two : (listing given two_criteria register (7 ∷ 8 ∷ 9 ∷ [])).places ≡ 1 ∷ 0 ∷ 9 ∷ []
unfolding listing two_criteria register given written
lists_two = refl

-- ---- the wrong ones

outcome_of : Advanced → ℕ
outcome_of a = a.outcome

trials_of : Advanced → ℕ
trials_of a = a.trials

-- one that refuses everything
not_refuse_all : (lib : Library) → ((x : Session) (image r : List ℕ) → (lib x image r).refusal ≡ 0 → ⊥) → Meets lib → ⊥
unfolding advance invite
not_refuse_all lib h m = h (fresh 0) one_criterion invite (ap (λ (a : Advanced). a.refusal) (m (fresh 0) one_criterion invite).answer)

-- one that always routes
not_always_route : (lib : Library) → ((x : Session) (image r : List ℕ) → (lib x image r).outcome ≡ 2) → Meets lib → ⊥
unfolding outcome_of
not_always_route lib h m =
    let z : ◌≡◌ {A = ℕ} 2 1 = sym (h (fresh 0) one_criterion invite) ∙ ap outcome_of (m (fresh 0) one_criterion invite).answer ∙ forwards_5 in
    omega arith

-- one that is "right at its first advance and idle after": it refuses or routes every session that forwarded before
not_idle : (lib : Library) → ((x : Session) (image r : List ℕ) → x.forwarded ≡ 1 → (lib x image r).outcome ≡ 1 → ⊥) → Meets lib → ⊥
unfolding outcome_of advance report_session invite returned twice written
not_idle lib h m = h returned twice invite refl (ap outcome_of (m returned twice invite).answer ∙ forwards_again)

-- one whose trials are made up: the same whatever the request
not_made_up : (lib : Library) → ((x : Session) (image a b : List ℕ) → (lib x image a).trials ≡ (lib x image b).trials) → Meets lib → ⊥
unfolding trials_of
not_made_up lib h m =
    let z : ◌≡◌ {A = ℕ} 0 1 =
    sym (ap trials_of (m (fresh 0) for_from invite).answer ∙ no_trials) ∙ h (fresh 0) for_from invite invite_from
    ∙ ap trials_of (m (fresh 0) for_from invite_from).answer ∙ one_trial in
    omega arith

-- "a listing that writes nothing"
not_silent : (lib : Lister) → ((g : Given) (image r before : List ℕ) → (lib g image r before).places ≡ before) → MeetsList lib → ⊥
not_silent lib h m =
    let z : ◌≡◌ {A = List ℕ} (7 ∷ 8 ∷ 9 ∷ []) (1 ∷ 0 ∷ 9 ∷ []) =
    sym (h given two_criteria register (7 ∷ 8 ∷ 9 ∷ [])) ∙ (m given two_criteria register (7 ∷ 8 ∷ 9 ∷ [])).places ∙ lists_two in
    let w : ◌≡◌ {A = ℕ} 7 1 = cc in
    omega arith

-- all five
pub ruled_out : RuledOut
ruled_out = record {
  refuses_all = not_refuse_all;
  always_routes = not_always_route;
  writes_nothing = not_silent;
  idle_after = not_idle;
  trials_made_up = not_made_up;
}

-- An advance, as worked examples: over priorities alone, and over parts. One list, one claim.
use Rattle.std.specs.Prelude.{Bool, false, ◌&&◌, ℕ, suc, List, [], ◌∷◌, T, eqb}
use Rattle.std.proofs.Math.Option.{none}
use Rattle.octets.specs.Lists.{text, every}
use Rattle.profile.specs.Image.{Criterion, Profile, session_case}
use Rattle.request.specs.Request.{Request}
use Rattle.session.specs.Examples.{equal}
use Rattle.session.specs.declared.Session.{Session}
use Rattle.route.specs.Advance.{walk_with, walk}
use Rattle.route.specs.declared.Advanced.{Advanced}
use Rattle.order.specs.Bare.{all_bare, fits}

-- ready: nothing forwarded, or this priority last
abbrev starts_in : ℕ → Session
starts_in case = record { case = case; state = 0; forwarded = 0; last = 0; handling = 0 }

abbrev starts : Session
starts = starts_in 0

abbrev after : ℕ → Session
after last = record { case = 0; state = 0; forwarded = 1; last = last; handling = 0 }

-- priorities, those that fit, the session; and the outcome, number, examined and trials. The same, and the session after it. A
-- case and the parts of criteria by rising priority; and the outcome, number, examined and trials
pub data Example : Type 0 where
  walks : List ℕ → List ℕ → Session → ℕ → ℕ → ℕ → ℕ → Example
  leaves : List ℕ → List ℕ → Session → Session → Example
  of_parts : ℕ → List ℕ → ℕ → ℕ → ℕ → ℕ → Example

-- each with one row, which fits the case 0
abbrev with_part : ℕ → ℕ → Criterion
with_part priority part = record {
  priority = priority;
  part = part;
  form = 0;
  first = 0;
  count = 1;
  server = record { start = 0; bytes = [] };
  handling = 0;
  info = none;
}

abbrev with_parts : ℕ → List ℕ → List Criterion
with_parts priority [] = []
with_parts priority (p ∷ ps) = with_part priority p ∷ with_parts (suc priority) ps

abbrev profile_of : List ℕ → Profile
profile_of ps = record {
  rows = record { place = 0; negated = false; test = session_case 0 } ∷ [];
  members = record { row = 0; group = 0 } ∷ [];
  criteria = with_parts 1 ps;
}

-- a request with no field and no body
abbrev plain : Request
plain = record { method = text "INVITE"; uri = text "sip:b"; fields = []; body = [] }

abbrev says : Advanced → ℕ → ℕ → ℕ → ℕ → Bool
says a outcome number examined trials =
    eqb a.outcome outcome && eqb a.number number && eqb a.examined examined && eqb a.trials trials

abbrev over : List ℕ → List ℕ → Session → Advanced
over ps fitting x = walk_with (fits fitting) (λ c. 10) x (all_bare ps)

unfoldable pub right : Example → Bool
unfolding walk_with walk
right (walks ps fitting x outcome number examined trials) = says (over ps fitting x) outcome number examined trials
right (leaves ps fitting x y) = equal (over ps fitting x).session y
right (of_parts case ps outcome number examined trials) = says (walk (starts_in case) (profile_of ps) plain) outcome number examined trials

unfoldable pub examples : List Example
examples =
    -- smallest first, whatever the order in the image; examined up to and with the answer
    walks (9 ∷ 5 ∷ 7 ∷ []) (9 ∷ 5 ∷ 7 ∷ []) starts 1 1 1 10
    ∷ walks (9 ∷ 5 ∷ 7 ∷ []) (9 ∷ 7 ∷ []) starts 1 2 2 20
    ∷ walks (9 ∷ 5 ∷ 7 ∷ []) (9 ∷ 5 ∷ 7 ∷ []) (after 5) 1 2 1 10
    ∷ walks (9 ∷ 5 ∷ 7 ∷ []) (9 ∷ 5 ∷ 7 ∷ []) (after 7) 1 0 1 10
    -- route: all above the last one
    ∷ walks (9 ∷ 5 ∷ 7 ∷ []) [] starts 2 0 3 30
    ∷ walks (9 ∷ 5 ∷ 7 ∷ []) (5 ∷ []) (after 5) 2 0 2 20
    ∷ walks (9 ∷ 5 ∷ 7 ∷ []) (9 ∷ 5 ∷ 7 ∷ []) (after 9) 2 0 0 0
    -- priority 0 is above nothing forwarded, and below priority 0 forwarded
    ∷ walks (0 ∷ []) (0 ∷ []) starts 1 0 1 10
    ∷ walks (0 ∷ []) (0 ∷ []) (after 0) 2 0 0 0
    -- a forward keeps that criterion's priority and default; a route keeps the last ones
    ∷ leaves (9 ∷ 5 ∷ 7 ∷ []) (5 ∷ []) starts (record { case = 0; state = 1; forwarded = 1; last = 5; handling = 1 })
    ∷ leaves (9 ∷ 5 ∷ 7 ∷ []) (5 ∷ []) (after 5) (record { case = 0; state = 2; forwarded = 1; last = 5; handling = 0 })
    ∷ leaves (9 ∷ 5 ∷ 7 ∷ []) [] starts (record { case = 0; state = 2; forwarded = 0; last = 0; handling = 0 })
    -- one whose part does not fit is examined, but takes no trials
    ∷ of_parts 0 (1 ∷ 0 ∷ []) 1 1 2 1
    ∷ of_parts 0 (1 ∷ 1 ∷ []) 2 0 2 0
    ∷ of_parts 2 (1 ∷ 0 ∷ 2 ∷ []) 2 0 3 2
    ∷ []

-- every example is right
pub all_right : T (every right examples)
unfolding right examples
all_right = tt

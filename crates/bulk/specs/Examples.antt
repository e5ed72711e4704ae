-- Reports in bulk, as worked examples. One list, one claim.
use Rattle.std.specs.Prelude.{Bool, true, false, ◌&&◌, List, [], ◌∷◌, ℕ, T, eqb, replicate}
use Rattle.octets.specs.Lists.{every, same}
use Rattle.session.specs.Examples.{equal}
use Rattle.session.specs.Session.{ready, waiting, released, ended, report_session}
use Rattle.session.specs.declared.Session.{Session}
use Rattle.bulk.specs.Bulk.{report_all}

-- the three lists as they are lent; the call's number, and the two lists after it
pub record Example : Type 0 where
  pub sessions : List Session
  pub reports : List ℕ
  pub refusals : List ℕ
  pub number : ℕ
  pub sessions_then : List Session
  pub refusals_then : List ℕ

-- a session of case 1 in this state that was forwarded at priority 7, with this default
abbrev of : ℕ → ℕ → Session
of state handling = record { case = 1; state = state; forwarded = 1; last = 7; handling = handling }

-- no session's record: a case above 3
abbrev no_session : Session
no_session = record { case = 4; state = waiting; forwarded = 1; last = 7; handling = 0 }

abbrev all_equal : List Session → List Session → Bool
all_equal [] [] = true
all_equal [] (y ∷ ys) = false
all_equal (x ∷ xs) [] = false
all_equal (x ∷ xs) (y ∷ ys) = equal x y && all_equal xs ys

unfoldable pub right : Example → Bool
unfolding report_all report_session
right e =
    let a = report_all e.sessions e.reports e.refusals in
    eqb a.refusal e.number && all_equal a.sessions e.sessions_then && same a.refusals e.refusals_then

-- refused, and both lists as they were
abbrev refuses : List Session → List ℕ → List ℕ → Example
refuses xs ns before = record { sessions = xs; reports = ns; refusals = before; number = 17; sessions_then = xs; refusals_then = before }

unfoldable pub examples : List Example
examples =
    -- three empty lists
    record { sessions = []; reports = []; refusals = []; number = 0; sessions_then = []; refusals_then = [] }
    -- a server that is down: by each session's own default; what was in the third list is written over
    ∷ record {
      sessions = of waiting 0 ∷ of waiting 1 ∷ [];
      reports = 1 ∷ 1 ∷ [];
      refusals = 99 ∷ 98 ∷ [];
      number = 0;
      sessions_then = of ready 0 ∷ of released 1 ∷ [];
      refusals_then = 0 ∷ 0 ∷ [];
    }
    -- single refusals, 10 and 8, in the list: those sessions stay, and later ones go on
    ∷ record {
      sessions = no_session ∷ of ready 0 ∷ of waiting 0 ∷ of waiting 1 ∷ [];
      reports = 0 ∷ 2 ∷ 3 ∷ 2 ∷ [];
      refusals = 5 ∷ 5 ∷ 5 ∷ 5 ∷ [];
      number = 0;
      sessions_then = no_session ∷ of ready 0 ∷ of waiting 0 ∷ of ended 1 ∷ [];
      refusals_then = 10 ∷ 10 ∷ 8 ∷ 0 ∷ [];
    }
    -- a report of 256 is above 2
    ∷ record { sessions = of waiting 0 ∷ []; reports = 256 ∷ []; refusals = 0 ∷ []; number = 0; sessions_then = of waiting 0 ∷ []; refusals_then = 8 ∷ [] }
    -- "lengths that differ": the reports', the refusals', the sessions'
    ∷ refuses (of waiting 0 ∷ []) [] (7 ∷ [])
    ∷ refuses (of waiting 0 ∷ []) (1 ∷ []) []
    ∷ refuses (of waiting 0 ∷ []) (1 ∷ []) (7 ∷ 7 ∷ [])
    ∷ refuses [] (1 ∷ []) (7 ∷ [])
    -- "or exceed 256"
    ∷ refuses (replicate 257 (of waiting 0)) (replicate 257 1) (replicate 257 7)
    ∷ record {
      sessions = replicate 256 (of waiting 1);
      reports = replicate 256 1;
      refusals = replicate 256 7;
      number = 0;
      sessions_then = replicate 256 (of released 1);
      refusals_then = replicate 256 0;
    }
    ∷ []

-- every example is right
pub all_right : T (every right examples)
unfolding right examples
all_right = tt

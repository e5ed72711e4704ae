-- Sessions opened, reported to, and refused, as worked examples. One list, one claim.
use Rattle.std.specs.Prelude.{Bool, true, false, ◌&&◌, ℕ, List, [], ◌∷◌, T, eqb}
use Rattle.octets.specs.Lists.{every, agree}
use Rattle.session.specs.Session.{ready, waiting, finished, released, ended, possible, open_session, report_session}
use Rattle.session.specs.declared.Session.{Session}

-- case, state, whether anything was forwarded, last priority, its default
abbrev of : ℕ → ℕ → ℕ → ℕ → ℕ → Session
of case state forwarded last handling = record { case = case; state = state; forwarded = forwarded; last = last; handling = handling }

-- the case that is asked for, the refusal and the session; the session and the report, the refusal and the session after it; a
-- record, and whether a session can have it
pub data Example : Type 0 where
  opens : ℕ → ℕ → Session → Example
  reports : Session → ℕ → ℕ → Session → Example
  can_be : Session → Bool → Example

-- equal in all five numbers
abbrev pub equal : Session → Session → Bool
equal x y =
    eqb x.case y.case && eqb x.state y.state && eqb x.forwarded y.forwarded && eqb x.last y.last && eqb x.handling y.handling

unfoldable pub right : Example → Bool
unfolding possible open_session report_session
right (opens case refusal x) = let a = open_session case in eqb a.refusal refusal && equal a.session x
right (reports x news refusal y) = let a = report_session x news in eqb a.refusal refusal && equal a.session y
right (can_be x expected) = agree expected (possible x)

-- a report that is refused leaves the session as it went in
abbrev refuses : Session → ℕ → ℕ → Example
refuses x news refusal = reports x news refusal x

unfoldable pub examples : List Example
examples =
    -- "ready, nothing forwarded"; "a refused opening gives a finished session of case 0"
    opens 0 0 (of 0 ready 0 0 0)
    ∷ opens 3 0 (of 3 ready 0 0 0)
    ∷ opens 4 8 (of 0 finished 0 0 0)
    ∷ can_be (of 0 finished 0 0 0) true
    -- 0 returned, ready again, whatever the default
    ∷ reports (of 1 waiting 1 7 0) 0 0 (of 1 ready 1 7 0)
    ∷ reports (of 1 waiting 1 7 1) 0 0 (of 1 ready 1 7 1)
    -- 1 unreachable, ready if the default is continued, else released
    ∷ reports (of 1 waiting 1 7 0) 1 0 (of 1 ready 1 7 0)
    ∷ reports (of 1 waiting 1 7 1) 1 0 (of 1 released 1 7 1)
    -- 2 final response, ended
    ∷ reports (of 1 waiting 1 7 0) 2 0 (of 1 ended 1 7 0)
    ∷ reports (of 1 waiting 1 7 1) 2 0 (of 1 ended 1 7 1)
    -- a report above 2, but 10 before 8
    ∷ refuses (of 1 waiting 1 7 0) 3 8
    ∷ refuses (of 1 ready 1 7 0) 3 10
    -- only when waiting
    ∷ refuses (of 1 ready 0 0 0) 0 10
    ∷ refuses (of 1 ready 1 7 0) 0 10
    ∷ refuses (of 1 finished 1 7 0) 1 10
    ∷ refuses (of 1 released 1 7 1) 1 10
    ∷ refuses (of 1 ended 1 7 1) 2 10
    -- waiting, but no session's record: a case above 3, nothing forwarded, a default that is neither 0 nor 1
    ∷ refuses (of 4 waiting 1 7 0) 0 10
    ∷ refuses (of 1 waiting 0 0 0) 0 10
    ∷ refuses (of 1 waiting 1 7 2) 1 10
    -- "last priority if any, and that criterion's default (0 and 0 if none)"
    ∷ can_be (of 0 ready 0 7 0) false
    ∷ can_be (of 0 ready 0 0 1) false
    ∷ can_be (of 0 ready 1 0 0) true
    ∷ can_be (of 0 ready 1 7 1) true
    ∷ can_be (of 0 ready 2 7 1) false
    ∷ can_be (of 0 ready 1 7 2) false
    -- a priority has 4 bytes
    ∷ can_be (of 0 ready 1 4294967295 0) true
    ∷ can_be (of 0 ready 1 4294967296 0) false
    -- a session that was routed after a forward keeps both numbers
    ∷ can_be (of 0 finished 1 7 1) true
    -- released only if the default is terminated; five states; four cases
    ∷ can_be (of 0 released 1 7 1) true
    ∷ can_be (of 0 released 1 7 0) false
    ∷ can_be (of 0 released 0 0 0) false
    ∷ can_be (of 0 ended 1 7 0) true
    ∷ can_be (of 0 ended 0 0 0) false
    ∷ can_be (of 0 5 1 7 1) false
    ∷ can_be (of 3 ready 0 0 0) true
    ∷ can_be (of 4 ready 0 0 0) false
    ∷ []

-- every example is right
pub all_right : T (every right examples)
unfolding right examples
all_right = tt

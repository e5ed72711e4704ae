-- "The session": its record, which records a session can have, opening and report.
use Rattle.std.specs.Prelude.{Bool, not, ◌&&◌, ◌||◌, ◌≡◌, ℕ, leb, ltb, eqb}
use Rattle.octets.specs.Lists.{pick}
use Rattle.session.specs.declared.Session.{Session}
use Rattle.session.specs.declared.Opened.{Opened}
use Rattle.session.specs.declared.Reported.{Reported}

-- ---- the states, by number

abbrev pub ready : ℕ
ready = 0

abbrev pub waiting : ℕ
waiting = 1

abbrev pub finished : ℕ
finished = 2

abbrev pub released : ℕ
released = 3

abbrev pub ended : ℕ
ended = 4

-- ---- "A record that no session can have is refused with 10."

-- nothing forwarded: "0 and 0 if none", and only ready or finished
abbrev pub nothing_yet : Session → Bool
nothing_yet x = eqb x.last 0 && eqb x.handling 0 && (eqb x.state ready || eqb x.state finished)

-- something forwarded: a priority of 4 bytes, a default of 0 or 1, any state, but released only if the default is terminated
abbrev pub some_yet : Session → Bool
some_yet x = ltb x.last 4294967296 && leb x.handling 1 && leb x.state 4 && (not (eqb x.state released) || eqb x.handling 1)

-- forwarded is 0 or 1
abbrev pub by_forwarded : ℕ → Session → Bool
by_forwarded f x = pick (eqb f 0) (nothing_yet x) (eqb f 1 && some_yet x)

-- a case 0..3, and either of these
unfoldable pub possible : Session → Bool
possible x = leb x.case 3 && by_forwarded x.forwarded x

-- ---- opening

-- "ready, nothing forwarded"
abbrev pub fresh : ℕ → Session
fresh case = record { case = case; state = ready; forwarded = 0; last = 0; handling = 0 }

-- "A refused opening gives a finished session of case 0."
abbrev pub unopened : Session
unopened = record { case = 0; state = finished; forwarded = 0; last = 0; handling = 0 }

-- "Opened with a case"; number 8 for a case above 3
unfoldable pub open_session : ℕ → Opened
open_session case = pick (leb case 3) (record { refusal = 0; session = fresh case }) (record { refusal = 8; session = unopened })

-- ---- a forward

-- "forward .., session waiting": it holds that criterion's priority and default
abbrev pub forwarded_to : Session → ℕ → ℕ → Session
forwarded_to x priority handling = record { case = x.case; state = waiting; forwarded = 1; last = priority; handling = handling }

-- ---- report

-- only the state changes
abbrev pub with_state : Session → ℕ → Session
with_state x s = record { case = x.case; state = s; forwarded = x.forwarded; last = x.last; handling = x.handling }

-- the session goes on in this state
abbrev pub goes : Session → ℕ → Reported
goes x s = record { refusal = 0; session = with_state x s }

-- a refusal leaves the session as it came
abbrev pub stays : Session → ℕ → Reported
stays x n = record { refusal = n; session = x }

-- "0 returned, ready again; 1 unreachable, ready if the default is continued, else released; 2 final response, ended"
abbrev pub after_report : ℕ → Session → Reported
after_report n x =
    pick (eqb n 0) (goes x ready)
    (pick (eqb n 1) (goes x (pick (eqb x.handling 0) ready released))
    (pick (eqb n 2) (goes x ended)
    (stays x 8)))

-- "Report, only when waiting"
unfoldable pub report_session : Session → ℕ → Reported
unfolding possible
report_session x n = pick (possible x && eqb x.state waiting) (after_report n x) (stays x 10)

-- ---- what the contracts cite

-- opening with a case answers a
pub record Opens (case : ℕ) (a : Opened) : Type 0 where
  pub answer : a ≡ open_session case

-- the report n on the session x answers a
pub record Reports (x : Session) (n : ℕ) (a : Reported) : Type 0 where
  pub answer : a ≡ report_session x n

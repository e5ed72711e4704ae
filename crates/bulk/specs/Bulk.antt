-- "Reports in bulk" (change request 8): what one call leaves in a list of sessions and in a list of refusal numbers.
use Rattle.std.specs.Prelude.{Bool, ◌&&◌, List, [], ◌∷◌, map, ◌≡◌, ℕ, eqb, leb, length}
use Rattle.octets.specs.Lists.{pick}
use Rattle.session.specs.Session.{report_session}
use Rattle.session.specs.declared.Session.{Session}
use Rattle.session.specs.declared.Reported.{Reported}

-- "a lent list of up to 256 sessions, a list of reports and a list for the refusal numbers, all of equal length"
abbrev pub fits : ℕ → ℕ → ℕ → Bool
fits sessions reports refusals = eqb sessions reports && eqb sessions refusals && leb sessions 256

-- the single call's answer for each session and its report
abbrev pub each : List Session → List ℕ → List Reported
each [] ns = []
each (x ∷ xs) [] = []
each (x ∷ xs) (n ∷ ns) = report_session x n ∷ each xs ns

-- the call's own number, and the two lists after it
pub record Bulk : Type 0 where
  pub refusal : ℕ
  pub sessions : List Session
  pub refusals : List ℕ

-- "Each session ends as the single call leaves it ..; the numbers are the single call's, 0 for none."
abbrev pub reported : List Reported → Bulk
reported answers = record { refusal = 0; sessions = map (λ a. a.session) answers; refusals = map (λ a. a.refusal) answers }

-- "17 for lengths that differ or exceed 256, and then no list is touched"
unfoldable pub report_all : List Session → List ℕ → List ℕ → Bulk
report_all xs ns before =
    pick (fits (length xs) (length ns) (length before))
    (reported (each xs ns))
    (record { refusal = 17; sessions = xs; refusals = before })

-- ---- what the contracts cite

-- the call answers number, and leaves these two lists
pub record ReportsTo (xs : List Session) (ns before : List ℕ) (number : ℕ) (sessions : List Session) (refusals : List ℕ) : Type 0 where
  pub number_is : number ≡ (report_all xs ns before).refusal
  pub sessions_is : sessions ≡ (report_all xs ns before).sessions
  pub refusals_is : refusals ≡ (report_all xs ns before).refusals

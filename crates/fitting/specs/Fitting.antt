-- When a trigger and a criterion fit, and the trials they take (document 01, "When a row, a trigger and a criterion fit").
use Rattle.std.specs.Prelude.{Bool, true, false, not, ◌&&◌, ◌||◌, ℕ, zero, suc, ◌+◌, List, leb, ltb, eqb}
use Rattle.std.proofs.Math.Option.{Option, none, some}
use Rattle.std.proofs.Math.ListN.{get_elem?}
use Rattle.octets.specs.Lists.{pick, every, some_of, only}
use Rattle.profile.specs.Image.{Row, Member, Criterion, Profile}
use Rattle.request.specs.Request.{Request}
use Rattle.rows.specs.Rows.{row_fits, row_trials}
use Rattle.rows.specs.declared.Given.{Given}

-- ---- a trigger

-- r is one of so many rows from the first on
abbrev pub in_rows : ℕ → ℕ → ℕ → Bool
in_rows first count r = leb first r && ltb r (first + count)

-- the memberships of the trigger's rows: "Groups belong to one trigger only"
unfoldable pub memberships : Profile → Criterion → List Member
memberships p c = only (λ m. in_rows c.first c.count m.row) p.members

-- the row of that number (an accepted image names no other)
abbrev pub fits_at : Request → Given → Option Row → Bool
fits_at q g none = false
fits_at q g (some r) = row_fits q g r

-- the row of a membership fits
abbrev pub member_fits : Request → Given → Profile → Member → Bool
member_fits q g p m = fits_at q g (get_elem? p.rows m.row)

-- "CNF: in every group of the trigger's rows at least one row fits."
abbrev pub cnf : (Member → Bool) → List Member → Bool
cnf fits ms = every (λ m. some_of (λ n. eqb n.group m.group && fits n) ms) ms

-- "DNF: in some group all do."
abbrev pub dnf : (Member → Bool) → List Member → Bool
dnf fits ms = some_of (λ m. every (λ n. not (eqb n.group m.group) || fits n) ms) ms

-- "form (0 DNF, 1 CNF, 2 no trigger)"
abbrev pub by_form : ℕ → (Member → Bool) → List Member → Bool
by_form f fits ms = pick (eqb f 0) (dnf fits ms) (pick (eqb f 1) (cnf fits ms) true)

-- a criterion's trigger; one with none fits
unfoldable pub trigger_fits : Request → Given → Profile → Criterion → Bool
unfolding row_fits memberships
trigger_fits q g p c = by_form c.form (member_fits q g p) (memberships p c)

-- ---- a criterion

-- "Part 0 fits cases 0 and 1, part 1 cases 2 and 3, absent all."
abbrev pub part_fits : ℕ → ℕ → Bool
part_fits part case = pick (eqb part 0) (leb case 1) (pick (eqb part 1) (leb 2 case && leb case 3) true)

-- its part and its trigger
unfoldable pub criterion_fits : Request → Given → Profile → Criterion → Bool
unfolding trigger_fits
criterion_fits q g p c = part_fits c.part g.case && trigger_fits q g p c

-- ---- trials

-- of the row of that number
abbrev pub trials_at : Request → Option Row → ℕ
trials_at q none = 0
trials_at q (some r) = row_trials q r

-- "every row once with no skipping": so many rows from the first on
unfoldable pub trials_from : Request → List Row → ℕ → ℕ → ℕ
unfolding row_trials
trials_from q rows first zero = 0
trials_from q rows first (suc n) = trials_at q (get_elem? rows first) + trials_from q rows (suc first) n

-- "over examined criteria whose part fits"
unfoldable pub criterion_trials : Request → Given → Profile → Criterion → ℕ
unfolding trials_from
criterion_trials q g p c = pick (part_fits c.part g.case) (trials_from q p.rows c.first c.count) 0

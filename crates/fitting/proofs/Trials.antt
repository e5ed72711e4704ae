-- The trials of a criterion, and of all criteria of an accepted image: below 2^32.
use mathlib.Core.Option.{Option, none, some}
use Prim.Native.Nat.{ℕ, zero, suc, ◌*◌, ◌^◌, ◌≤◌, ◌<◌, zero-le}
use native.Mathlib.Omega.{arith}
use mathlib.Core.List.{List, [], ◌∷◌}
use lib.ListN.{length, get_elem?}
use Rattle.octets.specs.Lists.{total}
use Rattle.octets.proofs.Tests.{either}
use Rattle.octets.proofs.Each.{Each}
use Rattle.profile.specs.Image.{Row, Criterion, Profile}
use Rattle.profile.proofs.Accepted.{Fine, Sound}
use Rattle.request.specs.Request.{Request}
use Rattle.request.proofs.Few.{Small}
use Rattle.rows.specs.declared.Given.{Given}
use Rattle.trials.specs.Inner.Trying.{most_trials}
use Rattle.rows.proofs.Trials.{row_le}
use Rattle.fitting.specs.Fitting.{part_fits, trials_at, trials_from, criterion_trials}

at_le : (q : Request) → Small q → (o : Option Row) → trials_at q o ≤ most_trials
at_le q h none = zero-le
at_le q h (some r) = row_le q h r

rows_le : (q : Request) → Small q → (rows : List Row) (first n : ℕ) → trials_from q rows first n ≤ n * most_trials
unfolding trials_from
rows_le q h rows first zero = zero-le
rows_le q h rows first (suc n) = omega (arith, at_le q h (get_elem? rows first), rows_le q h rows (suc first) n)

pub criterion_le : (q : Request) → Small q → (g : Given) (p : Profile) (c : Criterion) → c.count ≤ 32 → criterion_trials q g p c ≤ 32 * most_trials
unfolding criterion_trials
criterion_le q h g p c short =
    either (λ (k : ℕ). k ≤ 32 * most_trials) (part_fits c.part g.case) (trials_from q p.rows c.first c.count) 0
    (omega (arith, rows_le q h p.rows c.first c.count, short)) zero-le

criteria_le : (s : List ℕ) (n : ℕ) (q : Request) → Small q → (g : Given) (p : Profile) (cs : List Criterion) → Each (Fine s n) cs
    → total (criterion_trials q g p) cs ≤ length cs * (32 * most_trials)
criteria_le s n q h g p [] f = zero-le
criteria_le s n q h g p (c ∷ cs) f = omega (arith, criterion_le q h g p c f.0.short, criteria_le s n q h g p cs f.1)

-- "It stays below 2^32."
pub all_below : (s : List ℕ) (p : Profile) → Sound s p → (q : Request) → Small q → (g : Given) → total (criterion_trials q g p) p.criteria < 2 ^ 32
all_below s p k q h g = omega (arith, criteria_le s (length p.rows) q h g p p.criteria k.fine, k.few)

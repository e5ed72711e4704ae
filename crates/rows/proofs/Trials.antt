-- The trials of a row stay within what a readable request's length allows.
use mathlib.Core.Bool.{Bool, true, false}
use mathlib.Core.Option.{Option, none, some}
use Prim.Native.Nat.{ℕ, ◌≤◌, zero-le}
use native.Mathlib.Nat.{le_refl, le_trans}
use native.Mathlib.Omega.{arith}
use lib.ListN.{length}
use Rattle.octets.proofs.Kept.{total_mono, total_const}
use Rattle.basic.specs.Pattern.{Pattern}
use Rattle.pattern.specs.Matching.{written_matches, name_matches}
use Rattle.profile.specs.Image.{Test, request_uri, method, header, session_case, description, Row}
use Rattle.request.specs.Request.{Request, request_lines}
use Rattle.request.proofs.Few.{weight, Small, body_lines_few}
use Rattle.trials.specs.Inner.Trying.{most_trials}
use Rattle.rows.specs.Rows.{content_trials, field_trials, line_trials, test_trials, row_trials}

content_le : (c : Option Pattern) (b : Bool) (n : ℕ) → content_trials c b n ≤ n
content_le none b n = zero-le
content_le (some c) true n = le_refl n
content_le (some c) false n = zero-le

test_le : (q : Request) → Small q → (t : Test) → test_trials q t ≤ most_trials
unfolding test_trials
test_le q h (request_uri u) = omega arith
test_le q h (method m set) = omega arith
test_le q h (header p c) =
    le_trans
    (total_mono (field_trials p c) weight
    (λ f. omega (arith, content_le c (name_matches p f.name) (length f.values))) q.fields)
    h.fields_le
test_le q h (session_case k) = omega arith
test_le q h (description p c) =
    omega (
      arith,
      total_mono (line_trials p c) (λ l. 2)
          (λ l. omega (arith, content_le c (written_matches p l.type) 1)) (request_lines q),
      total_const 2 (request_lines q),
      body_lines_few q h,
    )

-- a row's trials
pub row_le : (q : Request) → Small q → (r : Row) → row_trials q r ≤ most_trials
unfolding row_trials
row_le q h r = test_le q h r.test

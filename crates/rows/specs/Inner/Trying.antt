-- What the contracts of private functions say: verdicts on rows, by the patterns' bytes.
use Rattle.std.specs.Prelude.{Bool, List, ℕ}
use Rattle.octets.specs.Lists.{pick}
use Rattle.profile.specs.Image.{Test}
use Rattle.request.specs.Request.{request_lines, Request}
use Rattle.trials.specs.Inner.Trying.{field_row, line_row, all_rows}
use Rattle.trials.specs.declared.Verdict.{Verdict}
use Rattle.rows.specs.Rows.{test_fits, test_trials}
use Rattle.rows.specs.declared.Given.{Given}

-- a row that takes one trial
abbrev pub one_trial : Bool → Verdict
one_trial b = record { fits = b; trials = 1 }

-- a row with patterns, over the body's lines or else the head's fields
unfoldable pub patterns_row : Request → Bool → List ℕ → Bool → List ℕ → Verdict
unfolding line_row field_row request_lines
patterns_row q in_body h with c = pick in_body (all_rows (line_row h with c) (request_lines q)) (all_rows (field_row h with c) q.fields)

-- before negation
unfoldable pub test_row : Request → Given → Test → Verdict
unfolding test_fits test_trials
test_row q g t = record { fits = test_fits q g t; trials = test_trials q t }

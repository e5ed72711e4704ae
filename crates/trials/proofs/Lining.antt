-- The loop over the lines of a body.
use mathlib.Core.Bool.{Bool, false, ◌||◌}
use mathlib.Core.Path.{◌≡◌, ap, subst}
use mathlib.Core.List.{List, [], ◌∷◌}
use Prim.Native.Nat.{ℕ, ◌+◌, ◌≤◌, ◌<◌}
use native.Mathlib.Omega.{arith}
use lib.ListN.{length}
use Rattle.contents.specs.Body.{Line, session_lines}
use Rattle.contents.specs.Inner.Places.{session_from}
use Rattle.contents.specs.Inner.Walks.{FieldLineAt, NextField}
use Rattle.contents.specs.declared.FieldLine.{FieldLine}
use Rattle.contents.proofs.BodyLines.{session_start}
use Rattle.contents.proofs.Walks.{line_here, line_none}
use Rattle.std.specs.Prelude.{Option, Some, None}
use Rattle.contents.proofs.Small.{session_lines_length}
use Rattle.trials.specs.Inner.Trying.{item_row, line_row, all_rows, most_trials}
use Rattle.trials.specs.declared.Verdict.{Verdict}
use Rattle.trials.proofs.Items.{lines_le}
use Rattle.trials.proofs.Sweep.{Swept, swept_first, swept_next, swept_end}

-- the lines before p are tried
pub record Lining (h : List ℕ) (with : Bool) (c body : List ℕ) (p : ℕ) (fits : Bool) (trials : ℕ) : Type 0 where
  pub sweep : Swept (λ l. (line_row h with c l).fits) (λ l. (line_row h with c l).trials) (session_from body p) fits trials
      (all_rows (line_row h with c) (session_lines body))

module _ (h : List ℕ) (with : Bool) (c body : List ℕ) where
  pub lining_first : Lining h with c body 0 false 0
  lining_first = record {
    sweep =
        subst
        (λ (ls : List Line). Swept (λ l. (line_row h with c l).fits) (λ l. (line_row h with c l).trials) ls false 0 (all_rows (line_row h with c) (session_lines body)))
        (session_start body)
        (swept_first (λ l. (line_row h with c l).fits) (λ l. (line_row h with c l).trials) (session_lines body));
  }

  pub lining_few : (p : ℕ) (fits : Bool) (trials : ℕ) → Lining h with c body p fits trials → length body ≤ 65535 → trials ≤ most_trials
  lining_few p fits trials w short =
      omega (arith, w.sweep.tried, lines_le h with c (session_lines body), session_lines_length body)

module _ (body : List ℕ) (p : ℕ) (x : Option FieldLine) (says : NextField body p x) where
  pub lining_end : x ≡ None → (h : List ℕ) (with : Bool) (c : List ℕ) (fits : Bool) (trials : ℕ) → Lining h with c body p fits trials
      → ◌≡◌ {A = Verdict} (record { fits = fits; trials = trials }) (all_rows (line_row h with c) (session_lines body))
  lining_end e h with c fits trials w =
      swept_end (λ l. (line_row h with c l).fits) (λ l. (line_row h with c l).trials) (session_from body p) fits trials
      (all_rows (line_row h with c) (session_lines body)) w.sweep (line_none body p x says e)

  module _ (l : FieldLine) (e : x ≡ Some l) where
    here : FieldLineAt body p l
    here = line_here body p x says l e

    module _ (h : List ℕ) (with : Bool) (c : List ℕ) (fits : Bool) (trials : ℕ) (w : Lining h with c body p fits trials) (r : Verdict)
        (er : r ≡ item_row false h with c l.kind.now (l.value.now ∷ [])) where
      row_is : r ≡ line_row h with c (record { type = l.kind.now; value = l.value.now })
      unfolding line_row
      row_is = er

      pub lining_next : Lining h with c body l.next (fits || r.fits) (trials + r.trials)
      lining_next = record {
        sweep =
            swept_next (λ l. (line_row h with c l).fits) (λ l. (line_row h with c l).trials) (session_from body p) fits trials
            (all_rows (line_row h with c) (session_lines body)) w.sweep
            (record { type = l.kind.now; value = l.value.now }) (session_from body l.next) r.fits r.trials here.list
            (ap (λ (u : Verdict). u.fits) row_is) (ap (λ (u : Verdict). u.trials) row_is);
      }

      pub lining_fit : length body ≤ 65535 → trials + r.trials < 4294967296
      lining_fit short = omega (arith, lining_few h with c body l.next (fits || r.fits) (trials + r.trials) lining_next short)

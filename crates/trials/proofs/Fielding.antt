-- The loop over the fields.
use mathlib.Core.Bool.{Bool, true, false, ◌||◌}
use mathlib.Core.Path.{◌≡◌, ap, ◌∙◌}
use mathlib.Core.List.{List}
use Prim.Native.Nat.{ℕ, ◌+◌, ◌≤◌, ◌<◌}
use native.Mathlib.Omega.{arith}
use lib.ListN.{length, drop, drop_of_length-le}
use Rattle.contents.specs.Names.{name_as_matched}
use Rattle.contents.specs.Values.{reduced, values_of}
use Rattle.request.specs.Inner.Places.{request_of, Placed, FieldIs}
use Rattle.request.specs.Request.{Field}
use Rattle.trials.specs.Inner.Trying.{item_row, field_row, all_rows, most_trials}
use Rattle.request.specs.declared.Places.{Places}
use Rattle.trials.specs.declared.Verdict.{Verdict}
use Rattle.trials.proofs.Items.{fields_le}
use Rattle.request.proofs.Readings.{request_of_small, fields_many}
use Rattle.trials.proofs.Sweep.{Swept, swept_first, swept_next, swept_end}

-- the fields before i are tried
pub record Fielding (h : List ℕ) (with : Bool) (c s : List ℕ) (i : ℕ) (fits : Bool) (trials : ℕ) : Type 0 where
  pub sweep : Swept (λ f. (field_row h with c f).fits) (λ f. (field_row h with c f).trials) (drop i (request_of s).fields) fits trials
      (all_rows (field_row h with c) (request_of s).fields)

module _ (h : List ℕ) (with : Bool) (c s : List ℕ) where
  pub fielding_first : Fielding h with c s 0 false 0
  fielding_first = record { sweep = swept_first (λ f. (field_row h with c f).fits) (λ f. (field_row h with c f).trials) (request_of s).fields }

  pub fielding_few : (i : ℕ) (fits : Bool) (trials : ℕ) → Fielding h with c s i fits trials → trials ≤ most_trials
  fielding_few i fits trials w =
      omega (arith, w.sweep.tried, fields_le h with c (request_of s).fields, (request_of_small s).fields_le)

module _ (s starts colons : List ℕ) (p : Places) (k : Placed s starts colons p) where
  pub fielding_end : (h : List ℕ) (with : Bool) (c : List ℕ) (i : ℕ) (fits : Bool) (trials : ℕ) → Fielding h with c s i fits trials → p.fields ≤ i
      → ◌≡◌ {A = Verdict} (record { fits = fits; trials = trials }) (all_rows (field_row h with c) (request_of s).fields)
  fielding_end h with c i fits trials w past =
      let all : length (request_of s).fields ≤ i = omega (arith, fields_many s starts colons p k) in
      swept_end (λ f. (field_row h with c f).fits) (λ f. (field_row h with c f).trials) (drop i (request_of s).fields) fits trials
      (all_rows (field_row h with c) (request_of s).fields) w.sweep (drop_of_length-le (request_of s).fields all)

-- field i of the request, tried
module _ (s : List ℕ) (i : ℕ) (name value : List ℕ) (k : FieldIs s i name value) (matched : List ℕ) (en : matched ≡ name_as_matched name)
    (h : List ℕ) (with : Bool) (c : List ℕ) (fits : Bool) (trials : ℕ) (w : Fielding h with c s i fits trials) (r : Verdict)
    (er : r ≡ item_row true h with c matched (values_of matched (reduced value))) where
  abbrev this : List ℕ → Field
  this n = record { name = n; values = values_of n (reduced value) }

  row_is : r ≡ field_row h with c (this (name_as_matched name))
  unfolding field_row
  row_is = er ∙ ap (λ (n : List ℕ). field_row h with c (this n)) en

  pub fielding_next : Fielding h with c s (i + 1) (fits || r.fits) (trials + r.trials)
  fielding_next = record {
    sweep =
        swept_next (λ f. (field_row h with c f).fits) (λ f. (field_row h with c f).trials) (drop i (request_of s).fields) fits trials
        (all_rows (field_row h with c) (request_of s).fields) w.sweep (this (name_as_matched name))
        (drop (i + 1) (request_of s).fields) r.fits r.trials k.list
        (ap (λ (u : Verdict). u.fits) row_is) (ap (λ (u : Verdict). u.trials) row_is);
  }

  pub fielding_fit : trials + r.trials < 4294967296
  fielding_fit = omega (arith, fielding_few h with c s (i + 1) (fits || r.fits) (trials + r.trials) fielding_next)

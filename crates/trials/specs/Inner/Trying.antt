-- Verdicts on values, items (fields or lines) and lists of them, by the patterns' bytes.
use Rattle.std.specs.Prelude.{Bool, true, false, not, ◌&&◌, ◌||◌, List, [], ◌∷◌, ℕ, ◌+◌, length}
use Rattle.octets.specs.Lists.{pick, some_of, total}
use Rattle.pattern.specs.Inner.Answers.{meets_text}
use Rattle.contents.specs.Body.{Line}
use Rattle.request.specs.Request.{Field}
use Rattle.trials.specs.declared.Verdict.{Verdict}

-- some value matches; a trial for each
unfoldable pub values_row : List ℕ → List (List ℕ) → Verdict
unfolding meets_text
values_row c vs = record { fits = some_of (meets_text false c) vs; trials = length vs }

-- an item whose name matches, its values if Content is present; one trial for the name
abbrev pub named_row : Bool → Bool → Verdict → Verdict
named_row named with v = record { fits = named && (not with || v.fits); trials = 1 + pick with (pick named v.trials 0) 0 }

-- an item by its name and its values; fold: the name is a header name
unfoldable pub item_row : Bool → List ℕ → Bool → List ℕ → List ℕ → List (List ℕ) → Verdict
unfolding values_row meets_text
item_row fold h with c name vs = named_row (meets_text fold h name) with (values_row c vs)

unfoldable pub field_row : List ℕ → Bool → List ℕ → Field → Verdict
unfolding item_row
field_row h with c f = item_row true h with c f.name f.values

unfoldable pub line_row : List ℕ → Bool → List ℕ → Line → Verdict
unfolding item_row
line_row h with c l = item_row false h with c l.type (l.value ∷ [])

-- some item fits; the trials of all
abbrev pub all_rows : {A : Type 0} → (A → Verdict) → List A → Verdict
all_rows f l = record { fits = some_of (λ a. (f a).fits) l; trials = total (λ a. (f a).trials) l }

-- the trials of a row, at most: a readable request has no more fields with their values, and no more lines
abbrev pub most_trials : ℕ
most_trials = 262143

-- Verdicts by the patterns' bytes are verdicts by the patterns, where the bytes are patterns.
use mathlib.Core.Bool.{Bool, true, false, not}
use mathlib.Core.Option.{Option, none, some}
use mathlib.Core.Path.{◌≡◌, refl, ap}
use mathlib.Core.List.{List, [], ◌∷◌}
use Prim.Native.Nat.{ℕ}
use native.Mathlib.Omega.{arith}
use lib.ListN.{length}
use Rattle.octets.specs.Lists.{pick, some_of, total}
use Rattle.basic.specs.Reading.{read_pattern}
use Rattle.basic.specs.Inner.Judged.{was_read, is_pattern}
use Rattle.pattern.specs.Inner.Answers.{read_matches, meets_text}
use Rattle.basic.specs.Pattern.{Pattern}
use Rattle.profile.specs.Inner.Decoded.{or_empty}
use Rattle.contents.specs.Body.{Line}
use Rattle.request.specs.Request.{Field}
use Rattle.rows.specs.Rows.{field_fits, line_fits, field_trials, line_trials}
use Rattle.trials.specs.Inner.Trying.{values_row, named_row, item_row, field_row, line_row, all_rows}
use Rattle.trials.specs.declared.Verdict.{Verdict}

-- bytes that are a pattern are read as one
pub read_some : (t : List ℕ) → is_pattern t ≡ true → read_pattern t ≡ some (or_empty (read_pattern t))
unfolding is_pattern
read_some t e = go (read_pattern t) e
  where
    go : (o : Option Pattern) → was_read o ≡ true → o ≡ some (or_empty o)
    go none h = let z : ◌≡◌ {A = ℕ} 0 1 = cc in absurd (omega arith)
    go (some p) h = refl

-- an item, by what was read of the patterns' bytes
abbrev row_by : Bool → Option Pattern → Bool → Option Pattern → List ℕ → List (List ℕ) → Verdict
row_by fold o with oc name vs = named_row (read_matches fold o name) with (record { fits = some_of (read_matches false oc) vs; trials = length vs })

-- Content is present unless `absent` says not
module _ (h c : List ℕ) (ph pc : Pattern) (eh : read_pattern h ≡ some ph) where
  pub fields_as : (absent : Bool) → (absent ≡ false → read_pattern c ≡ some pc) → (fs : List Field)
      → ◌≡◌ {A = Verdict} (all_rows (field_row h (not absent) c) fs)
      (record { fits = some_of (field_fits ph (pick absent none (some pc))) fs; trials = total (field_trials ph (pick absent none (some pc))) fs })
  unfolding field_row item_row values_row meets_text
  fields_as true ec fs = ap (λ (o : Option Pattern). all_rows (λ (f : Field). row_by true o false (read_pattern c) f.name f.values) fs) eh
  fields_as false ec fs = (λ i. all_rows (λ (f : Field). row_by true (eh i) true (ec refl i) f.name f.values) fs)

  pub lines_as : (absent : Bool) → (absent ≡ false → read_pattern c ≡ some pc) → (ls : List Line)
      → ◌≡◌ {A = Verdict} (all_rows (line_row h (not absent) c) ls)
      (record { fits = some_of (line_fits ph (pick absent none (some pc))) ls; trials = total (line_trials ph (pick absent none (some pc))) ls })
  unfolding line_row item_row values_row meets_text
  lines_as true ec ls = ap (λ (o : Option Pattern). all_rows (λ (l : Line). row_by false o false (read_pattern c) l.type (l.value ∷ [])) ls) eh
  lines_as false ec ls = (λ i. all_rows (λ (l : Line). row_by false (eh i) true (ec refl i) l.type (l.value ∷ [])) ls)

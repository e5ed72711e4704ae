-- What preparing the patterns of a row promises, and the trial of a row.
use Rattle.std.specs.Prelude.{◌≡◌, not, false, ℕ, ◌≤◌, List, eqb, Option, is_some, IfSome}
use Rattle.profile.specs.Image as image
use Rattle.profile.specs.Image.{Stored}
use Rattle.profile.specs.Inner.Decoded.{string_of}
use Rattle.entries.specs.declared.Row.{Row}
use Rattle.pattern.specs.declared.prepared.Prepared.{Prepared}
use Rattle.trials.specs.Inner.Patterns.{content_bytes}
use Rattle.trials.specs.declared.row_patterns.RowPatterns.{RowPatterns}
use Rattle.request.specs.Request.{Request}
use Rattle.trials.specs.Inner.Trying.{most_trials}
use Rattle.rows.specs.Rows.{row_fits, row_trials}
use Rattle.rows.specs.declared.Given.{Given}
use Rattle.trials.specs.declared.Verdict.{Verdict}

-- ---- the patterns of a row

-- its Content, where it names one, is the string that is named, as written
pub record ContentOf (strs : List Stored) (second : ℕ) (o : Option Prepared) : Type 0 where
  pub present : is_some o ≡ not (eqb second 65535)
  pub named : (second ≡ 65535 → ⊥) → content_bytes o ≡ (string_of strs second).bytes
  pub written : IfSome o (λ p. p.for_names ≡ false)

-- its Header or Line is the string that is named; the Header of a SIPHeader is for names
pub record PatternsOf (strs : List Stored) (r : Row) (p : RowPatterns) : Type 0 where
  pub name_is : p.name.bytes.now ≡ (string_of strs r.first).bytes
  pub for_names : p.name.for_names ≡ eqb r.kind 2
  pub content : ContentOf strs r.second p.content

-- ---- the promise

-- the row fits exactly if the verdict says so, its trials are the verdict's, and few
pub record Tried (q : Request) (g : Given) (r : image.Row) (v : Verdict) : Type 0 where
  pub fit : v.fits ≡ row_fits q g r
  pub tried : v.trials ≡ row_trials q r
  pub few : v.trials ≤ most_trials

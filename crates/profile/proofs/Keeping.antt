-- From the judgement by places to an image that stands, or to why it is refused.
use mathlib.Core.Path.{◌≡◌, sym, ap, ◌∙◌, subst}
use Prim.Native.Nat.{ℕ}
use mathlib.Core.List.{List}
use lib.ListN.{replicate}
use Rattle.profile.specs.Image.{accepted, refused}
use Rattle.profile.specs.Judging as judging
use Rattle.profile.specs.Inner.Places as places
use Rattle.profile.specs.Inner.Decoded.{layout, profile_in, judged_by}
use Rattle.profile.specs.Inner.Answers.{judged_out, Laid}
use Rattle.profile.specs.Inner.Kept.{string_table, Standing}
use Rattle.profile.specs.Inner.Accepting.{Refuses}
use Rattle.profile.specs.declared.Layout.{Layout}
use Rattle.std.specs.Prelude.{Result, Ok, Err}
use Rattle.cells.specs.Inner.Answers.{number_of}
use Rattle.cells.specs.declared.Refusal.{Refusal}
use Rattle.profile.proofs.Same.{judge_same}
use Rattle.profile.proofs.Placed.{placed_low}

module _ (s table : List ℕ) (r : Result Layout Refusal) (e : judged_out r s table ≡ places.judge_by_places s) where
  is_refused : (f : Refusal) → r ≡ Err f → judging.judge s ≡ refused (number_of f.fault) f.place
  is_refused f g = judge_same s ∙ ap (judged_by s) (sym e ∙ ap (λ (x : Result Layout Refusal). judged_out x s table) g)

  is_accepted : (y : Layout) → r ≡ Ok y → judging.judge s ≡ accepted (profile_in s)
  is_accepted y g = judge_same s ∙ ap (judged_by s) (sym e ∙ ap (λ (x : Result Layout Refusal). judged_out x s table) g)

  pub stands : (y : Layout) → r ≡ Ok y → Laid r s (replicate 1024 0) table → Standing s table y
  stands y g l =
      let w : (y ≡ layout s) × (table ≡ string_table s) = subst (λ (x : Result Layout Refusal). Laid x s (replicate 1024 0) table) g l in
      record { accepts = is_accepted y g; layout_is = w.0; table_is = w.1 }

  pub refuses : (f : Refusal) → r ≡ Err f → Refuses s f
  refuses f g = record { refuses = is_refused f g; low = (placed_low s (number_of f.fault) f.place (is_refused f g)).0 }

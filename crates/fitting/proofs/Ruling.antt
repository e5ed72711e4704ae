-- From what was read of an image that stands to what is defined of its profile: a row, and a criterion.
use mathlib.Core.Bool.{Bool, true, false, not}
use mathlib.Core.Path.{◌≡◌, sym, ap, ◌∙◌, subst}
use Prim.Native.Nat.{ℕ, ◌+◌, ◌*◌, ◌≤◌, ◌<◌}
use mathlib.Core.List.{List}
use Rattle.profile.specs.Inner.Decoded.{criterion_with, criterion_from, profile_in}
use Rattle.profile.specs.Image.{Member, Profile}
use Rattle.profile.specs.Inner.Kept.{Standing, nth_row, nth_criterion}
use Rattle.entries.specs.Inner.Places.{criterion_numbers}
use Rattle.entries.specs.declared.Criterion.{Criterion}
use Rattle.profile.specs.declared.Layout.{Layout}
use Rattle.profile.proofs.Standings.{row_is, members_are, fine_as}
use Rattle.request.specs.Request.{Request}
use Rattle.rows.specs.Inner.Tried.{Tried}
use Rattle.rows.specs.declared.Given.{Given}
use Rattle.trials.specs.declared.Verdict.{Verdict}
use Rattle.fitting.specs.Fitting.{part_fits, fits_at, trials_at, criterion_fits, criterion_trials}
use Rattle.fitting.specs.Inner.Rowwise.{fits_nth, trials_nth, criterion_of, tried_of, TriedRow, TriedRows, Considered}
use Rattle.fitting.specs.Inner.Trigger.{members_at, fits_by}
use Rattle.fitting.specs.declared.Marks.{Marks}
use Rattle.fitting.proofs.Evaluating.{part_out, part_in, fits_join, tried_join}

-- a criterion's trigger has at most 32 rows, which lie in the table
pub trigger_bounds : (s table : List ℕ) (y : Layout) → Standing s table y → (i : ℕ) → i < y.criterion_count → (x : Criterion)
    → x ≡ criterion_numbers s (y.criteria + 15 * i) → (x.trigger.count ≤ 32) × (x.trigger.first + x.trigger.count ≤ y.row_count)
unfolding criterion_from criterion_with
trigger_bounds s table y stands i h x ex =
    let f = fine_as s table y stands i h in
    subst (λ (c : Criterion). (c.trigger.count ≤ 32) × (c.trigger.first + c.trigger.count ≤ y.row_count)) (sym ex) (f.short, f.in_table)

module _ (s table : List ℕ) (y : Layout) (stands : Standing s table y) (q : Request) (g : Given) where
  abbrev p : Profile
  p = profile_in s

  pub row_tried : (k : ℕ) → k < y.row_count → (v : Verdict) → Tried q g (nth_row s y k) v → TriedRow (fits_nth q g p) (trials_nth q p) k v
  row_tried k h v t = record {
    fit = t.fit ∙ sym (ap (fits_at q g) (row_is s table y stands k h));
    tried = t.tried ∙ sym (ap (trials_at q) (row_is s table y stands k h));
    few = t.few;
  }

  -- criterion i, from its numbers
  module _ (i : ℕ) (h : i < y.criterion_count) (x : Criterion) (ex : x ≡ criterion_numbers s (y.criteria + 15 * i)) where
    abbrev ms : List Member
    ms = members_at s y.members y.member_count

    defined : (v : Verdict) → Considered (criterion_of (fits_nth q g p) ms g.case) (tried_of (trials_nth q p) g.case) (nth_criterion s y i) v
        → Considered (criterion_fits q g p) (criterion_trials q g p) (nth_criterion s y i) v
    unfolding members_at
    defined v w = record {
      fit = w.fit
          ∙ ap (λ (l : List Member). criterion_of (fits_nth q g p) l g.case (nth_criterion s y i)) (members_are s table y stands)
          ∙ fits_join q g p (nth_criterion s y i);
      tried = w.tried ∙ tried_join q g p (nth_criterion s y i);
      few = w.few;
    }

    module _ (b : Bool) (eb : b ≡ part_fits x.part g.case) where
      part_is : b ≡ part_fits (nth_criterion s y i).part g.case
      unfolding criterion_from criterion_with
      part_is = eb ∙ ap (λ (c : Criterion). part_fits c.part g.case) ex

      pub evaluated_out : not b ≡ true → Considered (criterion_fits q g p) (criterion_trials q g p) (nth_criterion s y i) (record { fits = false; trials = 0 })
      evaluated_out n = defined (record { fits = false; trials = 0 }) (part_out (fits_nth q g p) (trials_nth q p) ms g.case (nth_criterion s y i) b part_is n)

      pub evaluated_in : not b ≡ false → (r : Marks) (f : Bool) → TriedRows (fits_nth q g p) (trials_nth q p) x.trigger.first x.trigger.count r
          → f ≡ fits_by x.trigger.form r.mask x.trigger.first x.trigger.count ms
          → Considered (criterion_fits q g p) (criterion_trials q g p) (nth_criterion s y i) (record { fits = f; trials = r.trials })
      unfolding criterion_from criterion_with
      evaluated_in n r f er ef =
          defined (record { fits = f; trials = r.trials })
          (part_in (fits_nth q g p) (trials_nth q p) ms g.case (nth_criterion s y i) b part_is n r f
          (subst (λ (c : Criterion). TriedRows (fits_nth q g p) (trials_nth q p) c.trigger.first c.trigger.count r) ex er)
          (fine_as s table y stands i h).short
          (subst (λ (c : Criterion). f ≡ fits_by c.trigger.form r.mask c.trigger.first c.trigger.count ms) ex ef))

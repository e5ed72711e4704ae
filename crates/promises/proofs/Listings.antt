-- Demand 2 for the listing: exactly the fitting criteria, priority rising, in the first places.
use mathlib.Core.Bool.{Bool, not}
use mathlib.Core.Option.{Option}
use mathlib.Core.Path.{◌≡◌, refl, sym, ap, ◌∙◌, subst}
use Prim.Native.Nat.{ℕ}
use mathlib.Core.List.{List, ◌++◌}
use lib.ListN.{length, drop}
use lib.Dec.{leb, le→leb}
use Rattle.octets.specs.Lists.{pick, only, total}
use Rattle.octets.proofs.Tests.{is_true}
use Rattle.octets.proofs.Kept.{only_sound, only_complete}
use Rattle.profile.specs.Image.{Profile, Judged}
use Rattle.profile.proofs.Accepted.{accepted_sound}
use Rattle.request.specs.Request.{Request}
use Rattle.rows.specs.declared.Given.{Given}
use Rattle.fitting.specs.Fitting.{criterion_fits, criterion_trials}
use Rattle.order.specs.Order.{Numbered, numbered, rising}
use Rattle.listing.specs.Listing.{Listing, numbers, listed, refuse_list, filled, fill, fill_with, list_read, list_judged, listing}
use Rattle.listing.proofs.Ordered.{numbers_length}
use Rattle.order.proofs.Rising.{rising_strict, rising_has, rising_only, only_apart, numbered_apart}
use Rattle.promises.specs.Walks.{Listable, ListsAll}

module _ (g : Given) (image r before : List ℕ) (p : Profile) (q : Request) (h : Listable g image r before p q) where
  fits : Numbered → Bool
  fits n = criterion_fits q g p n.criterion

  chosen : List Numbered
  chosen = rising (only fits (numbered 0 p.criteria))

  answer : Listing
  answer = filled (listed (criterion_fits q g p) p.criteria) (length p.criteria) (total (criterion_trials q g p) p.criteria) before

  is_filled : listing g image r before ≡ answer
  unfolding listing fill fill_with answer
  is_filled =
      ap (λ (j : Judged). list_judged g j r before) h.accepts
      ∙ ap (λ (o : Option Request). list_read g p o before) h.reads
      ∙ ap (λ (b : Bool). pick (not b) (refuse_list before 11 0) (pick (not (leb g.case 3)) (refuse_list before 8 0) (pick (not (leb g.registration 2)) (refuse_list before 9 0) (fill q g p before)))) h.register
      ∙ ap (λ (b : Bool). pick (not b) (refuse_list before 8 0) (pick (not (leb g.registration 2)) (refuse_list before 9 0) (fill q g p before))) (is_true (leb g.case 3) h.case_known)
      ∙ ap (λ (b : Bool). pick (not b) (refuse_list before 9 0) (fill q g p before)) (is_true (leb g.registration 2) h.type_known)
      ∙ ap (λ (b : Bool). pick b answer (refuse_list before 12 0))
      (is_true (leb (length (listed (criterion_fits q g p) p.criteria)) (length before)) (le→leb (length (listed (criterion_fits q g p) p.criteria)) (length before) h.room))

  filled_right : ListsAll g p q before answer
  unfolding answer listed chosen fits
  filled_right = record {
    chosen = chosen;
    rises = rising_strict (only fits (numbered 0 p.criteria)) (only_apart fits (numbered 0 p.criteria) (numbered_apart 0 p.criteria (accepted_sound image p h.accepts).distinct));
    all_fit = λ n d. only_sound fits (numbered 0 p.criteria) n (rising_only n (only fits (numbered 0 p.criteria)) d);
    no_other = λ n d t. rising_has (only_complete fits d t);
    places = ap (λ (k : ℕ). numbers chosen ++ drop k before) (numbers_length chosen);
    count = numbers_length chosen;
    refusal = refl;
    place = refl;
    examined = refl;
    trials = refl;
  }

  pub lists_all : ListsAll g p q before (listing g image r before)
  lists_all = subst (ListsAll g p q before) (sym is_filled) filled_right

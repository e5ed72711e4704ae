-- Reports in bulk (change request 8): the refusal of the whole call, and what becomes of one session of the list.
use mathlib.Core.Bool.{Bool, true, false, not}
use mathlib.Core.List.{List, [], ◌∷◌}
use mathlib.Core.Option.{some}
use mathlib.Core.Path.{◌≡◌, refl, ap, sym, ◌∙◌}
use Prim.Native.Nat.{ℕ}
use lib.ListN.{length, get_elem?}
use Rattle.octets.specs.Lists.{pick}
use Rattle.octets.proofs.Tests.{either}
use Rattle.session.specs.Session.{report_session}
use Rattle.session.specs.declared.Session.{Session}
use Rattle.bulk.specs.Bulk.{fits, each, Bulk, reported, report_all}
use Rattle.bulk.proofs.Single.{as_single}
use Rattle.promises.specs.Refusals.{at_0, FirstNumber, numbered, reports_lines, BulkUnchanged}
use Rattle.promises.proofs.Refused.{Refusal, as_first, first_of}
use Rattle.promises.proofs.Unchanged.{report_unchanged}

-- ---- the whole call

abbrev of_bulk : Bulk → Refusal
of_bulk b = record { number = b.refusal; place = 0 }

pub reports_refusal : (xs : List Session) (ns before : List ℕ) → FirstNumber (reports_lines xs ns before) (report_all xs ns before).refusal
unfolding report_all
reports_refusal xs ns before =
    numbered 0 (as_first (reports_lines xs ns before) (of_bulk (report_all xs ns before)) (go (fits (length xs) (length ns) (length before))))
  where
    go : (t : Bool) → of_bulk (pick t (reported (each xs ns)) (record { refusal = 17; sessions = xs; refusals = before })) ≡ first_of (at_0 (not t) 17 ∷ [])
    go true = refl
    go false = refl

pub reports_unchanged : (xs : List Session) (ns before : List ℕ) → ((report_all xs ns before).refusal ≡ 0 → ⊥) → BulkUnchanged xs before (report_all xs ns before)
unfolding report_all
reports_unchanged xs ns before =
    either (λ (b : Bulk). (b.refusal ≡ 0 → ⊥) → BulkUnchanged xs before b) (fits (length xs) (length ns) (length before))
    (reported (each xs ns)) (record { refusal = 17; sessions = xs; refusals = before })
    (λ h. absurd (h refl)) (λ h. record { sessions = refl; refusals = refl })

-- ---- one session of the list

module _ (xs : List Session) (ns before : List ℕ) (ok : (report_all xs ns before).refusal ≡ 0) where
  -- "refused ones unchanged"
  pub refused_stays : (i : ℕ) (x : Session) (n : ℕ) → get_elem? xs i ≡ some x → get_elem? ns i ≡ some n → ((report_session x n).refusal ≡ 0 → ⊥)
      → get_elem? (report_all xs ns before).sessions i ≡ some x
  refused_stays i x n e f h = (as_single xs ns before ok i x n e f).0 ∙ ap some (report_unchanged x n h)

  -- the same session with the same report gets the same answer, wherever it stands in whatever list
  pub order_free : (ys : List Session) (ms before' : List ℕ) → (report_all ys ms before').refusal ≡ 0
      → (i j : ℕ) (x : Session) (n : ℕ) → get_elem? xs i ≡ some x → get_elem? ns i ≡ some n → get_elem? ys j ≡ some x → get_elem? ms j ≡ some n
      → (get_elem? (report_all xs ns before).sessions i ≡ get_elem? (report_all ys ms before').sessions j)
      × (get_elem? (report_all xs ns before).refusals i ≡ get_elem? (report_all ys ms before').refusals j)
  order_free ys ms before' ok' i j x n e f g h =
      let here = as_single xs ns before ok i x n e f in
      let there = as_single ys ms before' ok' j x n g h in
      (here.0 ∙ sym there.0, here.1 ∙ sym there.1)

-- Reports in bulk against the single call, as both are exported: place i of the two lists holds what ifc_report answers for that session.
use mathlib.Core.List.{List}
use mathlib.Core.Option.{some}
use mathlib.Core.Path.{◌≡◌, ap, sym, ◌∙◌}
use Prim.Native.Nat.{ℕ}
use lib.ListN.{get_elem?}
use Rattle.session.specs.Session.{with_state}
use Rattle.session.specs.declared.Session.{Session}
use Rattle.bulk.specs.Bulk.{ReportsTo}
use Rattle.bulk.proofs.Single.{as_single, only_state}
use Rattle.ifc.specs.Exports.{ReportTo}

-- "refusals[i] gets the number that ifc_report gives for sessions[i] and reports[i]"; its state is as that call leaves it, its other numbers stay
pub as_reported_singly : {xs ys : List Session} {ns before rs : List ℕ} → ReportsTo xs ns before 0 ys rs
    → (i : ℕ) (x : Session) (n : ℕ) → get_elem? xs i ≡ some x → get_elem? ns i ≡ some n
    → {number state : ℕ} → ReportTo x.case x.state x.forwarded x.last x.handling n number state
    → (get_elem? ys i ≡ some (with_state x state)) × (get_elem? rs i ≡ some number)
as_reported_singly {xs} {ys} {ns} {before} h i x n e f k =
    let one = as_single xs ns before (sym h.number_is) i x n e f in (
      ap (λ (l : List Session). get_elem? l i) h.sessions_is ∙ one.0 ∙ ap some (only_state x n ∙ ap (with_state x) (sym k.state_is)),
      ap (λ (l : List ℕ). get_elem? l i) h.refusals_is ∙ one.1 ∙ ap some (sym k.number_is),
    )

-- Demand 2 for the two calls that need no image: what opening and a report answer where they are not refused.
use mathlib.Core.Bool.{Bool, ◌&&◌}
use mathlib.Core.Path.{◌≡◌, ap}
use Prim.Native.Nat.{ℕ, ◌≤◌}
use lib.Dec.{T, eqb}
use borrow.Author.Tests.{eq-eqb, le-leb}
use Rattle.octets.specs.Lists.{pick}
use Rattle.octets.proofs.Tests.{T_of, is_true, both}
use Rattle.session.specs.Session.{possible, ready, waiting, released, ended, fresh, unopened, open_session, goes, stays, after_report, report_session}
use Rattle.session.specs.declared.Session.{Session}

pub opens_fresh : (case : ℕ) → case ≤ 3 → open_session case ≡ record { refusal = 0; session = fresh case }
unfolding open_session
opens_fresh case h =
    ap (λ (b : Bool). pick b (record { refusal = 0; session = fresh case }) (record { refusal = 8; session = unopened })) (le-leb case 3 h)

module _ (x : Session) (can : T (possible x)) (waits : x.state ≡ waiting) where
  reported : (n : ℕ) → report_session x n ≡ after_report n x
  unfolding report_session
  reported n =
      ap (λ (b : Bool). pick b (after_report n x) (stays x 10))
      (is_true (possible x && eqb x.state waiting) (both (possible x) (eqb x.state waiting) can (T_of (eq-eqb x.state waiting waits))))

  pub report_answers : (report_session x 0 ≡ goes x ready) × (report_session x 1 ≡ goes x (pick (eqb x.handling 0) ready released)) × (report_session x 2 ≡ goes x ended)
  report_answers = (reported 0, reported 1, reported 2)

-- Demand 2's order: the answer is the fitting criterion with the smallest priority above the last, and route exactly if there is none.
use mathlib.Core.Bool.{Bool, ◌&&◌}
use mathlib.Core.Option.{Option, none, some}
use mathlib.Core.Path.{◌≡◌, refl, sym, ap, ap₂, ◌∙◌, subst}
use mathlib.Core.Logic.{◌↔◌}
use Prim.Native.Nat.{ℕ}
use native.Mathlib.Omega.{arith}
use mathlib.Core.List.{List, Memᴰ}
use lib.ListN.{length}
use lib.Dec.{T, eqb}
use Rattle.octets.specs.Lists.{pick, total}
use Rattle.octets.proofs.Tests.{is_true}
use Rattle.octets.proofs.Kept.{only_sound, only_complete}
use Rattle.profile.specs.Image.{Profile, Judged}
use Rattle.profile.specs.Judging.{judge}
use Rattle.request.specs.Request.{Request}
use Rattle.session.specs.Session.{possible, ready}
use Rattle.session.specs.declared.Session.{Session}
use Rattle.fitting.specs.Fitting.{criterion_fits, criterion_trials}
use Rattle.order.specs.Order.{Numbered, numbered, above_last, candidates, least, up_to}
use Rattle.route.specs.Advance.{refuse, answer, walk, walk_with, in_session, advance_read, advance_judged, advance}
use Rattle.route.specs.declared.Advanced.{Advanced}
use Rattle.order.proofs.Chosen.{Right, least_right}
use Rattle.promises.specs.Walks.{Candidate, Answers, Answered, forwarding, routing}

-- ---- advance

abbrev fits_now : Session → Profile → Request → Numbered → Bool
fits_now x p q n = criterion_fits q (in_session x) p n.criterion

abbrev choice : Session → Profile → Request → Option Numbered
choice x p q = least (fits_now x p q) (candidates x p.criteria)

pub advance_walks : (x : Session) (image r : List ℕ) (p : Profile) (q : Request) → Answers x image r p q → advance x image r ≡ walk x p q
unfolding advance
advance_walks x image r p q h =
    ap₂ (λ (a b : Bool). pick (a && b) (advance_judged x (judge image) r) (refuse x 10 0)) (is_true (possible x) h.can_be) (is_true (eqb x.state ready) h.is_ready)
    ∙ ap (λ (j : Judged). advance_judged x j r) h.accepts
    ∙ ap (advance_read x p) h.reads
    ∙ ap (λ (b : Bool). pick b (refuse x 11 0) (walk x p q)) h.other

module _ (x : Session) (p : Profile) (q : Request) where
  as_candidate : (n : Numbered) → Memᴰ n (candidates x p.criteria) → T (fits_now x p q n) → Candidate x p q n
  unfolding candidates
  as_candidate n d t = let r = only_sound (above_last x) (numbered 0 p.criteria) n d in record { member = r.0; above = r.1; fit = t }

  is_candidate : (n : Numbered) → Candidate x p q n → Memᴰ n (candidates x p.criteria)
  unfolding candidates
  is_candidate n c = only_complete (above_last x) c.member c.above

  trials_of : List Numbered → ℕ
  trials_of ns = total (λ n. criterion_trials q (in_session x) p n.criterion) ns

  answered : (o : Option Numbered) → Right (fits_now x p q) (candidates x p.criteria) o
      → Answered x p q (answer x o (length (up_to o (candidates x p.criteria))) (trials_of (up_to o (candidates x p.criteria))))
  unfolding trials_of
  answered none h = routing (record {
    none_fits = λ n c. h n (is_candidate n c) c.fit;
    outcome = refl;
    number = refl;
    its_priority = refl;
    session = refl;
    counts = record { refusal = refl; place = refl; examined = refl; trials = refl };
  })
  answered (some n) h = forwarding (record {
    chosen_one = n;
    candidate = as_candidate n h.member h.fit;
    lowest = λ m c. h.lowest m (is_candidate m c) c.fit;
    outcome = refl;
    number = refl;
    its_priority = refl;
    session = refl;
    counts = record { refusal = refl; place = refl; examined = refl; trials = refl };
  })

  pub walk_answers : Answered x p q (walk x p q)
  unfolding walk walk_with trials_of
  walk_answers = answered (choice x p q) (least_right (fits_now x p q) (candidates x p.criteria))

  routes_none : (a : Advanced) → Answered x p q a → a.outcome ≡ 2 → (n : Numbered) → Candidate x p q n → ⊥
  routes_none a (forwarding f) e n c = let z : ◌≡◌ {A = ℕ} 1 2 = sym f.outcome ∙ e in absurd (omega arith)
  routes_none a (routing r) e n c = r.none_fits n c

  none_routes : (a : Advanced) → Answered x p q a → ((n : Numbered) → Candidate x p q n → ⊥) → a.outcome ≡ 2
  none_routes a (forwarding f) h = absurd (h f.chosen_one f.candidate)
  none_routes a (routing r) h = r.outcome

-- normal routing exactly if there is none
pub route_iff : (x : Session) (image r : List ℕ) (p : Profile) (q : Request) → Answers x image r p q
    → ((advance x image r).outcome ≡ 2) ↔ ((n : Numbered) → Candidate x p q n → ⊥)
route_iff x image r p q h =
    subst (λ (a : Advanced). (a.outcome ≡ 2) ↔ ((n : Numbered) → Candidate x p q n → ⊥)) (sym (advance_walks x image r p q h))
    (routes_none x p q (walk x p q) (walk_answers x p q), none_routes x p q (walk x p q) (walk_answers x p q))

-- what an answer says: the smallest priority above the last that fits, or route
pub advance_answers : (x : Session) (image r : List ℕ) (p : Profile) (q : Request) → Answers x image r p q → Answered x p q (advance x image r)
advance_answers x image r p q h = subst (Answered x p q) (sym (advance_walks x image r p q h)) (walk_answers x p q)

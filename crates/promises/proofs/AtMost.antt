-- "over one image of n criteria a session forwards at most n times"
use mathlib.Core.Bool.{◌&&◌, ◌||◌}
use mathlib.Core.Option.{Option, none, some}
use mathlib.Core.Path.{◌≡◌, ap, refl, sym, ap₂, subst}
use Prim.Native.Nat.{ℕ, ◌+◌, ◌≤◌, ◌<◌, zero-le}
use native.Mathlib.Nat.{le_trans, le_of_eq, lt_irrefl}
use native.Mathlib.Omega.{arith}
use mathlib.Core.List.{List, [], ◌∷◌}
use lib.ListN.{length}
use lib.Dec.{T, eqb, ltb, ltb→lt, lt→ltb}
use Rattle.octets.specs.Lists.{pick, same, only}
use Rattle.octets.proofs.Tests.{or_left, or_right, or_cases, either}
use Rattle.octets.proofs.Kept.{fewer, kept_le}
use Rattle.profile.specs.Image.{Profile, Judged, accepted}
use Rattle.profile.specs.Judging.{judge}
use Rattle.request.specs.Request.{Request, read_request}
use Rattle.session.specs.Session.{possible, ready, waiting, released, ended, with_state, goes, stays, after_report, report_session}
use Rattle.session.specs.declared.Session.{Session}
use Rattle.session.specs.declared.Reported.{Reported}
use Rattle.rows.specs.Rows.{REGISTER}
use Rattle.order.specs.Order.{Numbered, numbered, priority, above_last}
use Rattle.route.specs.Advance.{refuse, walk, advance_read, advance_judged, advance}
use Rattle.route.specs.declared.Advanced.{Advanced}
use Rattle.order.proofs.Chosen.{numbered_length}
use Rattle.promises.specs.Walks.{Candidate, Answered, forwarding, routing, one_if, Move, ask, tell, forwards}
use Rattle.promises.proofs.Next.{walk_answers}

-- ---- what is left above the last

-- how many criteria are above the last one forwarded
abbrev left_over : ℕ → ℕ → Profile → ℕ
left_over forwarded last p = length (only (λ n. eqb forwarded 0 || ltb last (priority n)) (numbered 0 p.criteria))

abbrev Shrinks : Session → Profile → Advanced → Type 0
Shrinks x p a = one_if a.outcome + left_over a.session.forwarded a.session.last p ≤ left_over x.forwarded x.last p

refuse_shrinks : (x : Session) (p : Profile) (n place : ℕ) → Shrinks x p (refuse x n place)
refuse_shrinks x p n place = omega arith

-- above what was just forwarded stand fewer than above the last one before
forward_fewer : (x : Session) (p : Profile) (q : Request) (n : Numbered) → Candidate x p q n
    → left_over 1 (priority n) p < left_over x.forwarded x.last p
forward_fewer x p q n c =
    fewer (above_last x) (λ m. ltb (priority n) (priority m)) up c.member c.above (λ t. lt_irrefl (priority n) (ltb→lt (priority n) (priority n) t))
  where
    up : (m : Numbered) → T (ltb (priority n) (priority m)) → T (above_last x m)
    up m t =
        or_cases (eqb x.forwarded 0) (ltb x.last (priority n)) c.above
        (λ z. or_left (eqb x.forwarded 0) (ltb x.last (priority m)) z)
        (λ z.
        let a : x.last < priority n = ltb→lt x.last (priority n) z in
        let b : priority n < priority m = ltb→lt (priority n) (priority m) t in
        or_right (eqb x.forwarded 0) (ltb x.last (priority m)) (lt→ltb x.last (priority m) (omega arith)))

answer_shrinks : (x : Session) (p : Profile) (q : Request) (a : Advanced) → Answered x p q a → Shrinks x p a
answer_shrinks x p q a (forwarding f) =
    subst (λ (k : ℕ). one_if a.outcome + k ≤ left_over x.forwarded x.last p)
    (ap₂ (λ (u v : ℕ). left_over u v p) (sym (ap (λ (y : Session). y.forwarded) f.session)) (sym (ap (λ (y : Session). y.last) f.session)))
    (subst (λ (k : ℕ). one_if k + left_over 1 (priority f.chosen_one) p ≤ left_over x.forwarded x.last p) (sym f.outcome)
    (omega (arith, forward_fewer x p q f.chosen_one f.candidate)))
answer_shrinks x p q a (routing r) =
    subst (λ (k : ℕ). one_if a.outcome + k ≤ left_over x.forwarded x.last p)
    (ap₂ (λ (u v : ℕ). left_over u v p) (sym (ap (λ (y : Session). y.forwarded) r.session)) (sym (ap (λ (y : Session). y.last) r.session)))
    (subst (λ (k : ℕ). one_if k + left_over x.forwarded x.last p ≤ left_over x.forwarded x.last p) (sym r.outcome) (omega arith))

read_shrinks : (x : Session) (p : Profile) (o : Option Request) → Shrinks x p (advance_read x p o)
read_shrinks x p none = refuse_shrinks x p 7 0
read_shrinks x p (some q) =
    either (Shrinks x p) (same q.method REGISTER) (refuse x 11 0) (walk x p q) (refuse_shrinks x p 11 0) (answer_shrinks x p q (walk x p q) (walk_answers x p q))

advance_shrinks : (x : Session) (image r : List ℕ) (p : Profile) → judge image ≡ accepted p → Shrinks x p (advance x image r)
unfolding advance
advance_shrinks x image r p e =
    either (Shrinks x p) (possible x && eqb x.state ready) (advance_judged x (judge image) r) (refuse x 10 0)
    (subst (λ (j : Judged). Shrinks x p (advance_judged x j r)) (sym e) (read_shrinks x p (read_request r)))
    (refuse_shrinks x p 10 0)

-- a report forwards nothing and keeps the last
pub record Kept (x y : Session) : Type 0 where
  pub same_forwarded : y.forwarded ≡ x.forwarded
  pub same_last : y.last ≡ x.last

after_keeps : (n : ℕ) (x : Session) → Kept x (after_report n x).session
after_keeps n x =
    let P : Reported → Type 0 = λ a. Kept x a.session in
    let k : (st : ℕ) → Kept x (with_state x st) = λ st. record { same_forwarded = refl; same_last = refl } in
    let two : Reported = pick (eqb n 2) (goes x ended) (stays x 8) in
    let one : Reported = pick (eqb n 1) (goes x (pick (eqb x.handling 0) ready released)) two in
    either P (eqb n 0) (goes x ready) one (k ready)
    (either P (eqb n 1) (goes x (pick (eqb x.handling 0) ready released)) two (k (pick (eqb x.handling 0) ready released))
    (either P (eqb n 2) (goes x ended) (stays x 8) (k ended) (k x.state)))

pub report_keeps : (x : Session) (n : ℕ) → Kept x (report_session x n).session
unfolding report_session
report_keeps x n =
    either (λ (a : Reported). Kept x a.session) (possible x && eqb x.state waiting) (after_report n x) (stays x 10)
    (after_keeps n x) (record { same_forwarded = refl; same_last = refl })

-- ---- any sequence of advances and reports

at_most_left : (image : List ℕ) (p : Profile) → judge image ≡ accepted p → (ms : List Move) (x : Session)
    → forwards image ms x ≤ left_over x.forwarded x.last p
unfolding forwards
at_most_left image p e [] x = zero-le
at_most_left image p e (ask r ∷ ms) x =
    let y : Session = (advance x image r).session in
    omega (arith, at_most_left image p e ms y, advance_shrinks x image r p e)
at_most_left image p e (tell n ∷ ms) x =
    subst (λ (k : ℕ). forwards image ms (report_session x n).session ≤ k)
    (ap₂ (λ (u v : ℕ). left_over u v p) (report_keeps x n).same_forwarded (report_keeps x n).same_last)
    (at_most_left image p e ms (report_session x n).session)

-- whatever the requests and the reports, and whatever the session at the start
pub at_most : (image : List ℕ) (p : Profile) → judge image ≡ accepted p → (ms : List Move) (x : Session) → forwards image ms x ≤ length p.criteria
at_most image p e ms x =
    le_trans (at_most_left image p e ms x)
    (le_trans (kept_le (above_last x) (numbered 0 p.criteria)) (le_of_eq (numbered_length 0 p.criteria)))

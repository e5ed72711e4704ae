-- Every session that the calls give is one that a session can have: opening gives one, advance and report keep it.
use mathlib.Core.Bool.{Bool, true, false, not, ◌&&◌, ◌||◌}
use mathlib.Core.Option.{Option, none, some}
use mathlib.Core.Path.{◌≡◌, refl, sym, subst, subst₂}
use Prim.Native.Nat.{ℕ, zero, suc, ◌≤◌}
use native.Mathlib.Omega.{arith}
use mathlib.Core.List.{List, Memᴰ}
use lib.ListN.{length}
use lib.Dec.{T, leb, ltb, eqb, leb→le, le→leb, lt→ltb, eqb→eq}
use Rattle.octets.specs.Lists.{pick, same}
use Rattle.octets.proofs.Tests.{both, left, right, T_of, either, by_test}
use Rattle.octets.proofs.Kept.{only_sound}
use Rattle.octets.proofs.Each.{each_member}
use Rattle.profile.specs.Image.{Criterion, Profile, Judged, accepted, refused}
use Rattle.profile.specs.Judging.{judge}
use Rattle.profile.proofs.Accepted.{Fine, Sound, accepted_sound}
use Rattle.request.specs.Request.{Request, read_request}
use Rattle.session.specs.Session.{ready, waiting, finished, released, ended, some_yet, by_forwarded, possible, fresh, unopened, open_session, stays, after_report, report_session}
use Rattle.session.specs.declared.Session.{Session}
use Rattle.session.specs.declared.Opened.{Opened}
use Rattle.session.specs.declared.Reported.{Reported}
use Rattle.rows.specs.Rows.{REGISTER}
use Rattle.fitting.specs.Fitting.{criterion_fits}
use Rattle.order.specs.Order.{Numbered, numbered, priority, candidates, above_last, least}
use Rattle.route.specs.Advance.{refuse, answer, walk, walk_with, in_session, advance_read, advance_judged, advance}
use Rattle.route.specs.declared.Advanced.{Advanced}
use Rattle.order.proofs.Chosen.{Right, least_right, numbered_each}
use Rattle.promises.specs.Reached.{Bytes}

-- a criterion's priority fits four bytes and its default is 0 or 1
abbrev held : Criterion → Bool
held c = ltb c.priority 4294967296 && leb c.handling 1

fine_held : (s : List ℕ) (n : ℕ) → Bytes s → (c : Criterion) → Fine s n c → T (held c)
fine_held s n bytes c f = both (ltb c.priority 4294967296) (leb c.handling 1) (lt→ltb c.priority 4294967296 (f.small bytes)) (le→leb c.handling 1 f.handled)

-- ---- the calls

pub open_possible : (k : ℕ) → T (possible (open_session k).session)
unfolding possible open_session
open_possible k =
    by_test (λ (o : Opened). T (possible o.session)) (leb k 3)
    (record { refusal = 0; session = fresh k }) (record { refusal = 8; session = unopened })
    (λ e. both (leb k 3) true (T_of e) tt) (λ e. tt)

abbrev pub make : ℕ → ℕ → ℕ → ℕ → ℕ → Session
make k st f l h = record { case = k; state = st; forwarded = f; last = l; handling = h }

-- a session that forwarded something: its parts
pub kept_parts : (k st l h : ℕ) → T (possible (make k st 1 l h)) → T (leb k 3) × T (ltb l 4294967296 && leb h 1)
unfolding possible
kept_parts k st l h t =
    let y : Bool = ltb l 4294967296 && leb h 1 in
    let z : Bool = not (eqb st released) || eqb h 1 in
    let u = right (leb k 3) (y && leb st 4 && z) t in
    (left (leb k 3) (y && leb st 4 && z) t, left y (leb st 4) (left (y && leb st 4) z u))

-- it may be in any state, released only where the default is terminated
pub may_be : (k st l h : ℕ) → T (leb k 3) → T (ltb l 4294967296 && leb h 1) → T (leb st 4) → T (not (eqb st released) || eqb h 1) → T (possible (make k st 1 l h))
unfolding possible
may_be k st l h a b c d =
    let y : Bool = ltb l 4294967296 && leb h 1 in
    let z : Bool = not (eqb st released) || eqb h 1 in
    both (leb k 3) (y && leb st 4 && z) a (both (y && leb st 4) z (both y (leb st 4) b c) d)

-- route: from ready to finished
finish : (k st f l h : ℕ) → T (possible (make k st f l h)) → T (possible (make k finished f l h))
unfolding possible
finish k st f l h t = go (eqb f 0) (eqb f 1) t
  where
    y : Bool
    y = eqb l 0 && eqb h 0

    z : Bool
    z = eqb st ready || eqb st finished

    w : ℕ → Bool
    w s = ltb l 4294967296 && leb h 1 && leb s 4 && (not (eqb s released) || eqb h 1)

    go : (b c : Bool) → T (leb k 3 && pick b (y && z) (c && w st)) → T (leb k 3 && pick b (y && true) (c && w finished))
    go true c t = both (leb k 3) (y && true) (left (leb k 3) (y && z) t) (both y true (left y z (right (leb k 3) (y && z) t)) tt)
    go false true t = let r = kept_parts k st l h t in may_be k finished l h r.0 r.1 tt tt
    go false false t = absurd (right (leb k 3) false t)

kind_ok : (x : Session) → T (possible x) → T (leb x.case 3)
unfolding possible
kind_ok x t = left (leb x.case 3) (by_forwarded x.forwarded x) t

answer_possible : (x : Session) (ns : List Numbered) (fits : Numbered → Bool) → T (possible x)
    → ((n : Numbered) → Memᴰ n ns → T (held n.criterion)) → (o : Option Numbered) (e t : ℕ) → Right fits ns o → T (possible (answer x o e t).session)
answer_possible x ns fits h all none e t r = finish x.case x.state x.forwarded x.last x.handling h
answer_possible x ns fits h all (some n) e t r =
    may_be x.case waiting (priority n) n.criterion.handling (kind_ok x h) (all n r.member) tt tt

walk_possible : (s : List ℕ) (x : Session) (p : Profile) (q : Request) → Bytes s → Sound s p → T (possible x) → T (possible (walk x p q).session)
unfolding walk walk_with candidates
walk_possible s x p q bytes k h =
    let fits : Numbered → Bool = λ n. criterion_fits q (in_session x) p n.criterion in
    let ns : List Numbered = numbered 0 p.criteria in
    answer_possible x (candidates x p.criteria) fits h
    (λ n d.
    fine_held s (length p.rows) bytes n.criterion
    (each_member (λ m. Fine s (length p.rows) m.criterion) ns n (numbered_each (Fine s (length p.rows)) 0 p.criteria k.fine) (only_sound (above_last x) ns n d).0))
    (least fits (candidates x p.criteria)) _ _ (least_right fits (candidates x p.criteria))

pub advance_possible : (x : Session) (image r : List ℕ) → Bytes image → T (possible x) → T (possible (advance x image r).session)
unfolding advance
advance_possible x image r bytes h =
    either (λ (a : Advanced). T (possible a.session)) (possible x && eqb x.state ready) (advance_judged x (judge image) r) (refuse x 10 0)
    (judged (judge image) refl) h
  where
    read_it : (p : Profile) → Sound image p → (o : Option Request) → T (possible (advance_read x p o).session)
    read_it p k none = h
    read_it p k (some q) =
        either (λ (a : Advanced). T (possible a.session)) (same q.method REGISTER) (refuse x 11 0) (walk x p q) h (walk_possible image x p q bytes k h)

    judged : (j : Judged) → judge image ≡ j → T (possible (advance_judged x j r).session)
    judged (accepted p) e = read_it p (accepted_sound image p e) (read_request r)
    judged (refused n place) e = h

-- a waiting session forwarded something
waiting_one : (k f l h : ℕ) → T (possible (make k waiting f l h)) → f ≡ 1
unfolding possible
waiting_one k f l h t = go (eqb f 0) (eqb f 1) refl t
  where
    y : Bool
    y = eqb l 0 && eqb h 0

    go : (b c : Bool) → eqb f 1 ≡ c → T (leb k 3 && pick b (y && false) (c && some_yet (make k waiting f l h))) → f ≡ 1
    go true c e t = absurd (right y false (right (leb k 3) (y && false) t))
    go false true e t = eqb→eq f 1 (T_of e)
    go false false e t = absurd (right (leb k 3) false t)

not_0 : (h : ℕ) → eqb h 0 ≡ false → T (leb h 1) → T (eqb h 1)
not_0 zero e t = subst T e tt
not_0 (suc zero) e t = tt
not_0 (suc (suc h)) e t = let z : suc (suc h) ≤ 1 = leb→le (suc (suc h)) 1 t in absurd (omega arith)

after_waiting : (n k l h : ℕ) → T (possible (make k waiting 1 l h)) → T (possible (after_report n (make k waiting 1 l h)).session)
after_waiting n k l h t =
    let r = kept_parts k waiting l h t in
    let P : Reported → Type 0 = λ a. T (possible a.session) in
    either P (eqb n 0) _ _ (may_be k ready l h r.0 r.1 tt tt)
    (either P (eqb n 1) _ _
    (by_test (λ (s : ℕ). T (possible (make k s 1 l h))) (eqb h 0) ready released
    (λ e. may_be k ready l h r.0 r.1 tt tt)
    (λ e. may_be k released l h r.0 r.1 tt (not_0 h e (right (ltb l 4294967296) (leb h 1) r.1))))
    (either P (eqb n 2) _ _ (may_be k ended l h r.0 r.1 tt tt) t))

pub report_possible : (x : Session) (n : ℕ) → T (possible x) → T (possible (report_session x n).session)
unfolding report_session
report_possible x n h =
    by_test (λ (a : Reported). T (possible a.session)) (possible x && eqb x.state waiting) (after_report n x) (stays x 10)
    (λ e.
    let w : x.state ≡ waiting = eqb→eq x.state waiting (right (possible x) (eqb x.state waiting) (T_of e)) in
    let t : T (possible (make x.case waiting x.forwarded x.last x.handling)) =
    subst (λ (s : ℕ). T (possible (make x.case s x.forwarded x.last x.handling))) w h in
    let f : x.forwarded ≡ 1 = waiting_one x.case x.forwarded x.last x.handling t in
    subst₂ (λ (s g : ℕ). T (possible (after_report n (make x.case s g x.last x.handling)).session)) (sym w) (sym f)
    (after_waiting n x.case x.last x.handling (subst (λ (g : ℕ). T (possible (make x.case waiting g x.last x.handling))) f t)))
    (λ e. h)

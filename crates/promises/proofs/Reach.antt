-- Number 10 is exactly "a record that no session can have": the records that pass are those that some calls lead to.
use borrow.Author.Tests.{ne_eqb}
use mathlib.Core.Bool.{Bool, true, false, not, ◌&&◌, ◌||◌}
use mathlib.Core.Option.{none, some}
use mathlib.Core.Path.{◌≡◌, refl, sym, ap, ap₂, subst, subst₂}
use mathlib.Core.Logic.{◌↔◌}
use Prim.Native.Nat.{ℕ, zero, suc, ◌+◌, ◌*◌, ◌/◌, ◌%◌, ◌≤◌, ◌<◌}
use native.Mathlib.Omega.{arith}
use mathlib.Core.List.{List, [], ◌∷◌}
use lib.Dec.{T, leb, ltb, eqb, leb→le, ltb→lt, lt→ltb, eqb→eq}
use Rattle.octets.specs.Lists.{text, pick}
use Rattle.octets.proofs.Tests.{both, left, right, or_cases, T_of, is_true}
use Rattle.profile.specs.Image.{Profile, accepted}
use Rattle.profile.specs.Judging.{judge}
use Rattle.profile.specs.Examples.{empty_profile}
use Rattle.request.specs.Request.{Request, read_request}
use Rattle.session.specs.Session.{ready, waiting, finished, released, nothing_yet, some_yet, possible, fresh, open_session, with_state, stays, after_report, report_session}
use Rattle.session.specs.declared.Session.{Session}
use Rattle.session.specs.declared.Opened.{Opened}
use Rattle.session.specs.declared.Reported.{Reported}
use Rattle.route.specs.Advance.{walk}
use Rattle.route.specs.declared.Advanced.{Advanced}
use Rattle.promises.specs.Reached.{Bytes, Reached, by_opening, by_advance, by_report}
use Rattle.promises.proofs.Next.{advance_walks}
use Rattle.promises.proofs.Possible.{make, may_be, open_possible, advance_possible, report_possible}

-- ---- calls never leave the records a session can have

reached_possible : {x : Session} → Reached x → T (possible x)
reached_possible (by_opening case) = open_possible case
reached_possible (by_advance {x = x} image request bi br r) = advance_possible x image request bi (reached_possible r)
reached_possible (by_report {x = x} n r) = report_possible x n (reached_possible r)

-- ---- the bytes that are lent

invite : List ℕ
invite = text "INVITE sip:b SIP/2.0\r\n\r\n"

asked : Request
asked = record { method = text "INVITE"; uri = text "sip:b"; fields = []; body = [] }

nobody : Profile
nobody = record { rows = []; members = []; criteria = [] }

-- document 01's image of one criterion, with this priority (four bytes) and this default handling
one_of : ℕ → ℕ → ℕ → ℕ → ℕ → List ℕ
one_of a b c d h =
    1 ∷ 0 ∷ 1 ∷ 0 ∷ 5 ∷ 115 ∷ 105 ∷ 112 ∷ 58 ∷ 97 ∷ 0 ∷ 0 ∷ 0 ∷ 0 ∷ 0 ∷ 1
    ∷ a ∷ b ∷ c ∷ d ∷ 2 ∷ 2 ∷ 0 ∷ 0 ∷ 0 ∷ 0 ∷ 0 ∷ 0 ∷ h ∷ 255 ∷ 255 ∷ []

value : ℕ → ℕ → ℕ → ℕ → ℕ
value a b c d = (((0 * 256 + a) * 256 + b) * 256 + c) * 256 + d

server_only : ℕ → ℕ → Profile
server_only priority h = record {
  rows = [];
  members = [];
  criteria = record {
    priority = priority;
    part = 2;
    form = 2;
    first = 0;
    count = 0;
    server = record { start = 5; bytes = text "sip:a" };
    handling = h;
    info = none;
  } ∷ [];
}

reads : read_request invite ≡ some asked
unfolding read_request invite asked
reads = refl

nobody_judged : judge empty_profile ≡ accepted nobody
unfolding judge nobody
nobody_judged = refl

one_judged : (a b c d h : ℕ) → h < 2 → judge (one_of a b c d h) ≡ accepted (server_only (value a b c d) h)
unfolding judge one_of server_only value
one_judged a b c d zero l = refl
one_judged a b c d (suc zero) l = refl
one_judged a b c d (suc (suc h)) l = absurd (omega arith)

one_bytes : (a b c d h : ℕ) → a < 256 → b < 256 → c < 256 → d < 256 → h < 2 → Bytes (one_of a b c d h)
unfolding one_of
one_bytes a b c d h la lb lc ld lh =
    let t : T (ltb h 256 && true) = both (ltb h 256) true (lt→ltb h 256 (omega arith)) tt in
    both (ltb a 256) (ltb b 256 && (ltb c 256 && (ltb d 256 && (ltb h 256 && true)))) (lt→ltb a 256 la)
    (both (ltb b 256) (ltb c 256 && (ltb d 256 && (ltb h 256 && true))) (lt→ltb b 256 lb)
    (both (ltb c 256) (ltb d 256 && (ltb h 256 && true)) (lt→ltb c 256 lc)
    (both (ltb d 256) (ltb h 256 && true) (lt→ltb d 256 ld) t)))

-- ---- single steps

module _ (x : Session) (possibly : T (possible x)) where
  -- over the empty profile a ready session is routed
  routed : eqb x.state ready ≡ true → Reached x → Reached (with_state x finished)
  unfolding walk nobody asked invite
  routed e r =
      subst Reached
      (ap (λ (a : Advanced). a.session)
      (advance_walks x empty_profile invite nobody asked
      (record { can_be = possibly; is_ready = T_of e; accepts = nobody_judged; reads = reads; other = refl })))
      (by_advance empty_profile invite tt tt r)

  -- a waiting one moves as its report says
  moved : (n : ℕ) → eqb x.state waiting ≡ true → Reached x → Reached (after_report n x).session
  unfolding report_session
  moved n e r =
      subst (λ (a : Reported). Reached a.session)
      (ap₂ (λ (u v : Bool). pick (u && v) (after_report n x) (stays x 10)) (is_true (possible x) possibly) e)
      (by_report n r)

-- a session that is opened
opened : (k : ℕ) → T (leb k 3) → Reached (fresh k)
unfolding open_session
opened k t =
    subst (λ (o : Opened). Reached o.session)
    (ap (λ (b : Bool). pick b (record { refusal = 0; session = fresh k }) (record { refusal = 8; session = record { case = 0; state = finished; forwarded = 0; last = 0; handling = 0 } })) (is_true (leb k 3) t))
    (by_opening k)

fresh_possible : (k : ℕ) → T (leb k 3) → T (possible (fresh k))
unfolding possible
fresh_possible k t = both (leb k 3) true t tt

-- over one criterion an opened session forwards it
forwarded : (k a b c d h : ℕ) → T (leb k 3) → a < 256 → b < 256 → c < 256 → d < 256 → h < 2 → Reached (make k waiting 1 (value a b c d) h)
unfolding walk asked invite server_only
forwarded k a b c d h t la lb lc ld lh =
    subst Reached
    (ap (λ (w : Advanced). w.session)
    (advance_walks (fresh k) (one_of a b c d h) invite (server_only (value a b c d) h) asked
    (record { can_be = fresh_possible k t; is_ready = tt; accepts = one_judged a b c d h lh; reads = reads; other = refl })))
    (by_advance (one_of a b c d h) invite (one_bytes a b c d h la lb lc ld lh) tt (opened k t))

-- every priority is four bytes
four : (p : ℕ) → p < 4294967296 → value (p / 256 / 256 / 256) (p / 256 / 256 % 256) (p / 256 % 256) (p % 256) ≡ p
unfolding value
four p l = omega arith

waits : (k l h : ℕ) → T (leb k 3) → T (ltb l 4294967296 && leb h 1) → Reached (make k waiting 1 l h)
waits k l h t u =
    let low : l < 4294967296 = ltb→lt l 4294967296 (left (ltb l 4294967296) (leb h 1) u) in
    let small : h ≤ 1 = leb→le h 1 (right (ltb l 4294967296) (leb h 1) u) in
    subst (λ (p : ℕ). Reached (make k waiting 1 p h)) (four l low)
    (forwarded k (l / 256 / 256 / 256) (l / 256 / 256 % 256) (l / 256 % 256) (l % 256) h t (omega arith) (omega arith) (omega arith) (omega arith) (omega arith))

-- ---- every record that a session can have

-- something forwarded: from waiting, by a report; finished, by a route after it returned
by_state : (k l h s : ℕ) → T (leb k 3) → T (ltb l 4294967296 && leb h 1) → T (leb s 4) → T (not (eqb s released) || eqb h 1) → Reached (make k s 1 l h)
by_state k l h zero t u v w = moved (make k waiting 1 l h) (may_be k waiting l h t u tt tt) 0 refl (waits k l h t u)
by_state k l h (suc zero) t u v w = waits k l h t u
by_state k l h (suc (suc zero)) t u v w =
    routed (make k ready 1 l h) (may_be k ready l h t u tt tt) refl
    (moved (make k waiting 1 l h) (may_be k waiting l h t u tt tt) 0 refl (waits k l h t u))
by_state k l h (suc (suc (suc zero))) t u v w =
    let e : 1 ≡ h = sym (eqb→eq h 1 w) in
    subst (λ (d : ℕ). Reached (make k released 1 l d)) e
    (moved (make k waiting 1 l 1) (subst (λ (d : ℕ). T (possible (make k waiting 1 l d))) (sym e) (may_be k waiting l h t u tt tt)) 1 refl
    (subst (λ (d : ℕ). Reached (make k waiting 1 l d)) (sym e) (waits k l h t u)))
by_state k l h (suc (suc (suc (suc zero)))) t u v w = moved (make k waiting 1 l h) (may_be k waiting l h t u tt tt) 2 refl (waits k l h t u)
by_state k l h (suc (suc (suc (suc (suc s))))) t u v w = let z : suc (suc (suc (suc (suc s)))) ≤ 4 = leb→le (suc (suc (suc (suc (suc s))))) 4 v in absurd (omega arith)

some_forwarded : (k s l h : ℕ) → T (possible (make k s 1 l h)) → Reached (make k s 1 l h)
unfolding possible
some_forwarded k s l h t =
    let y : Bool = ltb l 4294967296 && leb h 1 in
    let z : Bool = not (eqb s released) || eqb h 1 in
    let u : T (y && leb s 4 && z) = right (leb k 3) (y && leb s 4 && z) t in
    let v : T (y && leb s 4) = left (y && leb s 4) z u in
    by_state k l h s (left (leb k 3) (y && leb s 4 && z) t) (left y (leb s 4) v) (right y (leb s 4) v) (right (y && leb s 4) z u)

-- nothing forwarded: opened, or routed straight away
none_forwarded : (k s l h : ℕ) → T (possible (make k s 0 l h)) → Reached (make k s 0 l h)
unfolding possible
none_forwarded k s l h t =
    let y : Bool = eqb l 0 && eqb h 0 in
    let z : Bool = eqb s ready || eqb s finished in
    let low : T (leb k 3) = left (leb k 3) (y && z) t in
    let u : T (y && z) = right (leb k 3) (y && z) t in
    let l0 : 0 ≡ l = sym (eqb→eq l 0 (left (eqb l 0) (eqb h 0) (left y z u))) in
    let h0 : 0 ≡ h = sym (eqb→eq h 0 (right (eqb l 0) (eqb h 0) (left y z u))) in
    subst (λ (m : ℕ). Reached (make k s 0 m h)) l0
    (subst (λ (d : ℕ). Reached (make k s 0 0 d)) h0
    (or_cases (eqb s ready) (eqb s finished) (right y z u)
    (λ w. subst (λ (st : ℕ). Reached (make k st 0 0 0)) (sym (eqb→eq s ready w)) (opened k low))
    (λ w. subst (λ (st : ℕ). Reached (make k st 0 0 0)) (sym (eqb→eq s finished w)) (routed (fresh k) (fresh_possible k low) refl (opened k low)))))

-- forwarded is 0 or 1
no_more : (k s f l h : ℕ) → T (possible (make k s (suc (suc f)) l h)) → ⊥
unfolding possible
no_more k s f l h t =
    let x : Session = make k s (suc (suc f)) l h in
    right (leb k 3) false
    (subst₂ (λ (a b : Bool). T (leb k 3 && pick a (nothing_yet x) (b && some_yet x)))
    (ne_eqb (suc (suc f)) 0 (λ e. omega arith)) (ne_eqb (suc (suc f)) 1 (λ e. omega arith)) t)

possible_reached : (k s f l h : ℕ) → T (possible (make k s f l h)) → Reached (make k s f l h)
possible_reached k s zero l h t = none_forwarded k s l h t
possible_reached k s (suc zero) l h t = some_forwarded k s l h t
possible_reached k s (suc (suc f)) l h t = absurd (no_more k s f l h t)

pub possible_iff : (x : Session) → T (possible x) ↔ Reached x
possible_iff x = (possible_reached x.case x.state x.forwarded x.last x.handling, reached_possible)

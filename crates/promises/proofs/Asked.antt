-- One step of a walk: how it comes out, when it asks a server, and what becomes of that.
use borrow.Author.Tests.{eq-eqb, ne_eqb, eqb-true, eqb-false, ltb-true, ltb-false}
use mathlib.Core.Bool.{Bool, ◌&&◌}
use mathlib.Core.Option.{Option, none, some}
use mathlib.Core.Path.{◌≡◌, refl, sym, ap, ◌∙◌, subst, subst₂}
use mathlib.Core.Logic.{◌↔◌}
use Prim.Native.Nat.{ℕ, suc, ◌≤◌, ◌<◌}
use native.Mathlib.Nat.{le_of_eq}
use native.Mathlib.Omega.{arith}
use mathlib.Core.List.Memᴰ
use mathlib.Core.List.{List, [], ◌∷◌, Memᴰ}
use lib.Dec.{T, leb, ltb, eqb, leb→le}
use Rattle.octets.specs.Lists.{pick, same}
use Rattle.octets.proofs.Tests.{T_of, not_T_of, left, right, by_test, test_cases}
use Rattle.profile.specs.Image.{Criterion, Profile, Judged, accepted, refused}
use Rattle.profile.specs.Judging.{judge}
use Rattle.profile.proofs.Accepted.{accepted_sound}
use Rattle.profile.proofs.Placed.{placed_low}
use Rattle.request.specs.Request.{Request, read_request}
use Rattle.session.specs.Session.{possible, ready, waiting, released, ended, forwarded_to, goes, stays, after_report, report_session}
use Rattle.session.specs.declared.Session.{Session}
use Rattle.session.specs.declared.Reported.{Reported}
use Rattle.rows.specs.Rows.{REGISTER}
use Rattle.fitting.specs.Fitting.{criterion_fits}
use Rattle.order.specs.Order.{Numbered, numbered, priority}
use Rattle.order.proofs.Rising.{numbered_apart}
use Rattle.order.proofs.Sums.{unique}
use Rattle.route.specs.Advance.{refuse, walk, in_session, advance_read, advance_judged, advance}
use Rattle.route.specs.declared.Advanced.{Advanced}
use Rattle.promises.specs.Walks.{Candidate, Answers, Answered, Forward, Routes, forwarding, routing}
use Rattle.promises.specs.Passed.{Step, its_advance, its_report, after, its_refusal, Fits, Asks, ahead, Turn, PassedAt, not_above, not_fitting, another_asked, not_answered, Became, sent_back, continued, terminated, final, not_told}
use Rattle.promises.proofs.Next.{advance_answers}
use Rattle.promises.proofs.Possible.{kept_parts}
use Rattle.promises.proofs.Unchanged.{advance_unchanged}

-- ---- an advance with no refusal has an accepted image and a readable request

pub record Answering (x : Session) (image r : List ℕ) : Type 0 where
  pub profile : Profile
  pub in_hand : Request
  pub answers : Answers x image r profile in_hand

abbrev IfAnswered : Session → List ℕ → List ℕ → Advanced → Type 0
IfAnswered x image r a = a.refusal ≡ 0 → Answering x image r

module _ (x : Session) (image r : List ℕ) (t : T (possible x && eqb x.state ready)) where
  read_answering : (p : Profile) → judge image ≡ accepted p → (o : Option Request) → read_request r ≡ o → IfAnswered x image r (advance_read x p o)
  read_answering p j none e = λ h. absurd (omega arith)
  read_answering p j (some q) e =
      by_test (IfAnswered x image r) (same q.method REGISTER) (refuse x 11 0) (walk x p q) (λ m h. absurd (omega arith)) (λ m h. record {
        profile = p;
        in_hand = q;
        answers = record {
          can_be = left (possible x) (eqb x.state ready) t;
          is_ready = right (possible x) (eqb x.state ready) t;
          accepts = j;
          reads = e;
          other = m;
        };
      })

  judged_answering : (j : Judged) → judge image ≡ j → IfAnswered x image r (advance_judged x j r)
  judged_answering (accepted p) e = read_answering p e (read_request r) refl
  judged_answering (refused n place) e = λ h. let low : 0 < n = (placed_low image n place e).1 in absurd (omega arith)

pub answering : (x : Session) (image r : List ℕ) → (advance x image r).refusal ≡ 0 → Answering x image r
unfolding advance
answering x image r =
    by_test (IfAnswered x image r) (possible x && eqb x.state ready) (advance_judged x (judge image) r) (refuse x 10 0)
    (λ e. judged_answering x image r (T_of e) (judge image) refl) (λ e h. absurd (omega arith))

-- ---- a step is refused at its advance, is routed, or asks a server and reports

pub record Stuck (s : Step) : Type 0 where
  pub refused_here : (its_advance s).refusal ≡ 0 → ⊥
  pub idle : (its_advance s).outcome ≡ 0
  pub same_refusal : its_refusal s ≡ (its_advance s).refusal
  pub same_session : after s ≡ s.session

pub record Done (s : Step) : Type 0 where
  pub given : Answering s.session s.image s.request
  pub routes : Routes s.session given.profile given.in_hand (its_advance s)
  pub leaves : after s ≡ (its_advance s).session

pub record Sent (s : Step) : Type 0 where
  pub given : Answering s.session s.image s.request
  pub forward : Forward s.session given.profile given.in_hand (its_advance s)
  pub same_refusal : its_refusal s ≡ (its_report s).refusal
  pub same_session : after s ≡ (its_report s).session

pub data Came (s : Step) : Type 0 where
  stuck : Stuck s → Came s
  done : Done s → Came s
  sent : Sent s → Came s

module _ (s : Step) where
  -- after a forward, the report's answer; else the advance's
  by_outcome : {b : Bool} → eqb (its_advance s).outcome 1 ≡ b
      → (its_refusal s ≡ pick b (its_report s).refusal (its_advance s).refusal) × (after s ≡ pick b (its_report s).session (its_advance s).session)
  unfolding its_refusal after
  by_outcome e = (
    ap (λ (b : Bool). pick b (its_report s).refusal (its_advance s).refusal) e,
    ap (λ (b : Bool). pick b (its_report s).session (its_advance s).session) e,
  )

  came_answered : (g : Answering s.session s.image s.request) → Answered s.session g.profile g.in_hand (its_advance s) → Came s
  came_answered g (forwarding f) =
      let r = by_outcome (eq-eqb (its_advance s).outcome 1 f.outcome) in
      sent (record { given = g; forward = f; same_refusal = r.0; same_session = r.1 })
  came_answered g (routing f) =
      let r = by_outcome (ne_eqb (its_advance s).outcome 1 (λ e. let z : ◌≡◌ {A = ℕ} 2 1 = sym f.outcome ∙ e in omega arith)) in
      done (record { given = g; routes = f; leaves = r.1 })

  came_refused : ((its_advance s).refusal ≡ 0 → ⊥) → Came s
  came_refused n =
      let u = advance_unchanged s.session s.image s.request n in
      let r = by_outcome (ne_eqb (its_advance s).outcome 1 (λ e. let z : ◌≡◌ {A = ℕ} 0 1 = sym u.outcome ∙ e in omega arith)) in
      stuck (record { refused_here = n; idle = u.outcome; same_refusal = r.0; same_session = r.1 ∙ u.session })

  pub came : Came s
  came =
      test_cases (eqb (its_advance s).refusal 0)
      (λ e. let g = answering s.session s.image s.request (eqb-true (its_advance s).refusal 0 e) in
      came_answered g (advance_answers s.session s.image s.request g.profile g.in_hand g.answers))
      (λ e. came_refused (λ z. eqb-false (its_advance s).refusal 0 e z))

-- ---- a number names one criterion

number_from : {n : Numbered} (i : ℕ) (cs : List Criterion) → Memᴰ n (numbered i cs) → i ≤ n.number
number_from i [] d = absurd (Memᴰ.not-nil d)
number_from i (c ∷ cs) (Memᴰ.head e) = le_of_eq (sym (ap (λ (k : Numbered). k.number) e))
number_from i (c ∷ cs) (Memᴰ.tail d) = omega (arith, number_from (suc i) cs d)

same_number : {m n : Numbered} (i : ℕ) (cs : List Criterion) → Memᴰ m (numbered i cs) → Memᴰ n (numbered i cs) → m.number ≡ n.number → m ≡ n
same_number i [] d e q = absurd (Memᴰ.not-nil d)
same_number i (c ∷ cs) (Memᴰ.head a) (Memᴰ.head b) q = a ∙ sym b
same_number i (c ∷ cs) (Memᴰ.head a) (Memᴰ.tail e) q =
    let z : _ ≡ i = ap (λ (k : Numbered). k.number) a in absurd (omega (arith, number_from (suc i) cs e))
same_number i (c ∷ cs) (Memᴰ.tail d) (Memᴰ.head b) q =
    let z : _ ≡ i = ap (λ (k : Numbered). k.number) b in absurd (omega (arith, number_from (suc i) cs d))
same_number i (c ∷ cs) (Memᴰ.tail d) (Memᴰ.tail e) q = same_number (suc i) cs d e q

-- ---- the step that asks a server

-- what is known of it
pub record Taken (s : Step) (n : Numbered) : Type 0 where
  pub profile : Profile
  pub in_hand : Request
  pub answers : Answers s.session s.image s.request profile in_hand
  pub candidate : Candidate s.session profile in_hand n
  pub lowest : (m : Numbered) → Candidate s.session profile in_hand m → priority n ≤ priority m
  pub session : (its_advance s).session ≡ forwarded_to s.session (priority n) n.criterion.handling
  pub not_refused : (its_advance s).refusal ≡ 0
  pub same_refusal : its_refusal s ≡ (its_report s).refusal
  pub same_session : after s ≡ (its_report s).session

module _ {s : Step} where
  pub sent_taken : (f : Sent s) → Taken s f.forward.chosen_one
  sent_taken f = record {
    profile = f.given.profile;
    in_hand = f.given.in_hand;
    answers = f.given.answers;
    candidate = f.forward.candidate;
    lowest = f.forward.lowest;
    session = f.forward.session;
    not_refused = f.forward.counts.refusal;
    same_refusal = f.same_refusal;
    same_session = f.same_session;
  }

  pub sent_asks : (f : Sent s) → Asks s f.forward.chosen_one
  sent_asks f = record {
    profile = f.given.profile;
    accepts = f.given.answers.accepts;
    member = f.forward.candidate.member;
    outcome = f.forward.outcome;
    number = f.forward.number;
  }

  -- one step asks one server
  pub asks_one : {m n : Numbered} → Asks s m → Asks s n → m ≡ n
  asks_one {m} a b =
      let e : a.profile ≡ b.profile = cc (a.accepts, b.accepts) in
      same_number 0 b.profile.criteria
      (subst (λ (p : Profile). Memᴰ m (numbered 0 p.criteria)) e a.member) b.member (sym a.number ∙ b.number)

  asks_from : {n : Numbered} → Asks s n → Came s → Taken s n
  asks_from a (stuck k) = let z : ◌≡◌ {A = ℕ} 0 1 = sym k.idle ∙ a.outcome in absurd (omega arith)
  asks_from a (done d) = let z : ◌≡◌ {A = ℕ} 2 1 = sym d.routes.outcome ∙ a.outcome in absurd (omega arith)
  asks_from a (sent f) = subst (Taken s) (asks_one (sent_asks f) a) (sent_taken f)

  pub asks_taken : {n : Numbered} → Asks s n → Taken s n
  asks_taken a = asks_from a (came s)

  -- what fits and is ahead is a candidate, and a candidate fits
  pub fits_candidate : {n : Numbered} (p : Profile) (q : Request) → Answers s.session s.image s.request p q
      → Fits s n → T (ahead s.session (priority n)) → Candidate s.session p q n
  fits_candidate {n} p q h f t =
      let e : f.profile ≡ p = cc (f.accepts, h.accepts) in
      let g : f.in_hand ≡ q = cc (f.reads, h.reads) in
      record {
        member = subst (λ (p : Profile). Memᴰ n (numbered 0 p.criteria)) e f.member;
        above = t;
        fit = subst₂ (λ (q : Request) (p : Profile). T (criterion_fits q (in_session s.session) p n.criterion)) g e f.fit;
      }

  candidate_fits : {n : Numbered} (p : Profile) (q : Request) → Answers s.session s.image s.request p q → Candidate s.session p q n → Fits s n
  candidate_fits p q h c = record { profile = p; in_hand = q; accepts = h.accepts; reads = h.reads; member = c.member; fit = c.fit }

  pub taken_fits : {n : Numbered} → Taken s n → Fits s n
  taken_fits h = candidate_fits h.profile h.in_hand h.answers h.candidate

-- ---- "when a server's turn comes, the call goes to it exactly if its criterion fits the request as it is at that moment"

module _ {s : Step} {n : Numbered} where
  taken_turn : Taken s n → Turn s (priority n)
  taken_turn h = record {
    answered = h.not_refused;
    above = h.candidate.above;
    none_between = λ m f t lt. let le : priority n ≤ priority m = h.lowest m (fits_candidate h.profile h.in_hand h.answers f t) in omega arith;
  }

  -- the server that is asked then has its priority, and in an accepted image no two have the same
  sent_turn : Turn s (priority n) → Fits s n → (f : Sent s) → Asks s n
  sent_turn t f g =
      let p = g.given.profile in
      let c = fits_candidate p g.given.in_hand g.given.answers f t.above in
      let m = g.forward.chosen_one in
      let d = g.forward.candidate in
      let low : priority m ≤ priority n = g.forward.lowest n c in
      let not_below : priority m < priority n → ⊥ = t.none_between m (taken_fits (sent_taken g)) d.above in
      let apart = numbered_apart 0 p.criteria (accepted_sound s.image p g.given.answers.accepts).distinct in
      subst (Asks s) (unique d.member c.member apart (omega arith)) (sent_asks g)

  turn_asks : Turn s (priority n) → Fits s n → Came s → Asks s n
  turn_asks t f (stuck k) = absurd (k.refused_here t.answered)
  turn_asks t f (done d) = absurd (d.routes.none_fits n (fits_candidate d.given.profile d.given.in_hand d.given.answers f t.above))
  turn_asks t f (sent g) = sent_turn t f g

  pub asked_exactly : Asks s n ↔ (Turn s (priority n) × Fits s n)
  asked_exactly = (λ a. let h = asks_taken a in (taken_turn h, taken_fits h), λ h. turn_asks h.0 h.1 (came s))

-- ---- and if it is not asked, why

-- the turn of a priority comes where a server after it is asked, or none
pub turn_sent : {s : Step} {k : ℕ} (h : Sent s) → T (ahead s.session k) → (priority h.forward.chosen_one < k → ⊥) → Turn s k
turn_sent {s} {k} h t no_less = record {
  answered = h.forward.counts.refusal;
  above = t;
  none_between = λ n f u lt.
      let le = h.forward.lowest n (fits_candidate h.given.profile h.given.in_hand h.given.answers f u) in
      omega arith;
}

pub done_none : {s : Step} {n : Numbered} → Done s → Fits s n → T (ahead s.session (priority n)) → ⊥
done_none {n = n} h f t = h.routes.none_fits n (fits_candidate h.given.profile h.given.in_hand h.given.answers f t)

pub turn_done : {s : Step} {k : ℕ} → Done s → T (ahead s.session k) → Turn s k
turn_done h t = record { answered = h.routes.counts.refusal; above = t; none_between = λ n f u lt. done_none h f u }

module _ {s : Step} {n : Numbered} where
  passed_ahead : (Asks s n → ⊥) → T (ahead s.session (priority n)) → Came s → PassedAt s n
  passed_ahead never t (stuck h) = not_answered h.refused_here
  passed_ahead never t (done h) = not_fitting (turn_done h t) (λ f. done_none h f t)
  passed_ahead never t (sent h) =
      let m = h.forward.chosen_one in
      test_cases (ltb (priority m) (priority n)) (λ e. another_asked m (sent_asks h) (ltb-true (priority m) (priority n) e))
      (λ e.
      let turn = turn_sent h t (λ lt. let ge = ltb-false (priority m) (priority n) e in omega arith) in
      not_fitting turn (λ f. never (asked_exactly.1 (turn, f))))

  at_passed : PassedAt s n → Asks s n → ⊥
  at_passed (not_above h) a = h (asks_taken a).candidate.above
  at_passed (not_fitting t h) a = h (taken_fits (asks_taken a))
  at_passed (another_asked m b lt) a = let q : priority m ≡ priority n = ap priority (asks_one b a) in omega arith
  at_passed (not_answered h) a = h (asks_taken a).not_refused

  pub passed_at_exactly : (Asks s n → ⊥) ↔ PassedAt s n
  passed_at_exactly = (
    λ never. test_cases (ahead s.session (priority n)) (λ e. passed_ahead never (T_of e) (came s)) (λ e. not_above (not_T_of e)),
    at_passed,
  )

-- ---- what became of it

module _ {s : Step} {n : Numbered} (a : Asks s n) where
  -- the session that waits for the report
  waits : Session
  waits = forwarded_to s.session (priority n) n.criterion.handling

  -- what the report says, once its answer is known
  abbrev Says : Reported → Type 0
  Says r = its_report s ≡ r → Became s n

  after_is : (r : Reported) → its_report s ≡ r → (after s).state ≡ r.session.state
  after_is r e = ap (λ (x : Session). x.state) (asks_taken a).same_session ∙ ap (λ (r : Reported). r.session.state) e

  refused_says : (k : ℕ) → (k ≡ 0 → ⊥) → Says (stays waits k)
  unfolding waits
  refused_says k SomeNumber e = not_told (λ z. SomeNumber (sym (ap (λ (r : Reported). r.refusal) e) ∙ z)) (after_is (stays waits k) e)

  unreached_says : T (possible waits) → s.report ≡ 1 → Says (goes waits (pick (eqb waits.handling 0) ready released))
  unfolding waits
  unreached_says t one =
      let h = n.criterion.handling in
      by_test (λ (k : ℕ). Says (goes waits k)) (eqb h 0) ready released
      (λ e w. continued one (eqb-true h 0 e) (after_is (goes waits ready) w))
      (λ e w.
      let le : h ≤ 1 = leb→le h 1 (right (ltb (priority n) 4294967296) (leb h 1) (kept_parts s.session.case waiting (priority n) h t).1) in
      let no : h ≡ 0 → ⊥ = eqb-false h 0 e in
      terminated one (omega arith) (after_is (goes waits released) w))

  told_says : T (possible waits) → Says (after_report s.report waits)
  unfolding waits
  told_says t =
      let k = s.report in
      let two : Reported = pick (eqb k 2) (goes waits ended) (stays waits 8) in
      let one : Reported = pick (eqb k 1) (goes waits (pick (eqb waits.handling 0) ready released)) two in
      by_test Says (eqb k 0) (goes waits ready) one (λ e w. sent_back (eqb-true k 0 e) (after_is (goes waits ready) w))
      (λ e. by_test Says (eqb k 1) (goes waits (pick (eqb waits.handling 0) ready released)) two (λ f. unreached_says t (eqb-true k 1 f))
      (λ f. by_test Says (eqb k 2) (goes waits ended) (stays waits 8) (λ g w. final (eqb-true k 2 g) (after_is (goes waits ended) w))
      (λ g. refused_says 8 (λ z. omega arith))))

  pub became : Became s n
  unfolding report_session waits
  became =
      by_test Says (possible waits && eqb waits.state waiting) (after_report s.report waits) (stays waits 10)
      (λ e. told_says (left (possible waits) (eqb waits.state waiting) (T_of e))) (λ e. refused_says 10 (λ z. omega arith))
      (ap (λ (x : Session). report_session x s.report) (asks_taken a).session)

-- In a walk that has come to its end, a criterion was never asked exactly if one of the ways past it was taken.
use mathlib.Core.Bool.{◌||◌}
use mathlib.Core.Path.{◌≡◌, refl, sym, ap, ◌∙◌, subst, subst₂}
use mathlib.Core.Logic.{◌↔◌, ◌⊎◌, inl, inr, ⊎_elim}
use Prim.Native.Nat.{ℕ, ◌<◌}
use native.Mathlib.Omega.{arith}
use mathlib.Core.List.Memᴰ
use mathlib.Core.List.{List, Memᴰ}
use lib.Dec.{T, leb, ltb, eqb, ltb→lt, lt→ltb}
use borrow.Author.Tests.{ltb-true, ltb-false}
use Rattle.octets.proofs.Tests.{or_left, or_right, or_cases, either, test_cases}
use Rattle.profile.specs.Image.{Profile, accepted}
use Rattle.profile.specs.Judging.{judge}
use Rattle.profile.proofs.Accepted.{accepted_sound}
use Rattle.session.specs.Session.{ready, finished, fresh, unopened, open_session}
use Rattle.session.specs.declared.Session.{Session}
use Rattle.session.specs.declared.Opened.{Opened}
use Rattle.order.specs.Order.{Numbered, numbered, priority}
use Rattle.order.proofs.Rising.{numbered_apart}
use Rattle.order.proofs.Sums.{unique}
use Rattle.promises.specs.Passed as passed
use Rattle.promises.specs.Passed.{Step, its_advance, after, its_refusal, Walk, at_end, stopped, step_and, Over, Fits, Asks, ahead, Turn, Became, NoneAsked, NeverAsked, WayPast}
use Rattle.promises.proofs.Asked.{Came, stuck, done, sent, came, Sent, Done, Taken, sent_taken, sent_asks, asks_taken, asks_one, fits_candidate, taken_fits, turn_sent, turn_done, done_none, became}
use Rattle.promises.proofs.AtMost.{report_keeps}
use Rattle.promises.proofs.Unchanged.{open_unopened}

-- ---- what is ahead of a session

-- what is ahead, and all above it
ahead_up : (x : Session) (j k : ℕ) → j < k → T (ahead x j) → T (ahead x k)
ahead_up x j k lt t =
    or_cases (eqb x.forwarded 0) (ltb x.last j) t (or_left (eqb x.forwarded 0) (ltb x.last k))
    (λ u. let z : x.last < j = ltb→lt x.last j u in or_right (eqb x.forwarded 0) (ltb x.last k) (lt→ltb x.last k (omega arith)))

module _ {s : Step} {n : Numbered} (h : Taken s n) where
  -- the session keeps the priority of the server asked
  kept_forwarded : (after s).forwarded ≡ 1
  kept_forwarded =
      ap (λ (x : Session). x.forwarded) h.same_session ∙ (report_keeps (its_advance s).session s.report).same_forwarded
      ∙ ap (λ (x : Session). x.forwarded) h.session

  kept_last : (after s).last ≡ priority n
  kept_last =
      ap (λ (x : Session). x.last) h.same_session ∙ (report_keeps (its_advance s).session s.report).same_last
      ∙ ap (λ (x : Session). x.last) h.session

  -- so that what is ahead then is above it
  ahead_above : (k : ℕ) → T (ahead (after s) k) → priority n < k
  ahead_above k t = ltb→lt (priority n) k (subst₂ (λ (a b : ℕ). T (eqb a 0 || ltb b k)) kept_forwarded kept_last t)

  above_ahead : (k : ℕ) → priority n < k → T (ahead (after s) k)
  above_ahead k lt = subst₂ (λ (a b : ℕ). T (eqb a 0 || ltb b k)) (sym kept_forwarded) (sym kept_last) (lt→ltb (priority n) k lt)

-- nothing comes to be ahead
ahead_by : (s : Step) (k : ℕ) → Came s → T (ahead (after s) k) → T (ahead s.session k)
ahead_by s k (stuck h) t = subst (λ (x : Session). T (ahead x k)) h.same_session t
ahead_by s k (done h) t = subst (λ (x : Session). T (ahead x k)) (h.leaves ∙ h.routes.session) t
ahead_by s k (sent h) t =
    let a = sent_taken h in
    ahead_up s.session (priority h.forward.chosen_one) k (ahead_above a k t) a.candidate.above

ahead_before : (s : Step) (k : ℕ) → T (ahead (after s) k) → T (ahead s.session k)
ahead_before s k = ahead_by s k (came s)

-- ---- along a walk

-- a walk with a step begins ready
walk_ready : {x : Session} {w : List Step} → Walk x w → (s : Step) → Memᴰ s w → x.state ≡ ready
walk_ready (at_end h) s d = absurd (Memᴰ.not-nil d)
walk_ready (stopped u r h) s d = r
walk_ready (step_and u r h w) s d = r

module _ (k : ℕ) where
  asks_ahead : {s : Step} {n : Numbered} → Asks s n → priority n ≡ k → T (ahead s.session k)
  asks_ahead {s} a e = subst (λ (j : ℕ). T (ahead s.session j)) e (asks_taken a).candidate.above

  -- what is behind is not asked any more
  behind_never : {x : Session} {w : List Step} → Walk x w → (T (ahead x k) → ⊥) → NoneAsked w k
  behind_never (at_end h) b n e t d a = Memᴰ.not-nil d
  behind_never (stopped s r h) b n e t d a = b (asks_ahead (subst (λ (u : Step). Asks u n) (Memᴰ.eq_of_singleton d) a) e)
  behind_never (step_and s r h w) b n e t (Memᴰ.head q) a = b (asks_ahead (subst (λ (u : Step). Asks u n) q a) e)
  behind_never (step_and s r h w) b n e t (Memᴰ.tail d) a = behind_never w (λ u. b (ahead_before s k u)) n e t d a

  -- what is ahead at a step was ahead from the start
  ahead_from : {x : Session} {w : List Step} → Walk x w → (s : Step) → Memᴰ s w → T (ahead s.session k) → T (ahead x k)
  ahead_from (at_end h) s d t = absurd (Memᴰ.not-nil d)
  ahead_from (stopped u r h) s d t = subst (λ (u : Step). T (ahead u.session k)) (Memᴰ.eq_of_singleton d) t
  ahead_from (step_and u r h w) s (Memᴰ.head q) t = subst (λ (u : Step). T (ahead u.session k)) q t
  ahead_from (step_and u r h w) s (Memᴰ.tail d) t = ahead_before u k (ahead_from w s d t)

  -- a step at which it was ahead and was not asked, and after which it is not ahead or the walk has come to its end
  record Past (s : Step) : Type 0 where
    was_ahead : T (ahead s.session k)
    not_asked : (n : Numbered) → Asks s n → priority n ≡ k → ⊥
    closed : its_refusal s ≡ 0 → (after s).state ≡ ready → T (ahead (after s) k) → ⊥

  -- is not asked before it, there, or after it
  past_never : {x : Session} {w : List Step} → Walk x w → (s : Step) → Memᴰ s w → Past s → NoneAsked w k
  past_never (at_end h) s d p n e t i a = Memᴰ.not-nil d
  past_never (stopped u r h) s d p n e t i a =
      p.not_asked n (subst (λ (u : Step). Asks u n) (Memᴰ.eq_of_singleton i ∙ sym (Memᴰ.eq_of_singleton d)) a) e
  past_never (step_and u r h w) s (Memᴰ.head q) p n e t (Memᴰ.head i) a = p.not_asked n (subst (λ (u : Step). Asks u n) (i ∙ sym q) a) e
  past_never (step_and u r h w) s (Memᴰ.head q) p n e t (Memᴰ.tail i) a =
      let c = (subst Past q p).closed in
      behind_never w (c h (walk_ready w t i)) n e t i a
  past_never (step_and u r h w) s (Memᴰ.tail d) p n e t (Memᴰ.head i) a =
      let b = subst (λ (u : Step). Asks u n) i a in
      let lt : priority n < k = ahead_above (asks_taken b) k (ahead_from w s d p.was_ahead) in
      omega arith
  past_never (step_and u r h w) s (Memᴰ.tail d) p n e t (Memᴰ.tail i) a = past_never w s d p n e t i a

-- ---- each way is such a step

-- at a step that asks a server before it
before_past : {k : ℕ} {s : Step} {n : Numbered} → Asks s n → priority n < k → (its_refusal s ≡ 0 → (after s).state ≡ ready → ⊥) → Past k s
before_past {k} {s} {n} a lt stops = record {
  was_ahead = ahead_up s.session (priority n) k lt (asks_taken a).candidate.above;
  not_asked = λ m b e. let q : priority n ≡ priority m = ap priority (asks_one a b) in omega arith;
  closed = λ h r t. stops h r;
}

-- a session is ready again only after these reports
ready_again : {s : Step} {n : Numbered} → Asks s n → its_refusal s ≡ 0 → (after s).state ≡ ready
    → (s.report ≡ 0) ⊎ ((s.report ≡ 1) × (n.criterion.handling ≡ 0))
ready_again {s} {n} a z r = go (became a)
  where
    go : Became s n → (s.report ≡ 0) ⊎ ((s.report ≡ 1) × (n.criterion.handling ≡ 0))
    go (passed.sent_back e x) = inl e
    go (passed.continued e d x) = inr (e, d)
    go (passed.terminated e d x) = let z : ◌≡◌ {A = ℕ} 3 0 = sym x ∙ r in absurd (omega arith)
    go (passed.final e x) = let z : ◌≡◌ {A = ℕ} 4 0 = sym x ∙ r in absurd (omega arith)
    go (passed.not_told f x) = absurd (f (sym (asks_taken a).same_refusal ∙ z))

-- where its turn came and it did not fit
module _ {k : ℕ} {s : Step} (t : Turn s k) (unfit : (n : Numbered) → Fits s n → priority n ≡ k → ⊥) where
  unfit_asks : (n : Numbered) → Asks s n → priority n ≡ k → ⊥
  unfit_asks n a e = unfit n (taken_fits (asks_taken a)) e

  unfit_closed : Came s → its_refusal s ≡ 0 → (after s).state ≡ ready → T (ahead (after s) k) → ⊥
  unfit_closed (stuck h) z r u = h.refused_here t.answered
  unfit_closed (done h) z r u =
      let e : (after s).state ≡ finished = ap (λ (x : Session). x.state) (h.leaves ∙ h.routes.session) in
      let z : ◌≡◌ {A = ℕ} 2 0 = sym e ∙ r in
      omega arith
  unfit_closed (sent h) z r u =
      let n = h.forward.chosen_one in
      t.none_between n (taken_fits (sent_taken h)) h.forward.candidate.above (ahead_above (sent_taken h) k u)

  unfit_past : Past k s
  unfit_past = record { was_ahead = t.above; not_asked = unfit_asks; closed = unfit_closed (came s) }

refused_past : {k : ℕ} {s : Step} → T (ahead s.session k) → ((its_advance s).refusal ≡ 0 → ⊥) → Came s → Past k s
refused_past {k} {s} t f (stuck h) = record {
  was_ahead = t;
  not_asked = λ n a e. let z : ◌≡◌ {A = ℕ} 0 1 = sym h.idle ∙ a.outcome in omega arith;
  closed = λ z r u. f (sym h.same_refusal ∙ z);
}
refused_past t f (done h) = absurd (f h.routes.counts.refusal)
refused_past t f (sent h) = absurd (f h.forward.counts.refusal)

way_never : {case : ℕ} {w : List Step} {k : ℕ} → Walk (open_session case).session w → WayPast case w k → NoneAsked w k
way_never {k = k} v (passed.does_not_fit s d t unfit) = past_never k v s d (unfit_past t unfit)
way_never {k = k} v (passed.final_response s d n a lt e) =
    past_never k v s d (before_past a lt (λ z r. ⊎_elim (λ q. omega arith) (λ q. omega arith) (ready_again a z r)))
way_never {k = k} v (passed.not_reached s d n a lt e h) =
    past_never k v s d (before_past a lt (λ z r. ⊎_elim (λ q. omega arith) (λ q. omega arith) (ready_again a z r)))
way_never {case} v (passed.opening_refused f) = λ n e s d a.
    let r : (open_session case).session.state ≡ ready = walk_ready v s d in
    let u : (open_session case).session.state ≡ finished = ap (λ (x : Session). x.state) (open_unopened case f) in
    let z : ◌≡◌ {A = ℕ} 2 0 = sym u ∙ r in
    omega arith
way_never {k = k} v (passed.advance_refused s d t f) = past_never k v s d (refused_past t f (came s))
way_never {k = k} v (passed.report_refused s d n a lt f) = past_never k v s d (before_past a lt (λ h r. f (sym (asks_taken a).same_refusal ∙ h)))

-- ---- where none is asked, one of the ways was taken

module _ (case : ℕ) (all : List Step) (k : ℕ) where
  -- its turn came at a step that asks a server after it
  asked_after : {s : Step} (h : Sent s) → Memᴰ s all → T (ahead s.session k) → ((n : Numbered) → priority n ≡ k → Asks s n → ⊥)
      → (priority h.forward.chosen_one < k → ⊥) → WayPast case all k
  asked_after {s} h d t never no_less =
      let m = h.forward.chosen_one in
      passed.does_not_fit s d (turn_sent h t no_less) (λ n f e.
      let u = subst (λ (j : ℕ). T (ahead s.session j)) (sym e) t in
      let le = h.forward.lowest n (fits_candidate h.given.profile h.given.in_hand h.given.answers f u) in
      never m (omega arith) (sent_asks h))

  -- or that routes
  asked_none : {s : Step} (h : Done s) → Memᴰ s all → T (ahead s.session k) → WayPast case all k
  asked_none {s} h d t =
      passed.does_not_fit s d (turn_done h t) (λ n f e. done_none h f (subst (λ (j : ℕ). T (ahead s.session j)) (sym e) t))

  -- the walk ended at a server before it
  ended_before : {s : Step} {n : Numbered} (a : Asks s n) → Memᴰ s all → priority n < k → its_refusal s ≡ 0 → ((after s).state ≡ ready → ⊥)
      → WayPast case all k
  ended_before {s} {n} a d lt z over = go (became a)
    where
      go : Became s n → WayPast case all k
      go (passed.sent_back e x) = absurd (over x)
      go (passed.continued e h x) = absurd (over x)
      go (passed.terminated e h x) = passed.not_reached s d n a lt e h
      go (passed.final e x) = passed.final_response s d n a lt e
      go (passed.not_told f x) = absurd (f (sym (asks_taken a).same_refusal ∙ z))

  -- a step that is refused
  way_stopped : {s : Step} → Memᴰ s all → T (ahead s.session k) → ((n : Numbered) → priority n ≡ k → Asks s n → ⊥) → (its_refusal s ≡ 0 → ⊥) → Came s
      → WayPast case all k
  way_stopped {s} d t never f (stuck h) = passed.advance_refused s d t h.refused_here
  way_stopped {s} d t never f (done h) = asked_none h d t
  way_stopped {s} d t never f (sent h) =
      let m = h.forward.chosen_one in
      test_cases (ltb (priority m) k)
      (λ e. passed.report_refused s d m (sent_asks h) (ltb-true (priority m) k e) (λ z. f (h.same_refusal ∙ z)))
      (λ e. asked_after h d t never (λ lt. let ge = ltb-false (priority m) k e in omega arith))

  -- a step that is not, with what the rest of the walk comes to
  way_on : {s : Step} → Memᴰ s all → T (ahead s.session k) → ((n : Numbered) → priority n ≡ k → Asks s n → ⊥) → its_refusal s ≡ 0
      → (T (ahead (after s) k) → (((after s).state ≡ ready → ⊥) → WayPast case all k) → WayPast case all k) → Came s → WayPast case all k
  way_on d t never z rest (stuck h) = absurd (h.refused_here (sym h.same_refusal ∙ z))
  way_on d t never z rest (done h) = asked_none h d t
  way_on d t never z rest (sent h) =
      let m = h.forward.chosen_one in
      test_cases (ltb (priority m) k)
      (λ e. let lt = ltb-true (priority m) k e in rest (above_ahead (sent_taken h) k lt) (λ over. ended_before (sent_asks h) d lt z over))
      (λ e. asked_after h d t never (λ lt. let ge = ltb-false (priority m) k e in omega arith))

  -- from a session on, with what it means if that is not ready
  ways : {x : Session} {w : List Step} → Walk x w → ((s : Step) → Memᴰ s w → Memᴰ s all) → T (ahead x k) → NoneAsked w k
      → ((x.state ≡ ready → ⊥) → WayPast case all k) → WayPast case all k
  ways (at_end h) into t never over = over h
  ways (stopped s r f) into t never over = way_stopped (into s (Memᴰ.head refl)) t (λ n e a. never n e s (Memᴰ.head refl) a) f (came s)
  ways (step_and s r z w) into t never over =
      way_on (into s (Memᴰ.head refl)) t (λ n e a. never n e s (Memᴰ.head refl) a) z
      (λ u o. ways w (λ v i. into v (Memᴰ.tail i)) u (λ n e v i a. never n e v (Memᴰ.tail i) a) o) (came s)

-- an opening that is not refused is ready, and has all ahead
opened : (case : ℕ) → ((open_session case).refusal ≡ 0) → (open_session case).session ≡ fresh case
unfolding open_session
opened case =
    either (λ (o : Opened). o.refusal ≡ 0 → o.session ≡ fresh case) (leb case 3)
    (record { refusal = 0; session = fresh case }) (record { refusal = 8; session = unopened }) (λ z. refl) (λ z. absurd (omega arith))

all_ahead : (case k : ℕ) → T (ahead (open_session case).session k)
unfolding open_session
all_ahead case k =
    either (λ (o : Opened). T (ahead o.session k)) (leb case 3)
    (record { refusal = 0; session = fresh case }) (record { refusal = 8; session = unopened }) tt tt

never_way : {case : ℕ} {w : List Step} {k : ℕ} → Walk (open_session case).session w → NoneAsked w k → WayPast case w k
never_way {case} {w} {k} v never =
    ways case w k v (λ s d. d) (all_ahead case k) never (λ over. passed.opening_refused (λ z. over (ap (λ (x : Session). x.state) (opened case z))))

-- over whatever images: none of this priority was asked exactly if ..
pub none_asked_exactly : (case : ℕ) (w : List Step) → Walk (open_session case).session w → (k : ℕ) → NoneAsked w k ↔ WayPast case w k
none_asked_exactly case w v k = (never_way v, way_never v)

-- over one image: a criterion of it was never asked exactly if ..
pub passed_by_exactly : (image : List ℕ) (p : Profile) → judge image ≡ accepted p → (c : Numbered) → Memᴰ c (numbered 0 p.criteria)
    → (case : ℕ) (w : List Step) → Walk (open_session case).session w → Over image w → NeverAsked w c ↔ WayPast case w (priority c)
passed_by_exactly image p j c m case w v one =
    (λ never. never_way v (λ n e s d a. never s d (subst (Asks s) (only_one s d n a e) a)), λ y s d a. way_never v y c refl s d a)
  where
    only_one : (s : Step) → Memᴰ s w → (n : Numbered) → Asks s n → priority n ≡ priority c → n ≡ c
    only_one s d n a e =
        let q : a.profile ≡ p = cc (a.accepts, j, one s d) in
        unique (subst (λ (p : Profile). Memᴰ n (numbered 0 p.criteria)) q a.member) m
        (numbered_apart 0 p.criteria (accepted_sound image p j).distinct) e

-- ---- and at most once

asked_behind : {u : Step} {w : List Step} → Walk (after u) w → (t : Step) (m n : Numbered) → Memᴰ t w → Asks u m → Asks t n → priority m ≡ priority n → ⊥
asked_behind {u} w t m n i a b e =
    behind_never (priority n) w (λ y. let lt : priority m < priority n = ahead_above (asks_taken a) (priority n) y in omega arith) n refl t i b

pub asked_once : {x : Session} {w : List Step} → Walk x w → (s t : Step) (m n : Numbered) → Memᴰ s w → Memᴰ t w
    → Asks s m → Asks t n → priority m ≡ priority n → s ≡ t
asked_once (at_end h) s t m n d i a b e = absurd (Memᴰ.not-nil d)
asked_once (stopped u r h) s t m n d i a b e = Memᴰ.eq_of_singleton d ∙ sym (Memᴰ.eq_of_singleton i)
asked_once (step_and u r h w) s t m n (Memᴰ.head q) (Memᴰ.head p) a b e = q ∙ sym p
asked_once (step_and u r h w) s t m n (Memᴰ.head q) (Memᴰ.tail i) a b e =
    absurd (asked_behind w t m n i (subst (λ (u : Step). Asks u m) q a) b e)
asked_once (step_and u r h w) s t m n (Memᴰ.tail d) (Memᴰ.head p) a b e =
    absurd (asked_behind w s n m d (subst (λ (u : Step). Asks u n) p b) a (sym e))
asked_once (step_and u r h w) s t m n (Memᴰ.tail d) (Memᴰ.tail i) a b e = asked_once w s t m n d i a b e

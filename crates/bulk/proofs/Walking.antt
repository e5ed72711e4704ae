-- The two lists after some rounds of the walk: their lengths, one round more, and all of them.
use mathlib.Core.Bool.{Bool, true, false, ◌&&◌}
use mathlib.Core.List.{List, [], ◌∷◌, map}
use mathlib.Core.Path.{◌≡◌, refl, sym, ap, ap₂, subst, subst⁻¹, ◌∙◌}
use Prim.Native.Nat.{ℕ, zero, suc, ◌+◌, ◌<◌, ◌≤◌}
use native.Mathlib.Nat.{le_of_suc-le-suc, not-suc-le-zero}
use native.Mathlib.Numerals.{add-one}
use native.Mathlib.Omega.{arith}
use lib.Dec.{eqb, leb, eqb→eq}
use lib.ListN.{length, get_or, set}
use Rattle.octets.specs.Lists.{pick}
use Rattle.octets.proofs.Tests.{T_of, left, right}
use Rattle.session.specs.Session.{report_session}
use Rattle.session.specs.declared.Session.{Session}
use Rattle.session.specs.declared.Reported.{Reported}
use Rattle.bulk.specs.Bulk.{fits, each, report_all, ReportsTo}

-- ---- after i rounds

abbrev pub sessions_after : ℕ → List Session → List ℕ → List Session
sessions_after zero xs ns = xs
sessions_after (suc i) [] ns = []
sessions_after (suc i) (x ∷ xs) [] = x ∷ xs
sessions_after (suc i) (x ∷ xs) (n ∷ ns) = (report_session x n).session ∷ sessions_after i xs ns

abbrev pub refusals_after : ℕ → List Session → List ℕ → List ℕ → List ℕ
refusals_after zero xs ns before = before
refusals_after (suc i) [] ns before = before
refusals_after (suc i) (x ∷ xs) [] before = before
refusals_after (suc i) (x ∷ xs) (n ∷ ns) [] = []
refusals_after (suc i) (x ∷ xs) (n ∷ ns) (b ∷ before) = (report_session x n).refusal ∷ refusals_after i xs ns before

pub length_sessions : (i : ℕ) (xs : List Session) (ns : List ℕ) → length (sessions_after i xs ns) ≡ length xs
length_sessions zero xs ns = refl
length_sessions (suc i) [] ns = refl
length_sessions (suc i) (x ∷ xs) [] = refl
length_sessions (suc i) (x ∷ xs) (n ∷ ns) = ap suc (length_sessions i xs ns)

pub length_refusals : (i : ℕ) (xs : List Session) (ns before : List ℕ) → length (refusals_after i xs ns before) ≡ length before
length_refusals zero xs ns before = refl
length_refusals (suc i) [] ns before = refl
length_refusals (suc i) (x ∷ xs) [] before = refl
length_refusals (suc i) (x ∷ xs) (n ∷ ns) [] = refl
length_refusals (suc i) (x ∷ xs) (n ∷ ns) (b ∷ before) = ap suc (length_refusals i xs ns before)

-- the session that is next has not been touched
pub untouched : (i : ℕ) (xs : List Session) (ns : List ℕ) (d : Session) → get_or (sessions_after i xs ns) i d ≡ get_or xs i d
untouched zero xs ns d = refl
untouched (suc i) [] ns d = refl
untouched (suc i) (x ∷ xs) [] d = refl
untouched (suc i) (x ∷ xs) (n ∷ ns) d = untouched i xs ns d

-- ---- one round more

pub sessions_next : (i : ℕ) (xs : List Session) (ns : List ℕ) (d : Session) → i < length xs → i < length ns
    → set (sessions_after i xs ns) i (report_session (get_or (sessions_after i xs ns) i d) (get_or ns i 0)).session ≡ sessions_after (suc i) xs ns
sessions_next i [] ns d h k = absurd (not-suc-le-zero h)
sessions_next i (x ∷ xs) [] d h k = absurd (not-suc-le-zero k)
sessions_next zero (x ∷ xs) (n ∷ ns) d h k = refl
sessions_next (suc i) (x ∷ xs) (n ∷ ns) d h k =
    ap (λ (l : List Session). (report_session x n).session ∷ l) (sessions_next i xs ns d (le_of_suc-le-suc h) (le_of_suc-le-suc k))

refusals_next_of : (i : ℕ) (xs : List Session) (ns before : List ℕ) (d : Session) → i < length xs → i < length ns → i < length before
    → set (refusals_after i xs ns before) i (report_session (get_or xs i d) (get_or ns i 0)).refusal ≡ refusals_after (suc i) xs ns before
refusals_next_of i [] ns before d h k l = absurd (not-suc-le-zero h)
refusals_next_of i (x ∷ xs) [] before d h k l = absurd (not-suc-le-zero k)
refusals_next_of i (x ∷ xs) (n ∷ ns) [] d h k l = absurd (not-suc-le-zero l)
refusals_next_of zero (x ∷ xs) (n ∷ ns) (b ∷ before) d h k l = refl
refusals_next_of (suc i) (x ∷ xs) (n ∷ ns) (b ∷ before) d h k l =
    ap (λ (t : List ℕ). (report_session x n).refusal ∷ t)
    (refusals_next_of i xs ns before d (le_of_suc-le-suc h) (le_of_suc-le-suc k) (le_of_suc-le-suc l))

pub refusals_next : (i : ℕ) (xs : List Session) (ns before : List ℕ) (d : Session) → i < length xs → i < length ns → i < length before
    → set (refusals_after i xs ns before) i (report_session (get_or (sessions_after i xs ns) i d) (get_or ns i 0)).refusal ≡ refusals_after (suc i) xs ns before
refusals_next i xs ns before d h k l =
    ap (λ (x : Session). set (refusals_after i xs ns before) i (report_session x (get_or ns i 0)).refusal) (untouched i xs ns d)
    ∙ refusals_next_of i xs ns before d h k l

-- ---- how many

abbrev pub rounds_of : List Session → List ℕ → List ℕ → ℕ
rounds_of xs ns before = pick (fits (length xs) (length ns) (length before)) (length xs) 0

-- lengths that fit are equal
pub equal_lengths : (a b c : ℕ) → fits a b c ≡ true → (a ≡ b) × (a ≡ c)
equal_lengths a b c e =
    let two = left (eqb a b && eqb a c) (leb a 256) (T_of e) in
    (eqb→eq a b (left (eqb a b) (eqb a c) two), eqb→eq a c (right (eqb a b) (eqb a c) two))

within_by : (a b c i : ℕ) (t : Bool) → fits a b c ≡ t → i < pick t a 0 → (i < a) × ((i < b) × (i < c))
within_by a b c i false e h = absurd (not-suc-le-zero h)
within_by a b c i true e h =
    let same = equal_lengths a b c e in
    (h, (subst (λ (j : ℕ). i < j) same.0 h, subst (λ (j : ℕ). i < j) same.1 h))

pub within : (a b c i : ℕ) → i < pick (fits a b c) a 0 → (i < a) × ((i < b) × (i < c))
within a b c i h = within_by a b c i (fits a b c) refl h

-- a turn of the walk: the single report's answer is written at the place i of both lists
pub turn : (xs : List Session) (ns before : List ℕ) (i : ℕ) → i < rounds_of xs ns before
    → (ss : List Session) → ss ≡ sessions_after i xs ns → (rs : List ℕ) → rs ≡ refusals_after i xs ns before
    → (d : Session) (a : Reported) → a ≡ report_session (get_or ss i d) (get_or ns i 0)
    → (set ss i a.session ≡ sessions_after (i + 1) xs ns) × (set rs i a.refusal ≡ refusals_after (i + 1) xs ns before)
turn xs ns before i h ss es rs er d a e =
    let w = within (length xs) (length ns) (length before) i h in (
      ap (λ (b : Reported). set ss i b.session) e
          ∙ ap (λ (l : List Session). set l i (report_session (get_or l i d) (get_or ns i 0)).session) es
          ∙ sessions_next i xs ns d w.0 w.1.0 ∙ ap (λ (k : ℕ). sessions_after k xs ns) (sym (add-one i)),
      ap (λ (b : Reported). set rs i b.refusal) e
          ∙ ap₂ (λ (l : List Session) (r : List ℕ). set r i (report_session (get_or l i d) (get_or ns i 0)).refusal) es er
          ∙ refusals_next i xs ns before d w.0 w.1.0 w.1.1 ∙ ap (λ (k : ℕ). refusals_after k xs ns before) (sym (add-one i)),
    )

-- ---- all of them

sessions_all : (xs : List Session) (ns : List ℕ) → length xs ≡ length ns
    → sessions_after (length xs) xs ns ≡ map (λ (a : Reported). a.session) (each xs ns)
sessions_all [] ns e = refl
sessions_all (x ∷ xs) [] e = absurd (omega arith)
sessions_all (x ∷ xs) (n ∷ ns) e = ap (λ (l : List Session). (report_session x n).session ∷ l) (sessions_all xs ns (omega arith))

refusals_all : (xs : List Session) (ns before : List ℕ) → length xs ≡ length ns → length xs ≡ length before
    → refusals_after (length xs) xs ns before ≡ map (λ (a : Reported). a.refusal) (each xs ns)
refusals_all [] ns [] e f = refl
refusals_all [] ns (b ∷ before) e f = absurd (omega arith)
refusals_all (x ∷ xs) [] before e f = absurd (omega arith)
refusals_all (x ∷ xs) (n ∷ ns) [] e f = absurd (omega arith)
refusals_all (x ∷ xs) (n ∷ ns) (b ∷ before) e f =
    ap (λ (l : List ℕ). (report_session x n).refusal ∷ l) (refusals_all xs ns before (omega arith) (omega arith))

module _ (xs : List Session) (ns before : List ℕ) where
  answers_by : (t : Bool) → fits (length xs) (length ns) (length before) ≡ t
      → ReportsTo xs ns before (pick t 0 17) (sessions_after (pick t (length xs) 0) xs ns) (refusals_after (pick t (length xs) 0) xs ns before)
  unfolding report_all
  answers_by false e = record { number_is = rw e; sessions_is = rw e; refusals_is = rw e }
  answers_by true e =
      let same = equal_lengths (length xs) (length ns) (length before) e in
      record { number_is = rw e; sessions_is = sessions_all xs ns same.0 ∙ rw e; refusals_is = refusals_all xs ns before same.0 same.1 ∙ rw e }

  -- the walk's end: the number, and both lists after all rounds
  pub answers : (r : ℕ) → r ≡ pick (fits (length xs) (length ns) (length before)) 0 17
      → ReportsTo xs ns before r (sessions_after (rounds_of xs ns before) xs ns) (refusals_after (rounds_of xs ns before) xs ns before)
  answers r e =
      subst⁻¹ (λ (k : ℕ). ReportsTo xs ns before k (sessions_after (rounds_of xs ns before) xs ns) (refusals_after (rounds_of xs ns before) xs ns before)) e
      (answers_by (fits (length xs) (length ns) (length before)) refl)

  -- where the walk ends, after i rounds, with lists as long as they were
  pub ended : (i : ℕ) → i ≤ rounds_of xs ns before → rounds_of xs ns before ≤ i
      → (ss : List Session) → ss ≡ sessions_after i xs ns → length ss ≡ length xs
      → (rs : List ℕ) → rs ≡ refusals_after i xs ns before → length rs ≡ length before
      → (r : ℕ) → r ≡ pick (fits (length ss) (length ns) (length rs)) 0 17 → ReportsTo xs ns before r ss rs
  ended i low high ss es ls rs er lr r e =
      let all : i ≡ rounds_of xs ns before = omega arith in
      let a = answers r (e ∙ ap₂ (λ (n m : ℕ). pick (fits n (length ns) m) 0 17) ls lr) in
      record {
        number_is = a.number_is;
        sessions_is = es ∙ ap (λ (k : ℕ). sessions_after k xs ns) all ∙ a.sessions_is;
        refusals_is = er ∙ ap (λ (k : ℕ). refusals_after k xs ns before) all ∙ a.refusals_is;
      }

  -- lengths that do not fit
  pub refused : fits (length xs) (length ns) (length before) ≡ false → ReportsTo xs ns before 17 xs before
  unfolding report_all
  refused e = record { number_is = rw e; sessions_is = rw e; refusals_is = rw e }

  -- with lengths that fit there are as many rounds as sessions
  module _ (e : fits (length xs) (length ns) (length before) ≡ true) (i : ℕ) (ss : List Session) (es : ss ≡ sessions_after i xs ns)
      (rs : List ℕ) (er : rs ≡ refusals_after i xs ns before) where
    all_rounds : rounds_of xs ns before ≡ length xs
    all_rounds = ap (λ (t : Bool). pick t (length xs) 0) e

    pub turn_of_all : i < length xs → (d : Session) (a : Reported) → a ≡ report_session (get_or ss i d) (get_or ns i 0)
        → (set ss i a.session ≡ sessions_after (i + 1) xs ns) × (set rs i a.refusal ≡ refusals_after (i + 1) xs ns before)
    turn_of_all h = turn xs ns before i (omega (arith, all_rounds)) ss es rs er

    pub ended_all : i ≤ length xs → length xs ≤ i → ReportsTo xs ns before 0 ss rs
    ended_all low high =
        let ls = ap (λ (l : List Session). length l) es ∙ length_sessions i xs ns in
        let lr = ap (λ (l : List ℕ). length l) er ∙ length_refusals i xs ns before in
        ended i (omega (arith, all_rounds)) (omega (arith, all_rounds)) ss es ls rs er lr 0
        (sym (ap₂ (λ (n m : ℕ). pick (fits n (length ns) m) 0 17) ls lr ∙ ap (λ (t : Bool). pick t 0 17) e))

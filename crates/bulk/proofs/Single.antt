-- What the bulk call answers, place by place: the single call's answer for that session and that report.
use mathlib.Core.Bool.{Bool, true, false, ◌&&◌}
use mathlib.Core.List.{List, [], ◌∷◌, map}
use mathlib.Core.Option.{some}
use mathlib.Core.Path.{◌≡◌, refl, ap, sym, ◌∙◌}
use Prim.Native.Nat.{ℕ, zero, suc}
use native.Mathlib.Omega.{arith}
use lib.Dec.{eqb}
use lib.ListN.{length, length-map, get_elem?}
use Rattle.octets.specs.Lists.{pick}
use Rattle.octets.proofs.Tests.{either}
use Rattle.session.specs.Session.{possible, ready, waiting, released, ended, with_state, goes, stays, after_report, report_session}
use Rattle.session.specs.declared.Session.{Session}
use Rattle.session.specs.declared.Reported.{Reported}
use Rattle.bulk.specs.Bulk.{fits, each, Bulk, reported, report_all, ReportsTo}
use Rattle.bulk.proofs.Walking.{equal_lengths}

-- ---- of one place

each_at : (xs : List Session) (ns : List ℕ) (i : ℕ) (x : Session) (n : ℕ) → get_elem? xs i ≡ some x → get_elem? ns i ≡ some n
    → get_elem? (each xs ns) i ≡ some (report_session x n)
each_at [] ns i x n e f = cc
each_at (y ∷ xs) [] i x n e f = cc
each_at (y ∷ xs) (m ∷ ns) zero x n e f = cc
each_at (y ∷ xs) (m ∷ ns) (suc i) x n e f = each_at xs ns i x n e f

map_at : {A B : Type 0} (f : A → B) (l : List A) (i : ℕ) (a : A) → get_elem? l i ≡ some a → get_elem? (map f l) i ≡ some (f a)
map_at f [] i a e = cc
map_at f (b ∷ l) zero a e = cc
map_at f (b ∷ l) (suc i) a e = map_at f l i a e

length_each : (xs : List Session) (ns : List ℕ) → length xs ≡ length ns → length (each xs ns) ≡ length xs
length_each [] ns e = refl
length_each (x ∷ xs) [] e = absurd (omega arith)
length_each (x ∷ xs) (n ∷ ns) e = ap suc (length_each xs ns (omega arith))

module _ (xs : List Session) (ns before : List ℕ) where
  -- a call that is not refused had lengths that fit
  taken : (report_all xs ns before).refusal ≡ 0 → fits (length xs) (length ns) (length before) ≡ true
  unfolding report_all
  taken h = go (fits (length xs) (length ns) (length before)) h
    where
      go : (t : Bool) → (pick t (reported (each xs ns)) (record { refusal = 17; sessions = xs; refusals = before })).refusal ≡ 0 → t ≡ true
      go true h = refl
      go false h = absurd (omega arith)

  module _ (ok : (report_all xs ns before).refusal ≡ 0) where
    all_reported : report_all xs ns before ≡ reported (each xs ns)
    unfolding report_all
    all_reported = ap (λ (t : Bool). pick t (reported (each xs ns)) (record { refusal = 17; sessions = xs; refusals = before })) (taken ok)

    -- "Each session ends as the single call leaves it ..; the numbers are the single call's"
    pub as_single : (i : ℕ) (x : Session) (n : ℕ) → get_elem? xs i ≡ some x → get_elem? ns i ≡ some n
        → (get_elem? (report_all xs ns before).sessions i ≡ some (report_session x n).session)
        × (get_elem? (report_all xs ns before).refusals i ≡ some (report_session x n).refusal)
    as_single i x n e f =
        let at = each_at xs ns i x n e f in (
          ap (λ (b : Bulk). get_elem? b.sessions i) all_reported ∙ map_at (λ (a : Reported). a.session) (each xs ns) i (report_session x n) at,
          ap (λ (b : Bulk). get_elem? b.refusals i) all_reported ∙ map_at (λ (a : Reported). a.refusal) (each xs ns) i (report_session x n) at,
        )

  -- ---- of the lists: each is as long as it was

  pub as_long : (length (report_all xs ns before).sessions ≡ length xs) × (length (report_all xs ns before).refusals ≡ length before)
  unfolding report_all
  as_long = go (fits (length xs) (length ns) (length before)) refl
    where
      go : (t : Bool) → fits (length xs) (length ns) (length before) ≡ t
          → (length (pick t (reported (each xs ns)) (record { refusal = 17; sessions = xs; refusals = before })).sessions ≡ length xs)
          × (length (pick t (reported (each xs ns)) (record { refusal = 17; sessions = xs; refusals = before })).refusals ≡ length before)
      go false e = (refl, refl)
      go true e =
          let same = equal_lengths (length xs) (length ns) (length before) e in
          let long = length_each xs ns same.0 in
          (length-map (each xs ns) (λ (a : Reported). a.session) ∙ long, length-map (each xs ns) (λ (a : Reported). a.refusal) ∙ long ∙ same.1)

-- ---- no other answer

pub one_answer : {xs ys zs : List Session} {ns before rs ts : List ℕ} {n m : ℕ} → ReportsTo xs ns before n ys rs → ReportsTo xs ns before m zs ts
    → (n ≡ m) × (ys ≡ zs) × (rs ≡ ts)
one_answer h k = (h.number_is ∙ sym k.number_is, h.sessions_is ∙ sym k.sessions_is, h.refusals_is ∙ sym k.refusals_is)

-- ---- of a report only the state changes

abbrev OnlyState : Session → Reported → Type 0
OnlyState x a = a.session ≡ with_state x a.session.state

pub only_state : (x : Session) (n : ℕ) → (report_session x n).session ≡ with_state x (report_session x n).session.state
unfolding report_session
only_state x n =
    let two : Reported = pick (eqb n 2) (goes x ended) (stays x 8) in
    let one : Reported = pick (eqb n 1) (goes x (pick (eqb x.handling 0) ready released)) two in
    either (OnlyState x) (possible x && eqb x.state waiting) (after_report n x) (stays x 10)
    (either (OnlyState x) (eqb n 0) (goes x ready) one refl
    (either (OnlyState x) (eqb n 1) (goes x (pick (eqb x.handling 0) ready released)) two refl
    (either (OnlyState x) (eqb n 2) (goes x ended) (stays x 8) refl refl)))
    refl

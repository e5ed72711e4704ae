-- The start of a text: `<?` and its end, or the top at once.
use mathlib.Core.Path.{◌≡◌, refl, sym, ap, ap₂, ◌∙◌, fun_ext, subst, subst⁻¹}
use mathlib.Core.Bool.{Bool, true, false, ◌&&◌, true≢false}
use Prim.Native.Nat.{ℕ, ◌+◌, ◌-◌, ◌≤◌}
use native.Mathlib.Omega.{arith}
use mathlib.Core.List.{List, [], ◌∷◌}
use lib.Dec.{eqb, eqb→eq, lit<}
use lib.ListN.{length, get_or, drop}
use borrow.Author.Tests.{eqb-true}
use Rattle.octets.specs.Lists.{pick, text}
use Rattle.octets.proofs.Tests.{left, right, T_of, test_cases}
use Rattle.cuts.specs.Inner.Searching.{first}
use Rattle.grammar.specs.Grammar.{Grammar, option, span, many}
use Rattle.grammar.specs.Reading.{read_as, wrong, later, better, expect, up_to, read, end, read_text}
use Rattle.grammar.specs.Inner.Made.{Only, made, forget, shifted}
use Rattle.scan.proofs.Runs.{blank_apart}
use Rattle.scan.specs.Table.{gap, profile_text, initial_filter_criteria, ◌skip◌, ◌close◌}
use Rattle.scan.specs.Inner.Points.{firsts, starts, nexts, letters, word_at, choices, closing, Closes, ClosedAt, NotClosed}
use Rattle.scan.specs.Inner.Rests.{rest, plainly, rests, pass, told, Ahead, at_end, top}
use Rattle.scan.specs.Inner.Events.{Event, each_of, of_criterion, events}
use Rattle.scan.specs.Criteria.{Criterion}
use Rattle.scan.proofs.Passing.{told_skip, told_close}
use Rattle.std.specs.Prelude.{Option as Optional, Some, None}
use Rattle.grammar.proofs.Better.{better_none, none_better, later_better}
use Rattle.grammar.proofs.Made.{made_read, made_better, made_expect, made_up_to, forget_made}
use Rattle.grammar.proofs.Shifted.{shifted_add, shifted_wrong, made_shifted}
use Rattle.scan.proofs.PointLaws.{law}

-- ---- the whole text, and the values that it tells

events_end : (cs : List Criterion) (u : List ℕ) → made events (end cs u) ≡ made (each_of of_criterion cs) (at_end u)
events_end cs [] = refl
events_end cs (b ∷ u) = refl

told_start : {A B C : Type 0} (o : Grammar A) (g : Grammar B) (h : Grammar C) (f : B → List Event → List Event) (k : List ℕ → Ahead)
    → told (o skip (g close h)) f k ≡ pass o (told g f (pass h k))
told_start o g h f k = told_skip o (g close h) f k ∙ ap (pass o) (told_close g h f k)

pass_span : (a b : List ℕ) (k : List ℕ → Ahead) (s : List ℕ) → pass (option (span a b)) k s ≡ better (expect a (up_to b [] k) s) (k s)
unfolding pass read
pass_span a b k s = refl

-- from the start: `<?` to its end and then the top, or the top
abbrev pub from_start : List ℕ → Ahead
from_start s = better (expect (text "<?") (up_to (text "?>") [] top) s) (top s)

-- the values that a text tells are those of the criteria that are read from it, in their order
pub begins_ahead : (s : List ℕ) → made events (read_text profile_text s) ≡ from_start s
unfolding read_text profile_text top told
begins_ahead s =
    made_read events profile_text end s
    ∙ ap (λ (k : List Criterion → List ℕ → Ahead). read profile_text k s) (fun_ext (λ cs. fun_ext (λ u. events_end cs u)))
    ∙ ap (λ (f : List ℕ → Ahead). f s) (told_start (option (span (text "<?") (text "?>"))) (many initial_filter_criteria) gap (each_of of_criterion) at_end)
    ∙ pass_span (text "<?") (text "?>") top s

pub tells : (s : List ℕ) (cs : List Criterion) → read_text profile_text s ≡ read_as cs → from_start s ≡ read_as (events cs)
tells s cs e = sym (begins_ahead s) ∙ ap (made events) e

-- ---- without the values

plain_start : (w c s : List ℕ) → forget (expect w (up_to c [] top) s) ≡ expect w (up_to c [] (plainly 0)) s
unfolding rest rests
plain_start w c s =
    made_expect (λ r. tt) w (up_to c [] top) s
    ∙ ap (λ (k : List ℕ → Only). expect w k s) (fun_ext (λ u. made_up_to (λ r. tt) c [] top u))

pub begun : (s : List ℕ) → forget (read_text profile_text s) ≡ better (expect (text "<?") (up_to (text "?>") [] (plainly 0)) s) (plainly 0 s)
unfolding rest rests
begun s =
    sym (forget_made events (read_text profile_text s))
    ∙ ap forget (begins_ahead s)
    ∙ made_better (λ r. tt) (expect (text "<?") (up_to (text "?>") [] top) s) (top s)
    ∙ ap (λ (x : Only). better x (plainly 0 s)) (plain_start (text "<?") (text "?>") s)

-- ---- the top behind `<`

abbrev opened : List ℕ → Only
opened t = better (expect (text "!--") (plainly 64) t) (expect (text "InitialFilterCriteria>") (plainly 1) t)

two_ways : (a b : Only) → better (better (later a) (better (later b) (wrong 0))) (wrong 0) ≡ later (better a b)
two_ways a b =
    better_none (better (later a) (better (later b) (wrong 0)))
    ∙ ap (better (later a)) (better_none (later b))
    ∙ sym (later_better a b)

top_open : (t : List ℕ) → (plainly 0) (60 ∷ t) ≡ later (opened t)
unfolding rest rests choices word_at firsts starts letters nexts first
top_open t =
    (law 0 (lit< tt)).leads (60 ∷ t) (λ i. absurd (blank_apart i))
    ∙ two_ways (expect (text "!--") (plainly 64) t) (expect (text "InitialFilterCriteria>") (plainly 1) t)

-- ---- which of the two

pub with_start : (u : List ℕ) → better (expect (text "<?") (up_to (text "?>") [] (plainly 0)) (60 ∷ 63 ∷ u)) ((plainly 0) (60 ∷ 63 ∷ u)) ≡ shifted 2 (up_to (text "?>") [] (plainly 0) u)
with_start u =
    ap (better (later (later (up_to (text "?>") [] (plainly 0) u)))) (top_open (63 ∷ u))
    ∙ sym (later_better (later (up_to (text "?>") [] (plainly 0) u)) (wrong 0))
    ∙ ap later (better_none (later (up_to (text "?>") [] (plainly 0) u)))

without_by : (e : Bool) (x y : Only) → e ≡ false → better (later (pick e x (wrong 0))) (later y) ≡ later y
without_by e x y f = ap (λ (b : Bool). better (later (pick b x (wrong 0))) (later y)) f ∙ sym (later_better (wrong 0) y) ∙ ap later (none_better y)

without_open : (t : List ℕ) → eqb 63 (get_or t 0 0) ≡ false
    → better (later (expect (text "?") (up_to (text "?>") [] (plainly 0)) t)) ((plainly 0) (60 ∷ t)) ≡ (plainly 0) (60 ∷ t)
without_open [] h =
    ap (better (later (wrong 0))) (top_open []) ∙ without_by false (wrong 0) (opened []) refl ∙ sym (top_open [])
without_open (c ∷ v) h =
    ap (better (later (pick (eqb 63 c) (later (up_to (text "?>") [] (plainly 0) v)) (wrong 0)))) (top_open (c ∷ v))
    ∙ without_by (eqb 63 c) (later (up_to (text "?>") [] (plainly 0) v)) (opened (c ∷ v)) h
    ∙ sym (top_open (c ∷ v))

pub without_start : (s : List ℕ) → (eqb 60 (get_or s 0 0) && eqb 63 (get_or s 1 0)) ≡ false
    → better (expect (text "<?") (up_to (text "?>") [] (plainly 0)) s) ((plainly 0) s) ≡ (plainly 0) s
without_start [] h = none_better ((plainly 0) [])
without_start (b ∷ t) h =
    test_cases (eqb 60 b)
    (λ e. ap (λ (x : Bool). better (pick x (later (expect (text "?") (up_to (text "?>") [] (plainly 0)) t)) (wrong 0)) ((plainly 0) (b ∷ t))) e
    ∙ subst (λ (x : ℕ). better (later (expect (text "?") (up_to (text "?>") [] (plainly 0)) t)) ((plainly 0) (x ∷ t)) ≡ (plainly 0) (x ∷ t)) (eqb-true 60 b e)
    (without_open t (sym (ap (λ (x : Bool). x && eqb 63 (get_or t 0 0)) e) ∙ h)))
    (λ e. ap (λ (x : Bool). better (pick x (later (expect (text "?") (up_to (text "?>") [] (plainly 0)) t)) (wrong 0)) ((plainly 0) (b ∷ t))) e ∙ none_better ((plainly 0) (b ∷ t)))

-- ---- what the code's answers come to

pub starts_so : (s : List ℕ) → (eqb 60 (get_or s 0 0) && eqb 63 (get_or s 1 0)) ≡ true → (u : List ℕ) × (s ≡ 60 ∷ 63 ∷ u)
starts_so [] h = absurd (true≢false (sym h))
starts_so (b ∷ []) h = absurd (right (eqb 60 b) false (T_of h))
starts_so (b ∷ c ∷ u) h =
    (u, ap₂ (λ (x y : ℕ). x ∷ y ∷ u) (sym (eqb→eq 60 b (left (eqb 60 b) (eqb 63 c) (T_of h)))) (sym (eqb→eq 63 c (right (eqb 60 b) (eqb 63 c) (T_of h)))))

tests_are : (s : List ℕ) (a b : ℕ) → a ≡ get_or s 0 0 → b ≡ get_or s 1 0 → (t : Bool) → (eqb 60 a && eqb 63 b) ≡ t → (eqb 60 (get_or s 0 0) && eqb 63 (get_or s 1 0)) ≡ t
tests_are s a b e f t h = ap₂ (λ (x y : ℕ). eqb 60 x && eqb 63 y) (sym e) (sym f) ∙ h

pub start_within : (s : List ℕ) (d : Optional ℕ) → Closes (closing false) s 2 d → (z : ℕ) → d ≡ Some z → z ≤ length s
start_within s d c z q = let k : ClosedAt (closing false) s 2 z = subst (Closes (closing false) s 2) q c in k.inside

-- an end that is found, or not, without the values
closed_plain : (w s : List ℕ) (at z : ℕ) → ClosedAt w s at z → up_to w [] (plainly 0) (drop at s) ≡ shifted (z - at) (plainly 0 (drop z s))
closed_plain w s at z k =
    sym (made_up_to (λ r. tt) w [] (rest 0) (drop at s)) ∙ ap forget (k.goes (rest 0)) ∙ made_shifted (λ r. tt) (z - at) (rest 0 (drop z s))

open_plain : (w s : List ℕ) (at : ℕ) → NotClosed w s at → up_to w [] (plainly 0) (drop at s) ≡ wrong (length s - at)
open_plain w s at k = sym (made_up_to (λ r. tt) w [] (rest 0) (drop at s)) ∙ ap forget (k.stops (rest 0))

module _ (s : List ℕ) (a b : ℕ) (e : a ≡ get_or s 0 0) (f : b ≡ get_or s 1 0) where
  pub start_inside : (eqb 60 a && eqb 63 b) ≡ true → 2 ≤ length s
  start_inside h =
      let p = starts_so s (tests_are s a b e f true h) in
      let l : length s ≡ length (60 ∷ 63 ∷ p.0) = ap length p.1 in
      omega (arith, l)

  started : (eqb 60 a && eqb 63 b) ≡ true → forget (read_text profile_text s) ≡ shifted 2 (up_to (text "?>") [] (plainly 0) (drop 2 s))
  started h =
      let p = starts_so s (tests_are s a b e f true h) in
      begun s
      ∙ subst⁻¹ (λ (x : List ℕ). better (expect (text "<?") (up_to (text "?>") [] (plainly 0)) x) ((plainly 0) x) ≡ shifted 2 (up_to (text "?>") [] (plainly 0) (drop 2 x))) p.1 (with_start p.0)

  pub start_closed : (eqb 60 a && eqb 63 b) ≡ true → (d : Optional ℕ) → Closes (closing false) s 2 d → (z : ℕ) → d ≡ Some z → (r : Only)
      → r ≡ shifted z (plainly 0 (drop z s)) → r ≡ forget (read_text profile_text s)
  start_closed h d c z q r g =
      let k : ClosedAt (closing false) s 2 z = subst (Closes (closing false) s 2) q c in
      let n : 2 + (z - 2) ≡ z = omega (arith, k.forward) in
      g
      ∙ sym (started h
      ∙ ap (shifted 2) (closed_plain (text "?>") s 2 z k)
      ∙ shifted_add 2 (z - 2) ((plainly 0) (drop z s))
      ∙ ap (λ (m : ℕ). shifted m ((plainly 0) (drop z s))) n)

  pub start_open : (eqb 60 a && eqb 63 b) ≡ true → (d : Optional ℕ) → Closes (closing false) s 2 d → d ≡ None → wrong (length s) ≡ forget (read_text profile_text s)
  start_open h d c q =
      let k : NotClosed (closing false) s 2 = subst (Closes (closing false) s 2) q c in
      let l : 2 ≤ length s = start_inside h in
      let n : 2 + (length s - 2) ≡ length s = omega (arith, l) in
      sym (started h ∙ ap (shifted 2) (open_plain (text "?>") s 2 k) ∙ shifted_wrong 2 (length s - 2) ∙ ap wrong n)

  pub no_start : (eqb 60 a && eqb 63 b) ≡ false → (r : Only) → r ≡ shifted 0 (plainly 0 (drop 0 s)) → r ≡ forget (read_text profile_text s)
  no_start h r g = g ∙ sym (begun s ∙ without_start s (tests_are s a b e f false h))

-- The first place where the whole pattern fits.
use mathlib.Core.Path.{◌≡◌, refl, sym, ap, ap₂, ◌∙◌, subst, subst⁻¹}
use mathlib.Core.Bool.{Bool, true, false, ◌||◌, true≢false}
use Rattle.std.specs.Prelude.{Some, None}
use mathlib.Core.Option.{Option, none, some}
use mathlib.Core.List.{List, [], ◌∷◌}
use Prim.Native.Nat.{ℕ, suc, ◌+◌, ◌<◌, ◌≤◌}
use native.Mathlib.Omega.{arith}
use lib.Dec.{eqb, leb}
use lib.ListN.{length, get_or, drop, drop_of_length-le}
use borrow.Author.Tests.{eqb-true, eqb-false, eq-eqb, ne_eqb, lt-ltb, le-ltb}
use Rattle.octets.specs.Lists.{pick, peek}
use Rattle.octets.specs.Option.{◌>>=◌, holds}
use Rattle.octets.proofs.Tests.{or_neither}
use Rattle.machine.proofs.Places.{drop_at}
use Rattle.basic.specs.Inner.Judged.{was_read, is_pattern}
use Rattle.basic.specs.Pattern.{Pattern, meets}
use Rattle.basic.specs.Inner.Places.{body_of, start_of}
use Rattle.basic.specs.Reading.{Body, read_pattern}
use Rattle.basic.proofs.Elements.{finished, read_is, count_empty}
use Rattle.place.specs.Place.{furthest, nowhere, here_or, first_place, place_of}
use Rattle.place.specs.declared.Place.{Place}
use Rattle.place.proofs.Placing.{place_is_best}
use Rattle.plain.specs.Plain.{refused, answered, by_pattern, plain_answer}
use Rattle.plain.specs.Inner.Turns.{Short, Reaches, from_place, Finds}
use Rattle.plain.specs.declared.Answer.{Answer}

-- ---- at a place

-- the first place from the front of l on, or at it alone
abbrev pub places : Bool → (List ℕ → Option ℕ) → List ℕ → Place
places alone far l = pick alone (here_or (far l) nowhere) (first_place far l)

module _ (far : List ℕ → Option ℕ) where
  place_here : (alone : Bool) (l : List ℕ) (n : ℕ) → far l ≡ some n → record { found = true; start = 0; size = n } ≡ places alone far l
  place_here true l n e = ap (λ (o : Option ℕ). here_or o nowhere) (sym e)
  place_here false [] n e = ap (λ (o : Option ℕ). here_or o nowhere) (sym e)
  place_here false (b ∷ l) n e = ap (λ (o : Option ℕ). here_or o (first_place far l)) (sym e)

  place_alone : (l : List ℕ) → far l ≡ none → nowhere ≡ places true far l
  place_alone l e = ap (λ (o : Option ℕ). here_or o nowhere) (sym e)

  place_last : (alone : Bool) (l : List ℕ) → l ≡ [] → far l ≡ none → nowhere ≡ places alone far l
  place_last true l z e = place_alone l e
  place_last false l z e =
      ap (λ (o : Option ℕ). here_or o nowhere) (sym e) ∙ subst⁻¹ (λ (k : List ℕ). here_or (far k) nowhere ≡ first_place far k) z refl

  place_later : (b : ℕ) (l : List ℕ) → far (b ∷ l) ≡ none
      → places false far (b ∷ l) ≡ here_or none (first_place far l)
  place_later b l e = ap (λ (o : Option ℕ). here_or o (first_place far l)) e

-- one byte further is one more
further : (j : ℕ) (q : Place) → from_place (j + 1) q ≡ from_place j (here_or none q)
further j q = go q.found q.start q.size
  where
    go : (t : Bool) (a n : ℕ) → from_place (j + 1) (record { found = t; start = a; size = n }) ≡ from_place j (here_or none (record { found = t; start = a; size = n }))
    go true a n = let e : j + 1 + a ≡ j + suc a = omega arith in ap (λ (k : ℕ). record { refusal = 0; found = true; start = k; size = n }) e
    go false a n = refl

-- ---- the search

module _ (s : List ℕ) (i : ℕ) (t : List ℕ) (j : ℕ) (w : Short t j) where
  pub find_here : (size : ℕ) → Reaches s i t j (Some size) → (y : Answer) → y ≡ record { refusal = 0; found = true; start = j; size = size } → Finds s i t j y
  find_here size r y k = record {
    is = λ b z.
        let n : j ≡ j + 0 = omega arith in
        k ∙ ap (λ (a : ℕ). record { refusal = 0; found = true; start = a; size = size }) n
        ∙ ap (from_place j) (place_here (furthest meets b.anchored b.parts) (eqb i 1) (drop j t) size (sym (r.far true b z)));
  }

  pub find_none : Reaches s i t j None → (eqb i 1 || eqb j (length t)) ≡ true → (y : Answer) → y ≡ answered nowhere → Finds s i t j y
  find_none r u y k = record {
    is = λ b z. k ∙ ap (from_place j) (go b (sym (r.far true b z)) (eqb i 1) u);
  }
    where
      go : (b : Body) → furthest meets b.anchored b.parts (drop j t) ≡ none → (v : Bool) → (v || eqb j (length t)) ≡ true
          → nowhere ≡ places v (furthest meets b.anchored b.parts) (drop j t)
      go b o true m = place_alone (furthest meets b.anchored b.parts) (drop j t) o
      go b o false m =
          let d : j ≡ length t = eqb-true j (length t) m in
          let l : length t ≤ j = omega arith in
          place_last (furthest meets b.anchored b.parts) false (drop j t) (drop_of_length-le t l) o

  module _ (r : Reaches s i t j None) (u : (eqb i 1 || eqb j (length t)) ≡ false) where
    pub find_in : j < length t
    find_in = let l : j ≤ length t = w.inside in let n = eqb-false j (length t) (or_neither (eqb i 1) (eqb j (length t)) u).1 in omega arith

    pub find_later : (y : Answer) → Finds s i t (j + 1) y → Finds s i t j y
    find_later y f = record {
      is = λ b z.
          let alone = (or_neither (eqb i 1) (eqb j (length t)) u).0 in
          f.is b z
          ∙ ap (λ (v : Bool). from_place (j + 1) (places v (furthest meets b.anchored b.parts) (drop (j + 1) t))) alone
          ∙ further j (first_place (furthest meets b.anchored b.parts) (drop (j + 1) t))
          ∙ ap (from_place j) (sym (later b (sym (r.far true b z))))
          ∙ ap (λ (v : Bool). from_place j (places v (furthest meets b.anchored b.parts) (drop j t))) (sym alone);
    }
      where
        later : (b : Body) → furthest meets b.anchored b.parts (drop j t) ≡ none
            → places false (furthest meets b.anchored b.parts) (drop j t)
            ≡ here_or none (first_place (furthest meets b.anchored b.parts) (drop (j + 1) t))
        later b o =
            let d = drop_at t j find_in in
            ap (λ (l : List ℕ). places false (furthest meets b.anchored b.parts) l) d
            ∙ place_later (furthest meets b.anchored b.parts) (get_or t j 0) (drop (j + 1) t)
            (ap (furthest meets b.anchored b.parts) (sym d) ∙ o)

-- ---- the whole pattern

pub pattern_some : (s : List ℕ) (u : Bool) → u ≡ is_pattern s → u ≡ true → length s ≡ 0 → ⊥
pattern_some s u e v z = true≢false (sym v ∙ e ∙ sym (count_empty s z))

-- where the first element begins
pub start_behind : (s : List ℕ) (n : ℕ) → n ≡ peek (drop 0 s) → n ≡ 94 → 1 ≡ start_of s
start_behind s n e z = ap (λ (b : Bool). pick b 1 0) (sym (ap (λ (k : ℕ). eqb k 94) (sym e) ∙ eq-eqb n 94 z))

pub start_front : (s : List ℕ) (n : ℕ) → n ≡ peek (drop 0 s) → (n ≡ 94 → ⊥) → 0 ≡ start_of s
start_front s n e z = ap (λ (b : Bool). pick b 1 0) (sym (ap (λ (k : ℕ). eqb k 94) (sym e) ∙ ne_eqb n 94 z))

alone_is : (b : Bool) → eqb (pick b 1 0) 1 ≡ b
alone_is true = refl
alone_is false = refl

from_front : (q : Place) → (q.found ≡ false → q ≡ nowhere) → from_place 0 q ≡ answered q
from_front q h = go q.found refl
  where
    go : (b : Bool) → q.found ≡ b → pick b (record { refusal = 0; found = true; start = 0 + q.start; size = q.size }) (answered nowhere) ≡ answered q
    go true e =
        let z : 0 + q.start ≡ q.start = omega arith in
        ap₂ (λ (f : Bool) (a : ℕ). record { refusal = 0; found = f; start = a; size = q.size }) (sym e) z
    go false e = ap answered (sym (h e))

-- what was read
pub record WasRead (s : List ℕ) : Type 0 where
  pub body : Body
  pub from : body_of true (drop (start_of s) s) ≡ some body
  pub is : read_pattern s ≡ some (record { at_start = eqb (peek s) 94; elems = body.parts; at_end = body.anchored })

was_whole : (s : List ℕ) → (length s ≡ 0 → ⊥) → is_pattern s ≡ true → WasRead s
unfolding is_pattern
was_whole s n e = go (body_of true (drop (start_of s) s)) refl
  where
    go : (o : Option Body) → body_of true (drop (start_of s) s) ≡ o → WasRead s
    go none z = absurd (true≢false (sym e ∙ ap was_read (read_is s n ∙ ap (finished (eqb (peek s) 94)) z)))
    go (some b) z = at (leb (length b.parts) 60) refl
      where
        at : (v : Bool) → leb (length b.parts) 60 ≡ v → WasRead s
        at true v = record {
          body = b;
          from = z;
          is =
              read_is s n ∙ ap (finished (eqb (peek s) 94)) z
              ∙ ap (λ (h : Bool). holds h >>= (λ x. some (record { at_start = eqb (peek s) 94; elems = b.parts; at_end = b.anchored }))) v;
        }
        at false v =
            absurd (true≢false (sym e ∙ ap was_read (read_is s n ∙ ap (finished (eqb (peek s) 94)) z
            ∙ ap (λ (h : Bool). holds h >>= (λ x. some (record { at_start = eqb (peek s) 94; elems = b.parts; at_end = b.anchored }))) v)))

unread : (o : Option Pattern) → was_read o ≡ false → o ≡ none
unread none e = refl
unread (some p) e = absurd (true≢false e)

module _ (s t : List ℕ) (u : Bool) (e : u ≡ is_pattern s) where
  pub plain_refused : u ≡ false → (y : Answer) → y ≡ refused 5 → y ≡ plain_answer s t
  unfolding plain_answer is_pattern
  plain_refused v y k = k ∙ ap (λ (o : Option Pattern). by_pattern o t) (sym (unread (read_pattern s) (sym e ∙ v)))

  whole : u ≡ true → WasRead s
  whole v = was_whole s (pattern_some s u e v) (sym e ∙ v)

  pub plain_long : u ≡ true → 256 < length t → (y : Answer) → y ≡ refused 17 → y ≡ plain_answer s t
  unfolding plain_answer
  plain_long v l y k =
      let q = whole v in
      let p : Pattern = record { at_start = eqb (peek s) 94; elems = q.body.parts; at_end = q.body.anchored } in
      k ∙ ap (λ (b : Bool). pick b (refused 17) (answered (place_of meets p t))) (sym (lt-ltb 256 (length t) l))
      ∙ ap (λ (o : Option Pattern). by_pattern o t) (sym q.is)

  pub plain_found : u ≡ true → length t ≤ 256 → (i : ℕ) → i ≡ start_of s → (y : Answer) → Finds s i t 0 y → y ≡ plain_answer s t
  unfolding plain_answer place_of
  plain_found v l i z y g =
      let q = whole v in
      let p : Pattern = record { at_start = eqb (peek s) 94; elems = q.body.parts; at_end = q.body.anchored } in
      let f : Finds s (start_of s) t 0 y = subst (λ (k : ℕ). Finds s k t 0 y) z g in
      f.is q.body q.from
      ∙ ap (λ (v : Bool). from_place 0 (places v (furthest meets q.body.anchored q.body.parts) t)) (alone_is (eqb (peek s) 94))
      ∙ from_front (place_of meets p t) (place_is_best meets p t).quiet
      ∙ ap (λ (b : Bool). pick b (refused 17) (answered (place_of meets p t))) (sym (le-ltb 256 (length t) l))
      ∙ ap (λ (o : Option Pattern). by_pattern o t) (sym q.is)

-- The elements by place: the last `$`, an atom and its `*`, the end.
use mathlib.Core.Path.{◌≡◌, refl, sym, ap, ap₂, ◌∙◌, subst⁻¹}
use mathlib.Core.Bool.{Bool, true, false, ◌&&◌, and-false}
use mathlib.Core.Option.{Option, none, some}
use mathlib.Core.List.{List, [], ◌∷◌}
use Prim.Native.Nat.{ℕ, suc, ◌+◌, ◌-◌, ◌<◌, ◌≤◌}
use native.Mathlib.Nat.{add-zero, zero-add}
use native.Mathlib.Omega.{arith}
use lib.Dec.{T, eqb, leb, ltb}
use lib.ListN.{length, get_or, drop, drop_of_length-le}
use lib.Seq.{drop-drop}
use borrow.Author.Tests.{eqb-true, eq-eqb, ne_eqb, le-leb, lt-leb, ltb-true, ltb-false}
use Rattle.octets.specs.Lists.{pick, peek}
use Rattle.octets.specs.Option.{◌>>=◌, holds}
use Rattle.octets.proofs.Tests.{T_of, is_true, left, either}
use Rattle.machine.proofs.Places.{drop_at, empty_at}
use Rattle.basic.specs.Pattern.{Atom, Elem, Pattern}
use Rattle.basic.specs.Inner.Places.{map_got, body_of, start_of, stop_of, PieceHere}
use Rattle.basic.specs.Reading.{Read, atom, elem, Body, read_pattern}
use Rattle.basic.specs.Inner.Judged.{was_read, is_pattern}
use Rattle.basic.specs.declared.reader.Piece.{Piece}
use Rattle.basic.proofs.Atoms.{map_none, map_some}
use Rattle.basic.proofs.Countdown.{body_next, body_none, body_fuel}
use Rattle.basic.proofs.Places.{peek_in, peek_inside}

-- ---- behind an atom and its `*`

-- whether a `*` follows an atom that ends at e, and where what is behind both begins
abbrev pub repeats_at : List ℕ → ℕ → Bool
repeats_at s e = eqb (peek (drop e s)) 42

abbrev pub behind_of : List ℕ → ℕ → ℕ
behind_of s e = pick (repeats_at s e) (e + 1) e

star_inside : (s : List ℕ) (e : ℕ) → peek (drop e s) ≡ 42 → e < length s
star_inside s e q = peek_inside s e (λ z. let y : ◌≡◌ {A = ℕ} 42 256 = sym q ∙ z in absurd (omega arith))

behind_le : (s : List ℕ) (e : ℕ) → e ≤ length s → behind_of s e ≤ length s
behind_le s e h = go (repeats_at s e) refl
  where
    go : (t : Bool) → repeats_at s e ≡ t → pick t (e + 1) e ≤ length s
    go true q = let l : e < length s = star_inside s e (eqb-true (peek (drop e s)) 42 q) in omega arith
    go false q = h

behind_ge : (t : Bool) (e : ℕ) → e ≤ pick t (e + 1) e
behind_ge t e = either (λ (n : ℕ). e ≤ n) t (e + 1) e (omega arith) (omega arith)

pub behind_after : (t : Bool) (e j : ℕ) → j ≡ pick t (e + 1) e → e ≤ j
behind_after t e j q = subst⁻¹ (λ (k : ℕ). e ≤ k) q (behind_ge t e)

pub behind_at : (s : List ℕ) (e j : ℕ) (t : Bool) → t ≡ repeats_at s e → j ≡ pick t (e + 1) e → j ≡ behind_of s e
behind_at s e j t n q = q ∙ ap (λ (b : Bool). pick b (e + 1) e) n

behind_drop : (t : Bool) (s : List ℕ) (e : ℕ) → pick t (drop 1 (drop e s)) (drop e s) ≡ drop (pick t (e + 1) e) s
behind_drop true s e = drop-drop 1 e s
behind_drop false s e = refl

-- ---- where the elements stop

-- whether the anchor `$` stands at i
abbrev pub anchor_at : List ℕ → ℕ → Bool
anchor_at s i = eqb (get_or s i 0) 36 && eqb (i + 1) (length s)

module _ (s : List ℕ) (i stop : ℕ) (q : stop ≡ stop_of s) where
  abbrev ends : Bool
  ends = eqb (get_or s (length s - 1) 0) 36

  pub stop_inside : i < stop → i < length s
  stop_inside h =
      let l : stop ≤ length s = subst⁻¹ (λ (n : ℕ). n ≤ length s) q (either (λ (n : ℕ). n ≤ length s) ends (length s - 1) (length s) (omega arith) (omega arith)) in
      omega arith

  stop_by : (t : Bool) → ends ≡ t → stop ≡ pick t (length s - 1) (length s)
  stop_by t e = q ∙ ap (λ (x : Bool). pick x (length s - 1) (length s)) e

  pub stop_before : i < stop → anchor_at s i ≡ false
  stop_before h = go ends refl (eqb (i + 1) (length s)) refl
    where
      go : (t : Bool) → ends ≡ t → (u : Bool) → eqb (i + 1) (length s) ≡ u → (eqb (get_or s i 0) 36 && u) ≡ false
      go t e false v = and-false (eqb (get_or s i 0) 36)
      go true e true v = let z = eqb-true (i + 1) (length s) v in absurd (omega (arith, stop_by true e))
      go false e true v =
          let z = eqb-true (i + 1) (length s) v in
          let w : i ≡ length s - 1 = omega arith in
          ap (λ (n : ℕ). eqb (get_or s n 0) 36 && true) w ∙ ap (λ (x : Bool). x && true) e

  stop_here : stop ≤ i → i < length s → anchor_at s i ≡ true
  stop_here h l = go ends refl
    where
      go : (t : Bool) → ends ≡ t → anchor_at s i ≡ true
      go true e =
          let w : i ≡ length s - 1 = omega (arith, stop_by true e) in
          ap₂ (λ (x y : Bool). x && y) (ap (λ (n : ℕ). eqb (get_or s n 0) 36) w ∙ e) (eq-eqb (i + 1) (length s) (omega arith))
      go false e = absurd (omega (arith, stop_by false e))

pub star_before : (s : List ℕ) (i stop : ℕ) → stop ≡ stop_of s → i < stop → eqb (get_or s i 0) 42 ≡ eqb (peek (drop i s)) 42
star_before s i stop q h = ap (λ (n : ℕ). eqb n 42) (peek_in s i (stop_inside s i stop q h))

-- there is no `*` from there on
pub star_past : (s : List ℕ) (i stop : ℕ) → stop ≡ stop_of s → stop ≤ i → false ≡ eqb (peek (drop i s)) 42
star_past s i stop q h = sym (ne_eqb (peek (drop i s)) 42 at)
  where
    at : peek (drop i s) ≡ 42 → ⊥
    at z =
        let l : i < length s = star_inside s i z in
        let t : T (anchor_at s i) = T_of (stop_here s i stop q h l) in
        let d : get_or s i 0 ≡ 36 = eqb-true (get_or s i 0) 36 (is_true (eqb (get_or s i 0) 36) (left (eqb (get_or s i 0) 36) (eqb (i + 1) (length s)) t)) in
        let y : ◌≡◌ {A = ℕ} 36 42 = sym d ∙ peek_in s i l ∙ z in
        absurd (omega arith)

-- ---- the elements from i on

-- one element more in front
abbrev pub with_elem : Elem → Option Body → Option Body
with_elem x o = o >>= (λ more. some (record { parts = x ∷ more.parts; anchored = more.anchored }))

-- the atom at i, and what is left behind it and its `*`
pub record Step (f : Atom → List ℕ) (s : List ℕ) (i : ℕ) (first : Bool) (end : ℕ) (set : List ℕ) : Type 0 where
  pub value : Atom
  pub drawing : f value ≡ set
  pub left : body_of first (drop i s)
      ≡ with_elem (elem (repeats_at s end) value) (body_of false (drop (behind_of s end) s))

body_end : (s : List ℕ) (i : ℕ) (first : Bool) → length s ≤ i → body_of first (drop i s) ≡ some (record { parts = []; anchored = false })
body_end s i first h = ap (body_of first) (drop_of_length-le s h) ∙ body_none first

module _ (s : List ℕ) (i : ℕ) (first : Bool) (h : i < length s) where
  abbrev b : ℕ
  b = get_or s i 0

  abbrev rest : List ℕ
  rest = drop (i + 1) s

  abbrev going : Option (Read Atom) → Option Body
  going o = o >>= (λ a. with_elem (elem (eqb (peek a.rest) 42) a.got) (body_of false (pick (eqb (peek a.rest) 42) (drop 1 a.rest) a.rest)))

  here_is : (t : Bool) → anchor_at s i ≡ t → body_of first (drop i s) ≡ pick t (some (record { parts = []; anchored = true })) (going (atom first b rest))
  here_is t e =
      ap (body_of first) (drop_at s i h) ∙ body_next first b rest
      ∙ ap (λ (x : Bool). pick x (some (record { parts = []; anchored = true })) (going (atom first b rest)))
      (ap (λ (x : Bool). eqb b 36 && x) (empty_at s (i + 1) (omega arith)) ∙ e)

  body_last : anchor_at s i ≡ true → body_of first (drop i s) ≡ some (record { parts = []; anchored = true })
  body_last e = here_is true e

  -- whatever is kept of an atom
  module _ (f : Atom → List ℕ) (e : anchor_at s i ≡ false) where
    body_lost : map_got f (atom first b rest) ≡ none → body_of first (drop i s) ≡ none
    body_lost z = here_is false e ∙ ap going (map_none f (atom first b rest) z)

    pub body_more : (r : Piece) → PieceHere (map_got f (atom first b rest)) s i r → Step f s i first r.end r.set
    body_more r a =
        let g = map_some f (atom first b rest) r.set (drop r.end s) a.reads in
        record {
          value = g.value;
          drawing = g.drawing;
          left =
              here_is false e ∙ ap going g.is
              ∙ ap (λ (l : List ℕ). with_elem (elem (repeats_at s r.end) g.value) (body_of false l)) (behind_drop (repeats_at s r.end) s r.end);
        }

-- nothing is left there but the anchor
pub body_stop : (s : List ℕ) (i : ℕ) (first : Bool) (stop : ℕ) → stop ≡ stop_of s → stop ≤ i
    → body_of first (drop i s) ≡ some (record { parts = []; anchored = ltb i (length s) })
body_stop s i first stop q h = go (ltb i (length s)) refl
  where
    go : (t : Bool) → ltb i (length s) ≡ t → body_of first (drop i s) ≡ some (record { parts = []; anchored = t })
    go true e = let l = ltb-true i (length s) e in body_last s i first l (stop_here s i stop q h l)
    go false e = body_end s i first (ltb-false i (length s) e)

-- ---- the whole pattern

abbrev pub finished : Bool → Option Body → Option Pattern
finished start o = o >>= (λ b. holds (leb (length b.parts) 60) >>= (λ x. some (record { at_start = start; elems = b.parts; at_end = b.anchored })))

pub read_is : (s : List ℕ) → (length s ≡ 0 → ⊥) → read_pattern s ≡ finished (eqb (peek s) 94) (body_of true (drop (start_of s) s))
unfolding read_pattern
read_is [] n = absurd (n refl)
read_is (c ∷ s) n =
    ap (finished (eqb c 94))
    (body_fuel (suc (suc (length s))) (suc (length rest)) true rest (omega (arith, short)) (omega arith) ∙ ap (body_of true) (go (eqb c 94)))
  where
    rest : List ℕ
    rest = pick (eqb c 94) s (c ∷ s)

    short : length rest ≤ suc (length s)
    short = either (λ (l : List ℕ). length l ≤ suc (length s)) (eqb c 94) s (c ∷ s) (omega arith) (omega arith)

    go : (t : Bool) → pick t s (c ∷ s) ≡ drop (pick t 1 0) (c ∷ s)
    go true = refl
    go false = refl

-- ---- counting the elements

abbrev pub counted : ℕ → Option Body → Bool
counted n none = false
counted n (some b) = leb (n + length b.parts) 60

-- n elements before i
pub record Counted (s : List ℕ) (i : ℕ) (first : Bool) (n : ℕ) : Type 0 where
  pub left : counted n (body_of first (drop i s)) ≡ is_pattern s
  pub few : n ≤ i
  pub inside : i ≤ length s

pub count_empty : (s : List ℕ) → length s ≡ 0 → false ≡ is_pattern s
unfolding is_pattern read_pattern
count_empty [] e = refl
count_empty (c ∷ s) e = absurd (omega arith)

count_all : (start : Bool) (o : Option Body) → was_read (finished start o) ≡ counted 0 o
count_all start none = refl
count_all start (some b) = go (leb (length b.parts) 60) ∙ ap (λ (n : ℕ). leb n 60) (sym (zero-add (length b.parts)))
  where
    go : (t : Bool) → was_read (holds t >>= (λ x. some (record { at_start = start; elems = b.parts; at_end = b.anchored }))) ≡ t
    go true = refl
    go false = refl

start_le : (s : List ℕ) → (length s ≡ 0 → ⊥) → start_of s ≤ length s
start_le s n = either (λ (k : ℕ). k ≤ length s) (eqb (peek s) 94) 1 0 (omega arith) (omega arith)

pub count_start : (s : List ℕ) (i : ℕ) → (length s ≡ 0 → ⊥) → i ≡ start_of s → Counted s i true 0
unfolding is_pattern
count_start s i n e =
    subst⁻¹ (λ (k : ℕ). Counted s k true 0) e
    (record {
      left = sym (ap was_read (read_is s n) ∙ count_all (eqb (peek s) 94) (body_of true (drop (start_of s) s)));
      few = omega arith;
      inside = start_le s n;
    })

counted_more : (x : Elem) (n : ℕ) (o : Option Body) → counted n (with_elem x o) ≡ counted (n + 1) o
counted_more x n none = refl
counted_more x n (some b) = let z : n + suc (length b.parts) ≡ n + 1 + length b.parts = omega arith in ap (λ (k : ℕ). leb k 60) z

-- none after more than 60
counted_past : (n : ℕ) (o : Option Body) → 60 < n → counted n o ≡ false
counted_past n none h = refl
counted_past n (some b) h = lt-leb (n + length b.parts) 60 (omega arith)

module _ (s : List ℕ) (i : ℕ) (first : Bool) (n : ℕ) (c : Counted s i first n) (stop : ℕ) (q : stop ≡ stop_of s) where
  pub count_done : stop ≤ i → n ≤ 60 → true ≡ is_pattern s
  count_done h few =
      sym (le-leb n 60 few) ∙ ap (λ (k : ℕ). leb k 60) (sym (add-zero n)) ∙ sym (ap (counted n) (body_stop s i first stop q h)) ∙ c.left

  -- another one behind 60, or a fault
  pub count_full : i < stop → n ≡ 60 → false ≡ is_pattern s
  count_full h full =
      sym (ap (counted n) (here_is s i first (stop_inside s i stop q h) false (stop_before s i stop q h)) ∙ go (atom first (get_or s i 0) (drop (i + 1) s))) ∙ c.left
    where
      go : (o : Option (Read Atom)) → counted n (going s i first (stop_inside s i stop q h) o) ≡ false
      go none = refl
      go (some a) =
          let more = body_of false (pick (eqb (peek a.rest) 42) (drop 1 a.rest) a.rest) in
          counted_more (elem (eqb (peek a.rest) 42) a.got) n more ∙ counted_past (n + 1) more (omega arith)

  module _ (h : i < stop) (f : Atom → List ℕ) where
    pub count_lost : map_got f (atom first (get_or s i 0) (drop (i + 1) s)) ≡ none → false ≡ is_pattern s
    count_lost z = sym (ap (counted n) (body_lost s i first (stop_inside s i stop q h) f (stop_before s i stop q h) z)) ∙ c.left

    pub count_more : (r : Piece) → PieceHere (map_got f (atom first (get_or s i 0) (drop (i + 1) s))) s i r → (j : ℕ) → j ≡ behind_of s r.end → Counted s j false (n + 1)
    count_more r a j w =
        let g = body_more s i first (stop_inside s i stop q h) f (stop_before s i stop q h) r a in
        let ahead : i < r.end = a.forward in
        let l : n ≤ i = c.few in
        subst⁻¹ (λ (k : ℕ). Counted s k false (n + 1)) w
        (record {
          left =
              sym (counted_more (elem (repeats_at s r.end) g.value) n (body_of false (drop (behind_of s r.end) s)))
              ∙ sym (ap (counted n) g.left) ∙ c.left;
          few = omega (arith, behind_ge (repeats_at s r.end) r.end);
          inside = behind_le s r.end a.inside;
        })

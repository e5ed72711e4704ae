-- One turn of the plain matcher, on what is left of the pattern and of the text.
use mathlib.Core.Path.{◌≡◌, refl, sym, ap, ap₂, ◌∙◌}
use mathlib.Core.Bool.{Bool, true, false, ◌&&◌}
use Rattle.std.specs.Prelude.{Option as Optional, Some, None}
use Rattle.std.specs.Bool.{then_some}
use mathlib.Core.Option.{Option, none, some, some-injective}
use mathlib.Core.List.{List, [], ◌∷◌}
use Prim.Native.Nat.{ℕ, ◌+◌, ◌-◌, ◌<◌, ◌≤◌}
use native.Mathlib.Omega.{arith}
use lib.Dec.{eqb, ltb}
use lib.ListN.{length, drop, drop_of_length-le}
use lib.Seq.{drop-drop}
use borrow.Author.Tests.{ltb-true, ltb-false, eq-eqb, ne_eqb}
use Rattle.octets.specs.Lists.{pick, peek}
use Rattle.octets.specs.Option.{◌>>=◌}
use Rattle.octets.proofs.Tests.{T_of, is_true, left}
use Rattle.machine.proofs.Places.{empty_at}
use Rattle.basic.specs.Pattern.{Atom, Elem, once, star, meets}
use Rattle.basic.specs.Reading.{Read, Body, atom, elem}
use Rattle.basic.specs.Inner.Places.{body_of}
use Rattle.basic.proofs.Countdown.{body_next, body_none}
use Rattle.place.specs.Place.{longer, one_more, single_far, repeated_far, furthest}
use Rattle.plain.specs.Inner.Turns.{Tried, Short, told, taken, Reaches}
use Rattle.plain.specs.declared.Trial.{Trial}
use Rattle.plain.proofs.Choices.{stretched_le, chosen_le}
use Rattle.plain.proofs.Trying.{Came, came, drop_peek}

longer_none : (o : Option ℕ) → o ≡ longer o none
longer_none none = refl
longer_none (some n) = refl

-- ---- an element on the text from j on

module _ (t : List ℕ) (j : ℕ) (a : Atom) (end : Bool) (ps : List Elem) where
  -- the byte at j, where there is one
  abbrev takes : Bool
  takes = ltb j (length t) && meets a (peek (drop j t))

  abbrev further : Option ℕ
  further = furthest meets end ps (drop (j + 1) t)

  single_takes : takes ≡ true → furthest meets end (once a ∷ ps) (drop j t) ≡ one_more further
  unfolding furthest
  single_takes e = go (ltb j (length t)) refl e
    where
      go : (u : Bool) → ltb j (length t) ≡ u → (u && meets a (peek (drop j t))) ≡ true → single_far (meets a) (furthest meets end ps) (drop j t) ≡ one_more further
      go true q m =
          ap (single_far (meets a) (furthest meets end ps)) (drop_peek t j (ltb-true j (length t) q)) ∙ ap (λ (x : Bool). pick x (one_more further) none) m
      go false q m = let z : ◌≡◌ {A = ℕ} 0 1 = cc in absurd (omega arith)

  single_fails : takes ≡ false → furthest meets end (once a ∷ ps) (drop j t) ≡ none
  unfolding furthest
  single_fails e = go (ltb j (length t)) refl e
    where
      go : (u : Bool) → ltb j (length t) ≡ u → (u && meets a (peek (drop j t))) ≡ false → single_far (meets a) (furthest meets end ps) (drop j t) ≡ none
      go true q m =
          ap (single_far (meets a) (furthest meets end ps)) (drop_peek t j (ltb-true j (length t) q)) ∙ ap (λ (x : Bool). pick x (one_more further) none) m
      go false q m = ap (single_far (meets a) (furthest meets end ps)) (drop_of_length-le t (ltb-false j (length t) q))

  abbrev again : Option ℕ
  again = repeated_far (meets a) (furthest meets end ps) (drop (j + 1) t)

  repeated_is : (u : Bool) → ltb j (length t) ≡ true → meets a (peek (drop j t)) ≡ u
      → repeated_far (meets a) (furthest meets end ps) (drop j t) ≡ longer (furthest meets end ps (drop j t)) (pick u (one_more again) none)
  repeated_is u q m =
      let d = drop_peek t j (ltb-true j (length t) q) in
      ap (repeated_far (meets a) (furthest meets end ps)) d
      ∙ ap (λ (x : Bool). longer (furthest meets end ps (peek (drop j t) ∷ drop (j + 1) t)) (pick x (one_more again) none)) m
      ∙ ap (λ (l : List ℕ). longer (furthest meets end ps l) (pick u (one_more again) none)) (sym d)

  repeated_takes : takes ≡ true → furthest meets end (star a ∷ ps) (drop j t) ≡ longer (furthest meets end ps (drop j t)) (one_more (furthest meets end (star a ∷ ps) (drop (j + 1) t)))
  unfolding furthest
  repeated_takes e = go (ltb j (length t)) refl e
    where
      go : (u : Bool) → ltb j (length t) ≡ u → (u && meets a (peek (drop j t))) ≡ true
          → repeated_far (meets a) (furthest meets end ps) (drop j t) ≡ longer (furthest meets end ps (drop j t)) (one_more again)
      go true q m = repeated_is true q m
      go false q m = let z : ◌≡◌ {A = ℕ} 0 1 = cc in absurd (omega arith)

  repeated_fails : takes ≡ false → furthest meets end (star a ∷ ps) (drop j t) ≡ furthest meets end ps (drop j t)
  unfolding furthest
  repeated_fails e = go (ltb j (length t)) refl e
    where
      go : (u : Bool) → ltb j (length t) ≡ u → (u && meets a (peek (drop j t))) ≡ false → repeated_far (meets a) (furthest meets end ps) (drop j t) ≡ furthest meets end ps (drop j t)
      go true q m = repeated_is false q m ∙ sym (longer_none (furthest meets end ps (drop j t)))
      go false q m =
          let d = drop_of_length-le t (ltb-false j (length t) q) in
          ap (repeated_far (meets a) (furthest meets end ps)) d ∙ ap (furthest meets end ps) (sym d)

-- ---- one byte further in the text

pub taken_in : (t : List ℕ) (j : ℕ) → Short t j → (x : Bool) → (ltb j (length t) && x) ≡ true → j < length t
taken_in t j w x u = ltb-true j (length t) (is_true (ltb j (length t)) (left (ltb j (length t)) x (T_of u)))

pub short_more : (t : List ℕ) (j : ℕ) → Short t j → j < length t → Short t (j + 1)
short_more t j w h = record { inside = omega arith; limit = w.limit }

pub short_way : (s : List ℕ) (i : ℕ) (t : List ℕ) (j : ℕ) (x : Optional ℕ) → Short t j → Reaches s i t (j + 1) x → taken x < 256
short_way s i t j x w r = let a = r.inside in let b = w.limit in omega arith

-- ---- the end of the pattern

module _ (s : List ℕ) (i : ℕ) (t : List ℕ) (j : ℕ) (w : Short t j) where
  -- nothing is left but perhaps the anchor
  ended : (x : Optional ℕ) (end : Bool) → ((first : Bool) → body_of first (drop i s) ≡ some (record { parts = []; anchored = end })) → taken x ≡ 0
      → told x ≡ furthest meets end [] (drop j t) → Reaches s i t j x
  ended x end f z g = record {
    inside = let l = w.inside in omega arith;
    far = λ first b y.
        g ∙ ap (λ (c : Body). furthest meets c.anchored c.parts (drop j t)) (some-injective _ _ (sym (f first) ∙ y));
  }

  pub reach_done : length s ≤ i → (x : Optional ℕ) → x ≡ Some 0 → Reaches s i t j x
  unfolding furthest
  reach_done h x e =
      ended x false (λ first. ap (body_of first) (drop_of_length-le s h) ∙ body_none first) (ap taken e) (ap told e)

  module _ (h : i < length s) where
    abbrev b : ℕ
    b = peek (drop i s)

    abbrev rest : List ℕ
    rest = drop (i + 1) s

    abbrev more_of : Read Atom → Body → Option Body
    more_of a m = some (record { parts = elem (eqb (peek a.rest) 42) a.got ∷ m.parts; anchored = m.anchored })

    abbrev body_behind : Read Atom → Option Body
    body_behind a = body_of false (pick (eqb (peek a.rest) 42) (drop 1 a.rest) a.rest)

    body_here : (first u : Bool) → (eqb b 36 && eqb (i + 1) (length s)) ≡ u
        → body_of first (drop i s) ≡ pick u (some (record { parts = []; anchored = true })) (atom first b rest >>= (λ a. body_behind a >>= more_of a))
    body_here first u e =
        ap (body_of first) (drop_peek s i h) ∙ body_next first b rest
        ∙ ap (λ (x : Bool). pick x (some (record { parts = []; anchored = true })) (atom first b rest >>= (λ a. body_behind a >>= more_of a)))
        (ap (λ (x : Bool). eqb b 36 && x) (empty_at s (i + 1) (omega arith)) ∙ e)

    anchor_at : (v : ℕ) → v ≡ b → (u : Bool) → (eqb v 36 && eqb (i + 1) (length s)) ≡ u → (eqb b 36 && eqb (i + 1) (length s)) ≡ u
    anchor_at v y u e = ap (λ (k : ℕ). eqb k 36 && eqb (i + 1) (length s)) (sym y) ∙ e

    pub reach_anchor : (v : ℕ) → v ≡ b → (eqb v 36 && eqb (i + 1) (length s)) ≡ true → (x : Optional ℕ) → x ≡ then_some (eqb j (length t)) 0 → Reaches s i t j x
    unfolding furthest
    reach_anchor v y e x q =
        ended x true (λ first. body_here first true (anchor_at v y true e)) (ap taken q ∙ nothing (eqb j (length t)))
        (ap told q ∙ told_cond (eqb j (length t)) ∙ ap (λ (u : Bool). pick u (some 0) none) (sym (empty_at t j w.inside)))
      where
        nothing : (u : Bool) → taken (then_some u 0) ≡ 0
        nothing true = refl
        nothing false = refl

        told_cond : (u : Bool) → told (then_some u 0) ≡ pick u (some 0) none
        told_cond true = refl
        told_cond false = refl

    -- ---- an element and what is left behind it

    module _ (v : ℕ) (y : v ≡ b) (e : (eqb v 36 && eqb (i + 1) (length s)) ≡ false) (c₀ : ℕ) (k : c₀ ≡ peek (drop j t)) (r : Trial) (g : Tried s i c₀ r) where
      pub record Behind (rep : Bool) (next : ℕ) (c : Body) : Type 0 where
        pub value : Atom
        pub more : Body
        pub takes : meets value (peek (drop j t)) ≡ r.takes
        pub left : body_of false (drop next s) ≡ some more
        pub is : record { parts = elem rep value ∷ more.parts; anchored = more.anchored } ≡ c

      behind_by : (rep : Bool) → eqb (peek (drop r.end s)) 42 ≡ rep → (next : ℕ) → pick rep (drop 1 (drop r.end s)) (drop r.end s) ≡ drop next s
          → (c : Body) (a : Read Atom) → a.rest ≡ drop r.end s → meets a.got (peek (drop j t)) ≡ r.takes
          → (m : Body) → body_behind a ≡ some m → record { parts = elem (eqb (peek a.rest) 42) a.got ∷ m.parts; anchored = m.anchored } ≡ c → Behind rep next c
      behind_by rep q next d c a u w m y z = record {
        value = a.got;
        more = m;
        takes = w;
        left =
            ap (body_of false) (sym d) ∙ ap (λ (x : Bool). body_of false (pick x (drop 1 (drop r.end s)) (drop r.end s))) (sym q)
            ∙ ap (λ (l : List ℕ). body_of false (pick (eqb (peek l) 42) (drop 1 l) l)) (sym u) ∙ y;
        is = ap (λ (x : Bool). record { parts = elem x a.got ∷ m.parts; anchored = m.anchored }) (sym q ∙ ap (λ (l : List ℕ). eqb (peek l) 42) (sym u)) ∙ z;
      }

      behind : (rep : Bool) → eqb (peek (drop r.end s)) 42 ≡ rep → (next : ℕ) → pick rep (drop 1 (drop r.end s)) (drop r.end s) ≡ drop next s
          → (first : Bool) (c : Body) → body_of first (drop i s) ≡ some c → Behind rep next c
      behind rep q next d first c z = at (came (atom first b rest) (λ a. body_behind a >>= more_of a) c (sym (body_here first false (anchor_at v y false e)) ∙ z))
        where
          at : Came (atom first b rest) (λ a. body_behind a >>= more_of a) c → Behind rep next c
          at a = on (came (body_behind a.value) (more_of a.value) c a.to)
            where
              on : Came (body_behind a.value) (more_of a.value) c → Behind rep next c
              on m =
                  let p = g.is first a.value a.from in
                  behind_by rep q next d c a.value p.0 (ap (meets a.value.got) (sym k) ∙ p.1) m.value m.from (some-injective _ _ m.to)

      -- whether it takes the byte at j
      abbrev took : Bool
      took = ltb j (length t) && r.takes

      takes_is : (a : Atom) → meets a (peek (drop j t)) ≡ r.takes → takes t j a false [] ≡ took
      takes_is a m = ap (λ (x : Bool). ltb j (length t) && x) m

      module _ (n : ℕ) (l : n ≡ peek (drop r.end s)) where
        -- once
        module _ (m : n ≡ 42 → ⊥) where
          once_far : (x : Optional ℕ) → ((a : Atom) (c : Body) → takes t j a false [] ≡ took → body_of false (drop r.end s) ≡ some c → told x ≡ furthest meets c.anchored (once a ∷ c.parts) (drop j t))
              → (first : Bool) (c : Body) → body_of first (drop i s) ≡ some c → told x ≡ furthest meets c.anchored c.parts (drop j t)
          once_far x f first c z =
              let p = behind false (ap (λ (a : ℕ). eqb a 42) (sym l) ∙ ne_eqb n 42 m) r.end refl first c z in
              f p.value p.more (takes_is p.value p.takes) p.left ∙ ap (λ (d : Body). furthest meets d.anchored d.parts (drop j t)) p.is

          pub reach_fail : took ≡ false → (x : Optional ℕ) → x ≡ None → Reaches s i t j x
          reach_fail u x q = record {
            inside = let l = w.inside in let z = ap taken q in omega arith;
            far = once_far x (λ a c o z. ap told q ∙ sym (single_fails t j a c.anchored c.parts (o ∙ u)));
          }

          pub reach_once : took ≡ true → (z : Optional ℕ) → Reaches s r.end t (j + 1) z → (x : Optional ℕ) → told x ≡ one_more (told z) → Reaches s i t j x
          reach_once u z f x q = record {
            inside = let l = f.inside in omega (arith, stretched_le x z q);
            far = once_far x (λ a c o p. q ∙ ap one_more (f.far false c p) ∙ sym (single_takes t j a c.anchored c.parts (o ∙ u)));
          }

        -- repeated
        module _ (m : n ≡ 42) (o : Optional ℕ) (f : Reaches s (r.end + 1) t j o) where
          star_far : (x : Optional ℕ) → ((first : Bool) (a : Atom) (c : Body) → takes t j a false [] ≡ took
              → body_of first (drop i s) ≡ some (record { parts = star a ∷ c.parts; anchored = c.anchored })
              → told o ≡ furthest meets c.anchored c.parts (drop j t) → told x ≡ furthest meets c.anchored (star a ∷ c.parts) (drop j t))
              → (first : Bool) (c : Body) → body_of first (drop i s) ≡ some c → told x ≡ furthest meets c.anchored c.parts (drop j t)
          star_far x q first c z =
              let p = behind true (ap (λ (a : ℕ). eqb a 42) (sym l) ∙ eq-eqb n 42 m) (r.end + 1) (drop-drop 1 r.end s) first c z in
              q first p.value p.more (takes_is p.value p.takes) (z ∙ ap (λ (d : Body). some d) (sym p.is)) (f.far false p.more p.left)
              ∙ ap (λ (d : Body). furthest meets d.anchored d.parts (drop j t)) p.is

          pub reach_skip : took ≡ false → Reaches s i t j o
          reach_skip u = record {
            inside = f.inside;
            far = star_far o (λ first a c p z q. q ∙ sym (repeated_fails t j a c.anchored c.parts (p ∙ u)));
          }

          pub reach_both : took ≡ true → (z : Optional ℕ) → Reaches s i t (j + 1) z → (z' : Optional ℕ) → told z' ≡ one_more (told z) → (x : Optional ℕ) → told x ≡ longer (told o) (told z')
              → Reaches s i t j x
          reach_both u z on z' q x p = record {
            inside =
                let a = f.inside in let b' = on.inside in
                let top : taken x ≤ length t - j = chosen_le x o z' (length t - j) p (omega arith) (omega (arith, stretched_le z' z q)) in
                let in_text = w.inside in
                omega arith;
            far = star_far x (λ first a c d whole left.
                p ∙ ap₂ longer left (q ∙ ap one_more (on.far first (record { parts = star a ∷ c.parts; anchored = c.anchored }) whole))
                ∙ sym (repeated_takes t j a c.anchored c.parts (d ∙ u)));
          }

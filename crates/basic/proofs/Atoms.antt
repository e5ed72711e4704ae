-- The atoms by place: lists, pairs, `.`, `*` and ordinary bytes.
use mathlib.Core.Path.{◌≡◌, refl, sym, ap, ap₂, ◌∙◌, subst, subst⁻¹}
use mathlib.Core.Bool.{Bool, true, false, not, ◌&&◌, ◌||◌, true≢false}
use mathlib.Core.Option.{Option, none, some}
use mathlib.Core.List.{List}
use Prim.Native.Nat.{ℕ, ◌+◌, ◌<◌, ◌≤◌}
use native.Mathlib.Omega.{arith}
use lib.Dec.{eqb}
use lib.ListN.{length, get_or, drop}
use lib.Seq.{drop-drop}
use borrow.Author.Tests.{ne_eqb, eq-eqb, eqb-true, eqb-false, not-true, not-false}
use Rattle.octets.specs.Lists.{text, pick, some_of, peek}
use Rattle.octets.specs.Option.{◌>>=◌}
use Rattle.basic.specs.Pattern.{Range, Atom, byte, dot, list}
use Rattle.std.specs.Prelude as Std
use Rattle.std.specs.Prelude.{Some, None}
use Rattle.basic.specs.Inner.Places.{map_got, items_of, PieceAt, PieceHere}
use Rattle.basic.specs.Reading.{Read, read, bracket, escaped, asterisk, atom}
use Rattle.basic.specs.Inner.Drawn.{drawn}
use Rattle.basic.specs.declared.reader.Piece.{Piece}
use Rattle.basic.proofs.Items.{passed, stopped}
use Rattle.basic.proofs.Listing.{piece_some}
use Rattle.basic.proofs.Places.{peek_in, peek_inside}

-- ---- what an answer says of what was read

-- what was read, of which f gives the set
pub record Got {A : Type 0} (f : A → List ℕ) (o : Option (Read A)) (set u : List ℕ) : Type 0 where
  pub value : A
  pub is : o ≡ read value u
  pub drawing : f value ≡ set

pub map_none : {A : Type 0} (f : A → List ℕ) (o : Option (Read A)) → map_got f o ≡ none → o ≡ none
map_none f none e = refl
map_none f (some x) e = absurd (let z : ◌≡◌ {A = ℕ} 0 1 = cc in omega arith)

pub map_some : {A : Type 0} (f : A → List ℕ) (o : Option (Read A)) (set u : List ℕ) → map_got f o ≡ read set u → Got f o set u
map_some f none set u e = absurd (let z : ◌≡◌ {A = ℕ} 0 1 = cc in omega arith)
map_some {A} f (some x) set u e =
    let q : ◌≡◌ {A = Read (List ℕ)} (record { got = f x.got; rest = x.rest }) (record { got = set; rest = u }) = cc in
    record {
      value = x.got;
      is = ap (λ (v : List ℕ). read x.got v) (ap (λ (r : Read (List ℕ)). r.rest) q);
      drawing = ap (λ (r : Read (List ℕ)). r.got) q;
    }

-- a place further on
pub piece_on : (whole whole' : Option (Read (List ℕ))) (s : List ℕ) (i j : ℕ) (r : Std.Option Piece) → whole ≡ whole' → i ≤ j → PieceAt whole' s j r → PieceAt whole s i r
piece_on whole whole' s i j None e h a = e ∙ a
piece_on whole whole' s i j (Some r) e h a = record { reads = e ∙ a.reads; forward = let f : j < r.end = a.forward in omega arith; inside = a.inside }

-- ---- lists

module _ (s : List ℕ) (from : ℕ) (negated build : Bool) where
  pub list_refused : map_got (λ l. drawn build (list false l)) (items_of true (drop from s)) ≡ none
      → map_got (λ l. drawn build (list negated l)) (items_of true (drop from s)) ≡ none
  list_refused e = ap (map_got (λ l. drawn build (list negated l))) (map_none (λ l. drawn build (list false l)) (items_of true (drop from s)) e)

  pub list_closed : (p : Piece) → PieceHere (map_got (λ l. drawn build (list false l)) (items_of true (drop from s))) s from p
      → (set : List ℕ) → ((l : List Range) → p.set ≡ drawn build (list false l) → set ≡ drawn build (list negated l))
      → PieceHere (map_got (λ l. drawn build (list negated l)) (items_of true (drop from s))) s from (record { end = p.end; set = set })
  list_closed p a set c =
      let g = map_some (λ l. drawn build (list false l)) (items_of true (drop from s)) p.set (drop p.end s) a.reads in
      piece_some (map_got (λ l. drawn build (list negated l)) (items_of true (drop from s))) s from p.end set
      (ap (map_got (λ l. drawn build (list negated l))) g.is ∙ ap (λ (l : List ℕ). read l (drop p.end s)) (sym (c g.value (sym g.drawing))))
      a.forward a.inside

-- the list behind its `^`, or with none
bracket_by : Bool → List ℕ → Option (Read Atom)
bracket_by neg inner = items_of true inner >>= (λ l. read (list neg l.got) l.rest)

by_list : (build neg : Bool) (o : Option (Read (List Range)))
    → map_got (drawn build) (o >>= (λ l. read (list neg l.got) l.rest)) ≡ map_got (λ l. drawn build (list neg l)) o
by_list build neg none = refl
by_list build neg (some l) = refl

module _ (s : List ℕ) (i : ℕ) (build : Bool) (r : Std.Option Piece) (next : ℕ) (n : next ≡ peek (drop i s)) where
  bracket_is : (t : Bool) → eqb next 94 ≡ t → bracket (drop i s) ≡ bracket_by t (pick t (drop 1 (drop i s)) (drop i s))
  unfolding bracket_by
  bracket_is t e = ap (λ (x : Bool). bracket_by x (pick x (drop 1 (drop i s)) (drop i s))) (ap (λ (k : ℕ). eqb k 94) (sym n) ∙ e)

  bracket_caret : next ≡ 94 → PieceAt (map_got (λ l. drawn build (list true l)) (items_of true (drop (i + 1) s))) s (i + 1) r
      → PieceAt (map_got (drawn build) (bracket (drop i s))) s i r
  unfolding bracket_by
  bracket_caret e a =
      piece_on (map_got (drawn build) (bracket (drop i s))) (map_got (λ l. drawn build (list true l)) (items_of true (drop (i + 1) s))) s i (i + 1) r
      (ap (map_got (drawn build)) (bracket_is true (eq-eqb next 94 e) ∙ ap (bracket_by true) (drop-drop 1 i s))
      ∙ by_list build true (items_of true (drop (i + 1) s)))
      (omega arith) a

  bracket_plain : (next ≡ 94 → ⊥) → PieceAt (map_got (λ l. drawn build (list false l)) (items_of true (drop i s))) s i r
      → PieceAt (map_got (drawn build) (bracket (drop i s))) s i r
  unfolding bracket_by
  bracket_plain e a =
      piece_on (map_got (drawn build) (bracket (drop i s))) (map_got (λ l. drawn build (list false l)) (items_of true (drop i s))) s i i r
      (ap (map_got (drawn build)) (bracket_is false (ne_eqb next 94 e)) ∙ by_list build false (items_of true (drop i s)))
      (omega arith) a

  pub bracket_from : (from : ℕ) → from ≡ pick (eqb next 94) (i + 1) i → PieceAt (map_got (λ l. drawn build (list (eqb next 94) l)) (items_of true (drop from s))) s from r
      → PieceAt (map_got (drawn build) (bracket (drop i s))) s i r
  bracket_from from q a = go (eqb next 94) refl q a
    where
      go : (t : Bool) → eqb next 94 ≡ t → from ≡ pick t (i + 1) i → PieceAt (map_got (λ l. drawn build (list t l)) (items_of true (drop from s))) s from r
          → PieceAt (map_got (drawn build) (bracket (drop i s))) s i r
      go true e q a =
          bracket_caret (eqb-true next 94 e) (subst (λ (k : ℕ). PieceAt (map_got (λ l. drawn build (list true l)) (items_of true (drop k s))) s k r) q a)
      go false e q a =
          bracket_plain (eqb-false next 94 e) (subst (λ (k : ℕ). PieceAt (map_got (λ l. drawn build (list false l)) (items_of true (drop k s))) s k r) q a)

-- ---- pairs

module _ (s : List ℕ) (i next : ℕ) (n : next ≡ peek (drop i s)) (t : Bool) (k : t ≡ some_of (eqb next) (text ".[\\*^$")) where
  special_is : t ≡ some_of (eqb (peek (drop i s))) (text ".[\\*^$")
  special_is = k ∙ ap (λ (x : ℕ). some_of (eqb x) (text ".[\\*^$")) n

  pub pair_refused : (build : Bool) → not t ≡ true → map_got (drawn build) (escaped (drop i s)) ≡ none
  pair_refused build e = ap (map_got (drawn build)) (stopped (some_of (eqb (peek (drop i s))) (text ".[\\*^$")) _ (sym special_is ∙ not-true t e))

  pub pair_inside : not t ≡ false → i < length s
  pair_inside e = peek_inside s i (λ z. true≢false (sym (not-false t e) ∙ special_is ∙ ap (λ (x : ℕ). some_of (eqb x) (text ".[\\*^$")) z))

  pub pair_on : (build : Bool) (set : List ℕ) → not t ≡ false → set ≡ drawn build (byte (get_or s i 0))
      → PieceHere (map_got (drawn build) (escaped (drop i s))) s i (record { end = i + 1; set = set })
  pair_on build set e d =
      let h : i < length s = pair_inside e in
      piece_some (map_got (drawn build) (escaped (drop i s))) s i (i + 1) set
      (ap (map_got (drawn build)) (passed (some_of (eqb (peek (drop i s))) (text ".[\\*^$")) _ (sym special_is ∙ not-false t e))
      ∙ ap₂ (λ (x u : List ℕ). read x u) (ap (λ (c : ℕ). drawn build (byte c)) (sym (peek_in s i h)) ∙ sym d) (drop-drop 1 i s))
      (omega arith) (omega arith)

-- ---- the atom that begins at i

module _ (s : List ℕ) (i : ℕ) (first build : Bool) (h : i < length s) where
  abbrev b : ℕ
  b = get_or s i 0

  abbrev rest : List ℕ
  rest = drop (i + 1) s

  abbrev whole : Option (Read (List ℕ))
  whole = map_got (drawn build) (atom first b rest)

  one_byte : (a : Atom) (set : List ℕ) → atom first b rest ≡ read a rest → set ≡ drawn build a → PieceHere whole s i (record { end = i + 1; set = set })
  one_byte a set e d =
      piece_some whole s i (i + 1) set (ap (map_got (drawn build)) e ∙ ap (λ (l : List ℕ). read l rest) (sym d)) (omega arith) (omega arith)

  pub atom_dot : (set : List ℕ) → b ≡ 46 → set ≡ drawn build dot → PieceHere whole s i (record { end = i + 1; set = set })
  atom_dot set e d = one_byte dot set (ap (λ (k : ℕ). atom first k rest) e) d

  pub atom_list : (r : Std.Option Piece) → b ≡ 91 → PieceAt (map_got (drawn build) (bracket rest)) s (i + 1) r → PieceAt whole s i r
  atom_list r e a =
      piece_on whole (map_got (drawn build) (bracket rest)) s i (i + 1) r (ap (λ (k : ℕ). map_got (drawn build) (atom first k rest)) e) (omega arith) a

  pub atom_pair : (r : Std.Option Piece) → b ≡ 92 → PieceAt (map_got (drawn build) (escaped rest)) s (i + 1) r → PieceAt whole s i r
  atom_pair r e a =
      piece_on whole (map_got (drawn build) (escaped rest)) s i (i + 1) r (ap (λ (k : ℕ). map_got (drawn build) (atom first k rest)) e) (omega arith) a

  star_refused : (t : Bool) → (t && not first) ≡ true → t ≡ eqb b 42 → atom first b rest ≡ none
  star_refused true e q = ap (λ (k : ℕ). atom first k rest) (eqb-true b 42 (sym q)) ∙ ap (λ (x : Bool). asterisk x rest) (not-true first e)
  star_refused false e q = absurd (true≢false (sym e))

  pub atom_star : (eqb b 42 && not first) ≡ true → whole ≡ none
  atom_star e = ap (map_got (drawn build)) (star_refused (eqb b 42) e refl)

  module _ (d : b ≡ 46 → ⊥) (l : b ≡ 91 → ⊥) (p : b ≡ 92 → ⊥) where
    ordinary : (t : Bool) → t ≡ eqb b 42 → (t && not first) ≡ false → atom first b rest ≡ read (byte b) rest
    ordinary true q e =
        let f : first ≡ true = not-false first e in
        ap (λ (k : ℕ). atom first k rest) (eqb-true b 42 (sym q)) ∙ ap (λ (x : Bool). asterisk x rest) f
        ∙ ap (λ (k : ℕ). read (byte k) rest) (sym (eqb-true b 42 (sym q)))
    ordinary false q e = rw (ne_eqb b 46 d, ne_eqb b 91 l, ne_eqb b 92 p, ← q) refl

    pub atom_byte : (set : List ℕ) → (eqb b 42 && not first) ≡ false → set ≡ drawn build (byte b) → PieceHere whole s i (record { end = i + 1; set = set })
    atom_byte set e q = one_byte (byte b) set (ordinary (eqb b 42) refl e) q

  -- none of the four: each is told from the byte
  pub plain_is : (t : Bool) → t ≡ not (some_of (eqb b) (text ".[\\*")) → t ≡ true → atom first b rest ≡ read (byte b) rest
  plain_is t e y = go (eqb b 46) refl (eqb b 91) refl (eqb b 92) refl (eqb b 42) refl (sym e ∙ y)
    where
      go : (d : Bool) → eqb b 46 ≡ d → (l : Bool) → eqb b 91 ≡ l → (p : Bool) → eqb b 92 ≡ p → (a : Bool) → eqb b 42 ≡ a
          → not (d || (l || (p || (a || false)))) ≡ true → atom first b rest ≡ read (byte b) rest
      go false e₁ false e₂ false e₃ false e₄ n = rw (e₁, e₂, e₃, e₄) refl
      go true e₁ l e₂ p e₃ a e₄ n = absurd (true≢false (sym n))
      go false e₁ true e₂ p e₃ a e₄ n = absurd (true≢false (sym n))
      go false e₁ false e₂ true e₃ a e₄ n = absurd (true≢false (sym n))
      go false e₁ false e₂ false e₃ true e₄ n = absurd (true≢false (sym n))

  pub atom_plain : (set : List ℕ) (t : Bool) → t ≡ not (some_of (eqb b) (text ".[\\*")) → t ≡ true → set ≡ drawn build (byte b)
      → PieceHere whole s i (record { end = i + 1; set = set })
  atom_plain set t e y q = one_byte (byte b) set (plain_is t e y) q

  -- whether sets are asked for is known
  pub atom_built : (r : Std.Option Piece) (t : Bool) → build ≡ t → PieceAt (map_got (drawn t) (atom first b rest)) s i r → PieceAt whole s i r
  atom_built r t e a = subst⁻¹ (λ (x : Bool). PieceAt (map_got (drawn x) (atom first b rest)) s i r) e a

-- A bracket list under way: the ranges read so far, and what is left.
use mathlib.Core.Path.{◌≡◌, refl, sym, ap, ◌∙◌}
use mathlib.Core.Bool.{Bool, true, false, not, ◌&&◌}
use mathlib.Core.Option.{Option, none, some}
use mathlib.Core.List.{List, [], ◌∷◌, ◌++◌, append_assoc, append-nil}
use Prim.Native.Nat.{ℕ, ◌+◌, ◌<◌, ◌≤◌}
use native.Mathlib.Omega.{arith}
use lib.Dec.{eqb}
use lib.ListN.{length, get_or, drop, replicate, drop_of_length-le}
use Rattle.octets.specs.Lists.{pick}
use Rattle.octets.specs.Option.{◌>>=◌}
use Rattle.machine.proofs.Places.{drop_at}
use Rattle.basic.specs.Pattern.{Range, list}
use Rattle.basic.specs.Inner.Places.{map_got, items_of, ItemHere, PieceHere}
use Rattle.basic.specs.Reading.{Read, read, item}
use Rattle.basic.specs.Inner.Drawn.{drawn}
use Rattle.basic.specs.declared.reader.Item.{Item}
use Rattle.basic.proofs.Countdown.{items_next, items_none}
use Rattle.basic.proofs.Words.{no_words}

-- ---- answers

pub piece_some : (whole : Option (Read (List ℕ))) (s : List ℕ) (i e : ℕ) (set : List ℕ) → whole ≡ read set (drop e s) → i < e → e ≤ length s
    → PieceHere whole s i (record { end = e; set = set })
piece_some whole s i e set q l m = record { reads = q; forward = l; inside = m }

-- ---- the list

pub record Gathered (build : Bool) (s : List ℕ) (from i : ℕ) (first : Bool) (set : List ℕ) : Type 0 where
  pub ranges : List Range
  pub drawing : set ≡ drawn build (list false ranges)
  pub left : map_got (λ l. ranges ++ l) (items_of first (drop i s)) ≡ items_of true (drop from s)
  pub onward : from ≤ i

abbrev sets_of : Bool → List ℕ → Option (Read (List ℕ))
sets_of build s = map_got (λ l. drawn build (list false l)) (items_of true s)

map_id : (o : Option (Read (List Range))) → map_got (λ l. [] ++ l) o ≡ o
map_id none = refl
map_id (some r) = refl

no_ranges : (build : Bool) → replicate 4 0 ≡ drawn build (list false [])
unfolding drawn
no_ranges true = no_words
no_ranges false = no_words

pub gather_none : (build : Bool) (s : List ℕ) (from : ℕ) → Gathered build s from from true (replicate 4 0)
gather_none build s from = record { ranges = []; drawing = no_ranges build; left = map_id (items_of true (drop from s)); onward = omega arith }

-- nothing is left to read, so the whole list is refused
gather_lost : (build : Bool) (s : List ℕ) (from i : ℕ) (first : Bool) (set : List ℕ) → Gathered build s from i first set → items_of first (drop i s) ≡ none
    → sets_of build (drop from s) ≡ none
gather_lost build s from i first set g e =
    ap (map_got (λ l. drawn build (list false l))) (sym g.left ∙ ap (map_got (λ l. g.ranges ++ l)) e)

pub gather_end : (build : Bool) (s : List ℕ) (from i : ℕ) (first : Bool) (set : List ℕ) → Gathered build s from i first set → length s ≤ i
    → sets_of build (drop from s) ≡ none
gather_end build s from i first set g h = gather_lost build s from i first set g (ap (items_of first) (drop_of_length-le s h) ∙ items_none first)

module _ (build : Bool) (s : List ℕ) (from i : ℕ) (first : Bool) (set : List ℕ) (g : Gathered build s from i first set) (h : i < length s) where
  abbrev b : ℕ
  b = get_or s i 0

  abbrev rest : List ℕ
  rest = drop (i + 1) s

  next_is : (t : Bool) → (eqb b 93 && not first) ≡ t
      → items_of first (drop i s) ≡ pick t (read [] rest) (item first b rest >>= (λ x. items_of false x.rest >>= (λ l. read (x.got ∷ l.got) l.rest)))
  next_is t e =
      ap (items_of first) (drop_at s i h) ∙ items_next first b rest
      ∙ ap (λ (x : Bool). pick x (read [] rest) (item first b rest >>= (λ x. items_of false x.rest >>= (λ l. read (x.got ∷ l.got) l.rest)))) e

  pub gather_close : (eqb b 93 && not first) ≡ true → PieceHere (sets_of build (drop from s)) s from (record { end = i + 1; set = set })
  gather_close e =
      let k : from ≤ i = g.onward in
      piece_some (sets_of build (drop from s)) s from (i + 1) set
      (ap (map_got (λ l. drawn build (list false l))) (sym g.left ∙ ap (map_got (λ l. g.ranges ++ l)) (next_is true e))
      ∙ ap (λ (l : List ℕ). read l rest) (ap (λ (l : List Range). drawn build (list false l)) (append-nil g.ranges) ∙ sym g.drawing))
      (omega arith) (omega arith)

  module _ (e : (eqb b 93 && not first) ≡ false) where
    pub gather_refused : item first b rest ≡ none → sets_of build (drop from s) ≡ none
    gather_refused z =
        gather_lost build s from i first set g
        (next_is false e ∙ ap (λ (o : Option (Read Range)). o >>= (λ x. items_of false x.rest >>= (λ l. read (x.got ∷ l.got) l.rest))) z)

    snoc : (x : Range) (o : Option (Read (List Range)))
        → map_got (λ l. g.ranges ++ l) (o >>= (λ l. read (x ∷ l.got) l.rest)) ≡ map_got (λ l. (g.ranges ++ (x ∷ [])) ++ l) o
    snoc x none = refl
    snoc x (some l) = ap (λ (k : List Range). read k l.rest) (sym (append_assoc g.ranges (x ∷ []) l.got))

    pub gather_more : (r : Item) → ItemHere (item first b rest) s i r → (wider : List ℕ)
        → ((l : List Range) → set ≡ drawn build (list false l) → wider ≡ drawn build (list false (l ++ (record { lo = r.lo; hi = r.hi } ∷ []))))
        → Gathered build s from r.end false wider
    gather_more r a wider w =
        let x : Range = record { lo = r.lo; hi = r.hi } in
        let k : from ≤ i = g.onward in
        let f : i < r.end = a.forward in
        record {
          ranges = g.ranges ++ (x ∷ []);
          drawing = w g.ranges g.drawing;
          left =
              sym (snoc x (items_of false (drop r.end s)))
              ∙ ap (map_got (λ l. g.ranges ++ l))
              (sym (next_is false e ∙ ap (λ (o : Option (Read Range)). o >>= (λ x. items_of false x.rest >>= (λ l. read (x.got ∷ l.got) l.rest))) a.reads))
              ∙ g.left;
          onward = omega arith;
        }

-- The items of a bracket list, by place.
use Rattle.octets.proofs.Tests.{not_or}
use mathlib.Core.Path.{◌≡◌, refl, sym, ap, ap₂, ◌∙◌, subst⁻¹}
use mathlib.Core.Bool.{Bool, true, false, not, ◌&&◌, ◌||◌, true≢false, or_assoc, or-false, and-true}
use mathlib.Core.Option.{Option, none}
use mathlib.Core.List.{List}
use Prim.Native.Nat.{ℕ, ◌+◌, ◌<◌, ◌≤◌}
use native.Mathlib.Omega.{arith}
use lib.Dec.{leb, eqb}
use lib.ListN.{length, get_or, drop}
use lib.Seq.{drop-drop}
use borrow.Author.Tests.{ne_eqb, eq-eqb, le-leb, lt-leb, not-true, not-false}
use Rattle.octets.specs.Lists.{pick, peek}
use Rattle.octets.specs.Option.{◌>>=◌, holds}
use Rattle.basic.specs.Pattern.{Range}
use Rattle.std.specs.Prelude as Std
use Rattle.basic.specs.Inner.Places.{ItemAt, ItemHere}
use Rattle.basic.specs.Reading.{Read, read, class_opens, range_opens, range, single, begins_item, item}
use Rattle.basic.specs.declared.reader.Item.{Item}
use Rattle.basic.proofs.Places.{peek_in, peek_inside}

-- ---- the tests of one byte and the next

pub class_test : (b next : ℕ) (u : List ℕ) → next ≡ peek u → (eqb b 91 && (eqb next 46 || eqb next 61 || eqb next 58)) ≡ class_opens b u
class_test b next u e =
    ap (λ (n : ℕ). eqb b 91 && (eqb n 46 || eqb n 61 || eqb n 58)) e
    ∙ ap (λ (t : Bool). eqb b 91 && t) (or_assoc (eqb (peek u) 46) (eqb (peek u) 61) (eqb (peek u) 58)
    ∙ ap (λ (t : Bool). eqb (peek u) 46 || (eqb (peek u) 61 || t)) (sym (or-false (eqb (peek u) 58))))

-- `-` opens no class
pub dash_test : (first : Bool) (b next : ℕ) → b ≡ 45 → (u : List ℕ) → next ≡ peek u → (first || eqb next 93) ≡ (begins_item first b u && not (class_opens b u))
dash_test first b next d u e =
    ap (λ (n : ℕ). first || eqb n 93) e ∙ sym (and-true (first || eqb (peek u) 93)) ∙ ap (λ (k : ℕ). begins_item first k u && not (class_opens k u)) (sym d)

pub begins_test : (first : Bool) (b : ℕ) (t : Bool) → (b ≡ 45 → ⊥) → (u : List ℕ) → t ≡ class_opens b u → not t ≡ (begins_item first b u && not (class_opens b u))
begins_test first b t n u k = ap not k ∙ ap (λ (x : Bool). (not x || first || eqb (peek u) 93) && not (class_opens b u)) (sym (ne_eqb b 45 n))

-- ---- answers

item_some : (whole : Option (Read Range)) (s : List ℕ) (i e lo hi : ℕ) → whole ≡ read (record { lo = lo; hi = hi }) (drop e s) → i < e → e ≤ length s
    → ItemHere whole s i (record { end = e; lo = lo; hi = hi })
item_some whole s i e lo hi q l m = record { reads = q; forward = l; inside = m }

-- ---- a range

-- b, then `-`, then e, and u is left
range_by : ℕ → ℕ → List ℕ → Option (Read Range)
range_by b e u = holds (leb b e && not (class_opens e u)) >>= (λ x. read (record { lo = b; hi = e }) u)

-- what a test lets through, or not
pub passed : {A : Type 0} (t : Bool) (o : Option A) → t ≡ true → (holds t >>= (λ x. o)) ≡ o
passed true o e = refl
passed false o e = absurd (true≢false (sym e))

pub stopped : {A : Type 0} (t : Bool) (o : Option A) → t ≡ false → (holds t >>= (λ x. o)) ≡ none
stopped true o e = absurd (true≢false e)
stopped false o e = refl

and_both : {a b : Bool} → a ≡ true → b ≡ false → (a && not b) ≡ true
and_both p q = ap₂ (λ (x y : Bool). x && not y) p q

and_no : (a : Bool) {b : Bool} → b ≡ true → (a && not b) ≡ false
and_no true q = ap not q
and_no false q = refl

module _ (s : List ℕ) (i : ℕ) (h : i + 2 < length s) where
  range_is : range (get_or s i 0) (drop (i + 1) s) ≡ range_by (get_or s i 0) (get_or s (i + 2) 0) (drop (i + 3) s)
  unfolding range_by
  range_is =
      let one : i + 1 + 1 ≡ i + 2 = omega arith in
      let two : i + 1 + 2 ≡ i + 3 = omega arith in
      ap₂ (range_by (get_or s i 0))
      (ap peek (drop-drop 1 (i + 1) s ∙ ap (λ (n : ℕ). drop n s) one) ∙ sym (peek_in s (i + 2) h))
      (drop-drop 2 (i + 1) s ∙ ap (λ (n : ℕ). drop n s) two)

  pub range_falls : get_or s (i + 2) 0 < get_or s i 0 → range (get_or s i 0) (drop (i + 1) s) ≡ none
  unfolding range_by
  range_falls l =
      range_is ∙ stopped _ _ (ap (λ (t : Bool). t && not (class_opens (get_or s (i + 2) 0) (drop (i + 3) s))) (lt-leb (get_or s i 0) (get_or s (i + 2) 0) l))

  module _ (next : ℕ) (n : next ≡ peek (drop (i + 3) s)) (t : Bool) (k : (u : List ℕ) → next ≡ peek u → t ≡ class_opens (get_or s (i + 2) 0) u) where
    class_is : t ≡ class_opens (get_or s (i + 2) 0) (drop (i + 3) s)
    class_is = k (drop (i + 3) s) n

    pub range_class : t ≡ true → range (get_or s i 0) (drop (i + 1) s) ≡ none
    unfolding range_by
    range_class e = range_is ∙ stopped _ _ (and_no (leb (get_or s i 0) (get_or s (i + 2) 0)) (sym class_is ∙ e))

    pub range_on : get_or s i 0 ≤ get_or s (i + 2) 0 → t ≡ false
        → ItemHere (range (get_or s i 0) (drop (i + 1) s)) s i (record { end = i + 3; lo = get_or s i 0; hi = get_or s (i + 2) 0 })
    unfolding range_by
    range_on l e =
        item_some (range (get_or s i 0) (drop (i + 1) s)) s i (i + 3) (get_or s i 0) (get_or s (i + 2) 0)
        (range_is ∙ passed _ _ (and_both (le-leb (get_or s i 0) (get_or s (i + 2) 0) l) (sym class_is ∙ e)))
        (omega arith) (omega arith)

-- ---- an item

-- the end of a range that is neither `]` nor missing stands in the pattern
pub item_inside : (s : List ℕ) (i end : ℕ) → end ≡ peek (drop (i + 2) s) → (eqb end 93 || eqb end 256) ≡ false → i + 2 < length s
item_inside s i end g m = peek_inside s (i + 2) (λ z. true≢false (sym (tail (eqb end 93) (eq-eqb end 256 (g ∙ z))) ∙ m))
  where
    tail : (x : Bool) {y : Bool} → y ≡ true → (x || y) ≡ true
    tail true q = refl
    tail false q = q

module _ (s : List ℕ) (i : ℕ) (first : Bool) (h : i < length s) (next : ℕ) (n : next ≡ peek (drop (i + 1) s)) (t : Bool)
    (k : (u : List ℕ) → next ≡ peek u → t ≡ (begins_item first (get_or s i 0) u && not (class_opens (get_or s i 0) u))) where
  abbrev b : ℕ
  b = get_or s i 0

  abbrev rest : List ℕ
  rest = drop (i + 1) s

  begins_is : t ≡ (begins_item first b rest && not (class_opens b rest))
  begins_is = k rest n

  pub item_not : not t ≡ true → item first b rest ≡ none
  item_not e = stopped _ _ (sym begins_is ∙ not-true t e)

  goes_on : not t ≡ false → item first b rest ≡ pick (range_opens rest) (range b rest) (single b rest)
  goes_on e = passed _ _ (sym begins_is ∙ not-false t e)

  alone : not t ≡ false → range_opens rest ≡ false → ItemHere (item first b rest) s i (record { end = i + 1; lo = b; hi = b })
  alone e q =
      item_some (item first b rest) s i (i + 1) b b (goes_on e ∙ ap (λ (x : Bool). pick x (range b rest) (single b rest)) q)
      (omega arith) (omega arith)

  pub item_alone : not t ≡ false → (next ≡ 45 → ⊥) → ItemHere (item first b rest) s i (record { end = i + 1; lo = b; hi = b })
  item_alone e m =
      alone e (ap (λ (x : Bool). x && not (eqb (peek (drop 1 rest)) 93) && not (eqb (peek (drop 1 rest)) 256)) (ne_eqb (peek rest) 45 (λ z. m (n ∙ z))))

  module _ (end : ℕ) (g : end ≡ peek (drop (i + 2) s)) (dash : next ≡ 45) where
    opens_is : range_opens rest ≡ (not (eqb end 93) && not (eqb end 256))
    opens_is =
        let one : i + 1 + 1 ≡ i + 2 = omega arith in
        ap₂ (λ (x : Bool) (y : ℕ). x && not (eqb y 93) && not (eqb y 256)) (eq-eqb (peek rest) 45 (sym n ∙ dash))
        (ap peek (drop-drop 1 (i + 1) s ∙ ap (λ (m : ℕ). drop m s) one) ∙ sym g)

    opens_not : range_opens rest ≡ not (eqb end 93 || eqb end 256)
    opens_not = opens_is ∙ sym (not_or (eqb end 93) (eqb end 256))

    pub item_last : not t ≡ false → (eqb end 93 || eqb end 256) ≡ true → ItemHere (item first b rest) s i (record { end = i + 1; lo = b; hi = b })
    item_last e m = alone e (opens_not ∙ ap not m)

    pub item_range : (r : Std.Option Item) → not t ≡ false → (eqb end 93 || eqb end 256) ≡ false → ItemAt (range b rest) s i r → ItemAt (item first b rest) s i r
    item_range r e m a =
        subst⁻¹ (λ (o : Option (Read Range)). ItemAt o s i r)
        (goes_on e ∙ ap (λ (x : Bool). pick x (range b rest) (single b rest)) (opens_not ∙ ap not m)) a

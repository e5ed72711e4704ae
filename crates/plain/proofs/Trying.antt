-- An atom as it stands in a pattern, tried on a byte: what could be read there is taken apart, and a fault is never met.
use mathlib.Core.Path.{◌≡◌, refl, sym, ap, ap₂, ◌∙◌}
use mathlib.Core.Bool.{Bool, true, false, not, ◌&&◌, ◌||◌, or_assoc, or-false}
use mathlib.Core.Option.{Option, none, some, some-injective}
use mathlib.Core.List.{List, [], ◌∷◌}
use Prim.Native.Nat.{ℕ, ◌+◌, ◌<◌, ◌≤◌}
use native.Mathlib.Omega.{arith}
use lib.Dec.{eqb, leb, ltb}
use lib.ListN.{length, drop, drop_of_length-le}
use lib.Seq.{drop-drop}
use borrow.Author.Tests.{eqb-true, eqb-false, eq-eqb, ne_eqb, lt-ltb, le-ltb}
use Rattle.octets.specs.Lists.{text, pick, some_of, peek}
use Rattle.octets.specs.Option.{◌>>=◌, holds}
use Rattle.machine.proofs.Places.{drop_at}
use Rattle.basic.specs.Pattern.{Range, Atom, byte, dot, list, in_range, meets}
use Rattle.basic.specs.Inner.Places.{items_of}
use Rattle.basic.specs.Reading.{Read, read, class_opens, range_opens, range, single, begins_item, item, asterisk, atom}
use Rattle.basic.proofs.Countdown.{items_next, items_none}
use Rattle.basic.proofs.Places.{peek_in, peek_inside}
use Rattle.plain.specs.Inner.Turns.{Ranged, Tried}
use Rattle.plain.specs.declared.Trial.{Trial}

-- ---- what was read

pub none_is : {A : Type 0} (x : A) → ◌≡◌ {A = Option A} none (some x) → ⊥
none_is x e = let z : ◌≡◌ {A = ℕ} 0 1 = cc in absurd (omega arith)

-- what one step of a reading read, and what came of it
pub record Came {A B : Type 0} (o : Option A) (f : A → Option B) (y : B) : Type 0 where
  pub value : A
  pub from : o ≡ some value
  pub to : f value ≡ some y

pub came : {A B : Type 0} (o : Option A) (f : A → Option B) (y : B) → (o >>= f) ≡ some y → Came o f y
came none f y e = absurd (none_is y e)
came (some a) f y e = record { value = a; from = refl; to = e }

-- the test held
held : {A : Type 0} (t : Bool) (o : Option A) (y : A) → (holds t >>= (λ x. o)) ≡ some y → o ≡ some y
held true o y e = e
held false o y e = absurd (none_is y e)

pub drop_peek : (s : List ℕ) (i : ℕ) → i < length s → drop i s ≡ peek (drop i s) ∷ drop (i + 1) s
drop_peek s i h = drop_at s i h ∙ ap (λ (b : ℕ). b ∷ drop (i + 1) s) (peek_in s i h)

drop_two : (s : List ℕ) (i : ℕ) → drop 1 (drop (i + 1) s) ≡ drop (i + 2) s
drop_two s i = let n : i + 1 + 1 ≡ i + 2 = omega arith in drop-drop 1 (i + 1) s ∙ ap (λ (k : ℕ). drop k s) n

drop_three : (s : List ℕ) (i : ℕ) → drop 2 (drop (i + 1) s) ≡ drop (i + 2 + 1) s
drop_three s i = let n : i + 1 + 2 ≡ i + 2 + 1 = omega arith in drop-drop 2 (i + 1) s ∙ ap (λ (k : ℕ). drop k s) n

-- ---- the ranges of a list

-- the ranges that are left, of those of the whole list
pub record Left (s : List ℕ) (from i c : ℕ) (has : Bool) (l : Read (List Range)) : Type 0 where
  pub ranges : Read (List Range)
  pub reads : items_of (eqb i from) (drop i s) ≡ some ranges
  pub rest : l.rest ≡ ranges.rest
  pub some : some_of (in_range c) l.got ≡ (has || some_of (in_range c) ranges.got)

pub record Walked (s : List ℕ) (from i c : ℕ) (has : Bool) : Type 0 where
  pub onward : from ≤ i
  pub inside : i ≤ length s
  pub left : (l : Read (List Range)) → items_of true (drop from s) ≡ some l → Left s from i c has l

pub walk_start : (s : List ℕ) (from c : ℕ) → from ≤ length s → Walked s from from c false
walk_start s from c h = record {
  onward = omega arith;
  inside = h;
  left = λ l e. record { ranges = l; reads = ap (λ (x : Bool). items_of x (drop from s)) (eq-eqb from from refl) ∙ e; rest = refl; some = refl };
}

-- an unclosed list is none
pub walk_end : (s : List ℕ) (from i c : ℕ) (has : Bool) → Walked s from i c has → length s ≤ i → (r : Trial) → r ≡ record { takes = false; end = i } → Ranged s from c r
walk_end s from i c has w h r q = let k : r.end ≡ i = ap (λ (x : Trial). x.end) q in let u = w.onward in let v = w.inside in record {
  onward = omega arith;
  inside = omega arith;
  is = λ l e. absurd (none_is (w.left l e).ranges (sym (ap (items_of (eqb i from)) (drop_of_length-le s h) ∙ items_none (eqb i from)) ∙ (w.left l e).reads));
}

-- whether i is not the first place
later_is : (from i : ℕ) → from ≤ i → ltb from i ≡ not (eqb i from)
later_is from i h = go (eqb i from) refl
  where
    go : (t : Bool) → eqb i from ≡ t → ltb from i ≡ not t
    go true e = let z = eqb-true i from e in le-ltb from i (omega arith)
    go false e = let z = eqb-false i from e in lt-ltb from i (omega arith)

-- whether a `-` makes a range
module _ (s : List ℕ) (i next end : ℕ) (n : next ≡ peek (drop (i + 1) s)) (e : end ≡ peek (drop (i + 2) s)) where
  opens_is : range_opens (drop (i + 1) s) ≡ (eqb next 45 && not (eqb end 93) && not (eqb end 256))
  opens_is = ap₂ (λ (x y : ℕ). eqb x 45 && not (eqb y 93) && not (eqb y 256)) (sym n) (ap peek (drop_two s i) ∙ sym e)

  pub last_range : (eqb next 45 && not (eqb end 93) && not (eqb end 256)) ≡ true → i + 2 ≡ pick (range_opens (drop (i + 1) s)) (i + 2) i
  last_range t = ap (λ (x : Bool). pick x (i + 2) i) (sym (opens_is ∙ t))

  pub last_same : (eqb next 45 && not (eqb end 93) && not (eqb end 256)) ≡ false → i ≡ pick (range_opens (drop (i + 1) s)) (i + 2) i
  last_same t = ap (λ (x : Bool). pick x (i + 2) i) (sym (opens_is ∙ t))

pub last_inside : (s : List ℕ) (i last : ℕ) → i < length s → last ≡ pick (range_opens (drop (i + 1) s)) (i + 2) i → (i ≤ last) × (last < length s)
last_inside s i last h q = go (eqb (peek (drop (i + 1) s)) 45) (eqb (peek (drop 1 (drop (i + 1) s))) 93) (eqb (peek (drop 1 (drop (i + 1) s))) 256) refl q
  where
    go : (x y z : Bool) → eqb (peek (drop 1 (drop (i + 1) s))) 256 ≡ z → last ≡ pick (x && not y && not z) (i + 2) i → (i ≤ last) × (last < length s)
    go false y z e k = (omega arith, omega arith)
    go true true z e k = (omega arith, omega arith)
    go true false true e k = (omega arith, omega arith)
    go true false false e k =
        let n : i + 2 < length s = peek_inside s (i + 2) (λ m. eqb-false (peek (drop 1 (drop (i + 1) s))) 256 e (ap peek (drop_two s i) ∙ m)) in
        (omega arith, omega arith)

module _ (s : List ℕ) (i : ℕ) (h : i < length s) where
  abbrev b : ℕ
  b = peek (drop i s)

  abbrev rest : List ℕ
  rest = drop (i + 1) s

  abbrev more_ranges : Read Range → Option (Read (List Range))
  more_ranges x = items_of false x.rest >>= (λ l. read (x.got ∷ l.got) l.rest)

  items_here : (first t : Bool) → (eqb b 93 && not first) ≡ t → items_of first (drop i s) ≡ pick t (read [] rest) (item first b rest >>= more_ranges)
  items_here first t e =
      ap (items_of first) (drop_peek s i h) ∙ items_next first b rest ∙ ap (λ (x : Bool). pick x (read [] rest) (item first b rest >>= more_ranges)) e

  -- a range, or one byte
  abbrev found_to : ℕ → Read Range
  found_to last = record { got = record { lo = b; hi = peek (drop last s) }; rest = drop (last + 1) s }

  item_is : (first : Bool) (x : Read Range) → item first b rest ≡ some x → found_to (pick (range_opens rest) (i + 2) i) ≡ x
  item_is first x e = go (range_opens rest) (held (begins_item first b rest && not (class_opens b rest)) (pick (range_opens rest) (range b rest) (single b rest)) x e)
    where
      go : (t : Bool) → pick t (range b rest) (single b rest) ≡ some x → found_to (pick t (i + 2) i) ≡ x
      go true k =
          ap₂ (λ (hi : ℕ) (l : List ℕ). record { got = record { lo = b; hi = hi }; rest = l }) (ap peek (sym (drop_two s i))) (sym (drop_three s i))
          ∙ some-injective _ _ (held (leb b (peek (drop 1 rest)) && not (class_opens (peek (drop 1 rest)) (drop 2 rest))) (read (record { lo = b; hi = peek (drop 1 rest) }) (drop 2 rest)) x k)
      go false k = some-injective _ _ k

  module _ (from c : ℕ) (has : Bool) (w : Walked s from i c has) (low : ℕ) (y : low ≡ b) where
    closes : (t : Bool) → (eqb low 93 && ltb from i) ≡ t → (eqb b 93 && not (eqb i from)) ≡ t
    closes t e = ap₂ (λ (k : ℕ) (x : Bool). eqb k 93 && x) (sym y) (sym (later_is from i w.onward)) ∙ e

    pub walk_close : (eqb low 93 && ltb from i) ≡ true → (r : Trial) → r ≡ record { takes = has; end = i + 1 } → Ranged s from c r
    walk_close e r q = let k : r.end ≡ i + 1 = ap (λ (x : Trial). x.end) q in let u = w.onward in record {
      onward = omega arith;
      inside = omega arith;
      is = λ l f. close_by l (w.left l f);
    }
      where
        close_by : (l : Read (List Range)) → Left s from i c has l → (l.rest ≡ drop r.end s) × (some_of (in_range c) l.got ≡ r.takes)
        close_by l k =
            let z : record { got = []; rest = rest } ≡ k.ranges = some-injective _ _ (sym (items_here (eqb i from) true (closes true e)) ∙ k.reads) in (
              k.rest ∙ ap (λ (x : Read (List Range)). x.rest) (sym z) ∙ ap (λ (x : Trial). drop x.end s) (sym q),
              k.some ∙ ap (λ (x : Read (List Range)). has || some_of (in_range c) x.got) (sym z) ∙ or-false has ∙ ap (λ (x : Trial). x.takes) (sym q),
            )

    module _ (e : (eqb low 93 && ltb from i) ≡ false) (last : ℕ) (q : last ≡ pick (range_opens rest) (i + 2) i) (high : ℕ) (n : high ≡ peek (drop last s)) where
      past : eqb (last + 1) from ≡ false
      past = let u = w.onward in let v = (last_inside s i last h q).0 in ne_eqb (last + 1) from (λ z. absurd (omega arith))

      walk_by : (l : Read (List Range)) (k : Left s from i c has l) (x : Read Range) → found_to last ≡ x
          → (m : Read (List Range)) → items_of false x.rest ≡ some m → record { got = x.got ∷ m.got; rest = m.rest } ≡ k.ranges → Left s from (last + 1) c (has || (leb low c && leb c high)) l
      walk_by l k x f m o z = record {
        ranges = m;
        reads = ap (λ (t : Bool). items_of t (drop (last + 1) s)) past ∙ ap (λ (a : Read Range). items_of false a.rest) f ∙ o;
        rest = k.rest ∙ ap (λ (a : Read (List Range)). a.rest) (sym z);
        some =
            k.some ∙ ap (λ (a : Read (List Range)). has || some_of (in_range c) a.got) (sym z)
            ∙ ap (λ (a : Read Range). has || (in_range c a.got || some_of (in_range c) m.got)) (sym f)
            ∙ ap₂ (λ (lo hi : ℕ). has || ((leb lo c && leb c hi) || some_of (in_range c) m.got)) (sym y) (sym n)
            ∙ sym (or_assoc has (leb low c && leb c high) (some_of (in_range c) m.got));
      }

      walk_on : (l : Read (List Range)) (k : Left s from i c has l) → Left s from (last + 1) c (has || (leb low c && leb c high)) l
      walk_on l k = at (came (item (eqb i from) b rest) more_ranges k.ranges (sym (items_here (eqb i from) false (closes false e)) ∙ k.reads))
        where
          at : Came (item (eqb i from) b rest) more_ranges k.ranges → Left s from (last + 1) c (has || (leb low c && leb c high)) l
          at x = on (came (items_of false x.value.rest) (λ l. read (x.value.got ∷ l.got) l.rest) k.ranges x.to)
            where
              on : Came (items_of false x.value.rest) (λ l. read (x.value.got ∷ l.got) l.rest) k.ranges → Left s from (last + 1) c (has || (leb low c && leb c high)) l
              on m = walk_by l k x.value (ap found_to q ∙ item_is (eqb i from) x.value x.from) m.value m.from (some-injective _ _ m.to)

      pub walk_more : Walked s from (last + 1) c (has || (leb low c && leb c high))
      walk_more =
          let u = w.onward in let v = last_inside s i last h q in
          record { onward = let a = v.0 in omega arith; inside = let a = v.1 in omega arith; left = λ l f. walk_on l (w.left l f) }

-- ---- the atom

module _ (s : List ℕ) (i c : ℕ) (h : i < length s) where
  -- by what was read
  tried : (t : Bool) (end : ℕ) (r : Trial) → r ≡ record { takes = t; end = end } → i < end → end ≤ length s + 1
      → ((first : Bool) (a : Read Atom) → atom first (b s i h) (rest s i h) ≡ some a → (a.rest ≡ drop end s) × (meets a.got c ≡ t)) → Tried s i c r
  tried t end r q u v f = let k : r.end ≡ end = ap (λ (x : Trial). x.end) q in record {
    onward = omega arith;
    inside = omega arith;
    is = λ first a e. ((f first a e).0 ∙ ap (λ (x : Trial). drop x.end s) (sym q), (f first a e).1 ∙ ap (λ (x : Trial). x.takes) (sym q));
  }

  one_atom : (v : Atom) (l : List ℕ) (a : Read Atom) → record { got = v; rest = l } ≡ a → (end : ℕ) → l ≡ drop end s → (a.rest ≡ drop end s) × (meets a.got c ≡ meets v c)
  one_atom v l a z end y = (ap (λ (x : Read Atom). x.rest) (sym z) ∙ y, ap (λ (x : Read Atom). meets x.got c) (sym z))

  pub try_dot : (v : ℕ) → v ≡ b s i h → v ≡ 46 → (r : Trial) → r ≡ record { takes = not (eqb c 0); end = i + 1 } → Tried s i c r
  try_dot v y e r q =
      tried (not (eqb c 0)) (i + 1) r q (omega arith) (omega arith)
      (λ first a f. one_atom dot (rest s i h) a (some-injective _ _ (sym (ap (λ (k : ℕ). atom first k (rest s i h)) (sym y ∙ e)) ∙ f)) (i + 1) refl)

  pub try_pair : (v : ℕ) → v ≡ b s i h → v ≡ 92 → (next : ℕ) → next ≡ peek (rest s i h) → (r : Trial) → r ≡ record { takes = eqb next c; end = i + 2 } → Tried s i c r
  try_pair v y e next n r q =
      tried (eqb next c) (i + 2) r q (omega arith) (omega arith)
      (λ first a f. one_atom (byte next) (drop 1 (rest s i h)) a
      (ap (λ (k : ℕ). record { got = byte k; rest = drop 1 (rest s i h) }) n
      ∙ some-injective _ _ (held (some_of (eqb (peek (rest s i h))) (text ".[\\*^$")) (read (byte (peek (rest s i h))) (drop 1 (rest s i h))) a
      (sym (ap (λ (k : ℕ). atom first k (rest s i h)) (sym y ∙ e)) ∙ f)))
      (i + 2) (drop_two s i))

  byte_is : (first : Bool) (a : Read Atom) → pick (eqb (b s i h) 42) (asterisk first (rest s i h)) (read (byte (b s i h)) (rest s i h)) ≡ some a
      → record { got = byte (b s i h); rest = rest s i h } ≡ a
  byte_is first a f = go (eqb (b s i h) 42) refl first f
    where
      go : (t : Bool) → eqb (b s i h) 42 ≡ t → (first : Bool) → pick t (asterisk first (rest s i h)) (read (byte (b s i h)) (rest s i h)) ≡ some a
          → record { got = byte (b s i h); rest = rest s i h } ≡ a
      go true e true f = ap (λ (k : ℕ). record { got = byte k; rest = rest s i h }) (eqb-true (b s i h) 42 e) ∙ some-injective _ _ f
      go true e false f = absurd (none_is a f)
      go false e first f = some-injective _ _ f

  pub try_byte : (v : ℕ) → v ≡ b s i h → (v ≡ 46 → ⊥) → (v ≡ 92 → ⊥) → (v ≡ 91 → ⊥) → (r : Trial) → r ≡ record { takes = eqb v c; end = i + 1 } → Tried s i c r
  try_byte v y d p l r q =
      tried (eqb (b s i h) c) (i + 1) r (q ∙ ap (λ (k : ℕ). record { takes = eqb k c; end = i + 1 }) y) (omega arith) (omega arith)
      (λ first a f. one_atom (byte (b s i h)) (rest s i h) a (byte_is first a (sym (ordinary first) ∙ f)) (i + 1) refl)
    where
      ordinary : (first : Bool) → atom first (b s i h) (rest s i h) ≡ pick (eqb (b s i h) 42) (asterisk first (rest s i h)) (read (byte (b s i h)) (rest s i h))
      ordinary first = rw (ne_eqb (b s i h) 46 (λ z. d (y ∙ z)), ne_eqb (b s i h) 91 (λ z. l (y ∙ z)), ne_eqb (b s i h) 92 (λ z. p (y ∙ z))) refl

  -- a list, with `^` or not
  module _ (e : b s i h ≡ 91) (neg : Bool) (n : eqb (peek (rest s i h)) 94 ≡ neg) where
    abbrev as_atom : Read (List Range) → Option (Read Atom)
    as_atom l = read (list neg l.got) l.rest

    list_is : (first : Bool) → atom first (b s i h) (rest s i h) ≡ (items_of true (pick neg (drop 1 (rest s i h)) (rest s i h)) >>= as_atom)
    list_is first =
        ap (λ (k : ℕ). atom first k (rest s i h)) e
        ∙ ap (λ (t : Bool). items_of true (pick t (drop 1 (rest s i h)) (rest s i h)) >>= (λ l. read (list t l.got) l.rest)) n

    list_tried : (t : Trial) (from : ℕ) → pick neg (drop 1 (rest s i h)) (rest s i h) ≡ drop from s → Ranged s from c t
        → (v : Bool) → ((l : List Range) → some_of (in_range c) l ≡ t.takes → meets (list neg l) c ≡ v)
        → (first : Bool) (a : Read Atom) → atom first (b s i h) (rest s i h) ≡ some a → (a.rest ≡ drop t.end s) × (meets a.got c ≡ v)
    list_tried t from y g v m first a f = at (came (items_of true (pick neg (drop 1 (rest s i h)) (rest s i h))) as_atom a (sym (list_is first) ∙ f))
      where
        at : Came (items_of true (pick neg (drop 1 (rest s i h)) (rest s i h))) as_atom a → (a.rest ≡ drop t.end s) × (meets a.got c ≡ v)
        at x =
            let k = g.is x.value (ap (items_of true) (sym y) ∙ x.from) in
            let z = one_atom (list neg x.value.got) x.value.rest a (some-injective _ _ x.to) t.end k.0 in
            (z.0, z.1 ∙ m x.value.got k.1)

  module _ (v : ℕ) (y : v ≡ b s i h) (e : v ≡ 91) (next : ℕ) (n : next ≡ peek (rest s i h)) where
    pub try_list : (next ≡ 94 → ⊥) → (r : Trial) → Ranged s (i + 1) c r → Tried s i c r
    try_list m r g =
        let k = g.onward in let l = g.inside in
        tried r.takes r.end r refl (omega arith) (omega arith)
        (list_tried (sym y ∙ e) false (ap (λ (k : ℕ). eqb k 94) (sym n) ∙ ne_eqb next 94 m) r (i + 1) refl g r.takes (λ l z. z))

    pub try_not : next ≡ 94 → (t : Trial) → Ranged s (i + 2) c t → (r : Trial) → r ≡ record { takes = not (eqb c 0) && not t.takes; end = t.end } → Tried s i c r
    try_not m t g r q =
        let k = g.onward in let l = g.inside in
        tried (not (eqb c 0) && not t.takes) t.end r q (omega arith) (omega arith)
        (list_tried (sym y ∙ e) true (ap (λ (k : ℕ). eqb k 94) (sym n) ∙ eq-eqb next 94 m) t (i + 2) (drop_two s i) g (not (eqb c 0) && not t.takes)
        (λ l z. ap (λ (x : Bool). not (eqb c 0) && not x) z))

-- a `^` stands in the pattern
pub not_inside : (s : List ℕ) (i next : ℕ) → next ≡ peek (drop (i + 1) s) → next ≡ 94 → i + 2 ≤ length s
not_inside s i next n m =
    let k : i + 1 < length s = peek_inside s (i + 1) (λ z. let y : ◌≡◌ {A = ℕ} 94 256 = sym m ∙ n ∙ z in absurd (omega arith)) in
    omega arith

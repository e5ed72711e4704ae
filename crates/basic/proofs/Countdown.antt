-- The number that `items` and `body` count down never ends a reading: any number above the length gives the same.
use mathlib.Core.Bool.{Bool, true, false, not, ◌&&◌}
use mathlib.Core.Option.{Option, none, some}
use mathlib.Core.Path.{◌≡◌, refl, ap}
use Prim.Native.Nat.{ℕ, zero, suc, ◌≤◌, ◌<◌}
use native.Mathlib.Nat.{le_refl, not-suc-le-zero, le_step}
use native.Mathlib.Omega.{arith}
use mathlib.Core.List.{List, [], ◌∷◌}
use lib.ListN.{length, drop, length-drop}
use lib.Dec.{leb, eqb}
use Rattle.octets.specs.Lists.{text, pick, some_of, empty, peek}
use Rattle.octets.specs.Option.{◌>>=◌, holds}
use Rattle.octets.proofs.Tests.{either}
use Rattle.octets.proofs.Options.{Ok, ok_then, bind_ext, any}
use Rattle.basic.specs.Pattern.{Range, Atom, byte, dot, list}
use Rattle.basic.specs.Inner.Places.{items_of, body_of}
use Rattle.basic.specs.Reading.{elem, Read, read, class_opens, range_opens, range, single, begins_item, item, items, bracket, escaped, asterisk, atom, Body, body}

-- what is left is no longer than s
abbrev Within : {A : Type 0} → List ℕ → Option (Read A) → Type 0
Within s o = Ok (λ r. length r.rest ≤ length s) o

drop_le : (k : ℕ) (s : List ℕ) → length (drop k s) ≤ length s
drop_le k s = omega (arith, length-drop k s)

-- what any test lets through
past : {A : Type 0} (s : List ℕ) (b : Bool) (o : Option (Read A)) → Within s o → Within s (holds b >>= (λ u. o))
past s b o h = ok_then (λ r. length r.rest ≤ length s) (λ u. Unit {0}) (holds b) (λ u. o) (any (holds b)) (λ u v. h)

item_within : (first : Bool) (b : ℕ) (s : List ℕ) → Within s (item first b s)
item_within first b s =
    past s (begins_item first b s && not (class_opens b s)) (pick (range_opens s) (range b s) (single b s))
    (either (Within s) (range_opens s) (range b s) (single b s)
    (past s (leb b (peek (drop 1 s)) && not (class_opens (peek (drop 1 s)) (drop 2 s)))
    (read (record { lo = b; hi = peek (drop 1 s) }) (drop 2 s)) (drop_le 2 s))
    (le_refl (length s)))

items_within : (n : ℕ) (first : Bool) (s : List ℕ) → Within s (items n first s)
unfolding items
items_within zero first s = tt
items_within (suc n) first [] = tt
items_within (suc n) first (b ∷ s) =
    either (Within (b ∷ s)) (eqb b 93 && not first) (read [] s) (item first b s >>= (λ i. items n false i.rest >>= (λ l. read (i.got ∷ l.got) l.rest)))
    (le_step (le_refl (length s)))
    (ok_then (λ (r : Read (List Range)). length r.rest ≤ suc (length s)) (λ (r : Read Range). length r.rest ≤ length s) (item first b s) _ (item_within first b s) (λ i h.
    ok_then (λ (r : Read (List Range)). length r.rest ≤ suc (length s)) (λ (r : Read (List Range)). length r.rest ≤ length i.rest) (items n false i.rest) _ (items_within n false i.rest) (λ l k.
    omega (arith, h, k))))

pub items_fuel : (n m : ℕ) (first : Bool) (s : List ℕ) → length s < n → length s < m → items n first s ≡ items m first s
unfolding items
items_fuel zero m first s hn hm = absurd (not-suc-le-zero hn)
items_fuel (suc n) zero first s hn hm = absurd (not-suc-le-zero hm)
items_fuel (suc n) (suc m) first [] hn hm = refl
items_fuel (suc n) (suc m) first (b ∷ s) hn hm =
    ap (λ (o : Option (Read (List Range))). pick (eqb b 93 && not first) (read [] s) o)
    (bind_ext (λ (r : Read Range). length r.rest ≤ length s) (item first b s)
    (λ i. items n false i.rest >>= (λ l. read (i.got ∷ l.got) l.rest))
    (λ i. items m false i.rest >>= (λ l. read (i.got ∷ l.got) l.rest))
    (item_within first b s)
    (λ i h. ap (λ (o : Option (Read (List Range))). o >>= (λ l. read (i.got ∷ l.got) l.rest))
    (items_fuel n m false i.rest (omega (arith, h, hn)) (omega (arith, h, hm)))))

-- the items without the number
pub items_next : (first : Bool) (b : ℕ) (s : List ℕ)
    → items_of first (b ∷ s)
    ≡ pick (eqb b 93 && not first) (read [] s) (item first b s >>= (λ i. items_of false i.rest >>= (λ l. read (i.got ∷ l.got) l.rest)))
unfolding items
items_next first b s =
    ap (λ (o : Option (Read (List Range))). pick (eqb b 93 && not first) (read [] s) o)
    (bind_ext (λ (r : Read Range). length r.rest ≤ length s) (item first b s)
    (λ i. items (suc (length s)) false i.rest >>= (λ l. read (i.got ∷ l.got) l.rest))
    (λ i. items_of false i.rest >>= (λ l. read (i.got ∷ l.got) l.rest))
    (item_within first b s)
    (λ i h. ap (λ (o : Option (Read (List Range))). o >>= (λ l. read (i.got ∷ l.got) l.rest))
    (items_fuel (suc (length s)) (suc (length i.rest)) false i.rest (omega (arith, h)) (omega arith))))

pub items_none : (first : Bool) → items_of first [] ≡ none
unfolding items
items_none first = refl

bracket_within : (s : List ℕ) → Within s (bracket s)
bracket_within s = go (pick (eqb (peek s) 94) (drop 1 s) s) (either (λ (k : List ℕ). length k ≤ length s) (eqb (peek s) 94) (drop 1 s) s (drop_le 1 s) (le_refl (length s)))
  where
    go : (inner : List ℕ) → length inner ≤ length s → Within s (items (suc (length inner)) true inner >>= (λ l. read (list (eqb (peek s) 94) l.got) l.rest))
    go inner h =
        ok_then (λ (r : Read Atom). length r.rest ≤ length s) (λ (r : Read (List Range)). length r.rest ≤ length inner) (items (suc (length inner)) true inner) _
        (items_within (suc (length inner)) true inner) (λ l k. omega (arith, h, k))

atom_within : (first : Bool) (b : ℕ) (s : List ℕ) → Within s (atom first b s)
atom_within first b s =
    either (Within s) (eqb b 46) (read dot s) _ (le_refl (length s))
    (either (Within s) (eqb b 91) (bracket s) _ (bracket_within s)
    (either (Within s) (eqb b 92) (escaped s) _
    (past s (some_of (eqb (peek s)) (text ".[\\*^$")) (read (byte (peek s)) (drop 1 s)) (drop_le 1 s))
    (either (Within s) (eqb b 42) (asterisk first s) (read (byte b) s)
    (either (Within s) first (read (byte 42) s) none (le_refl (length s)) tt) (le_refl (length s)))))

pub body_fuel : (n m : ℕ) (first : Bool) (s : List ℕ) → length s < n → length s < m → body n first s ≡ body m first s
unfolding body
body_fuel zero m first s hn hm = absurd (not-suc-le-zero hn)
body_fuel (suc n) zero first s hn hm = absurd (not-suc-le-zero hm)
body_fuel (suc n) (suc m) first [] hn hm = refl
body_fuel (suc n) (suc m) first (b ∷ s) hn hm =
    ap (λ (o : Option Body). pick (eqb b 36 && empty s) (some (record { parts = []; anchored = true })) o)
    (bind_ext (λ (r : Read Atom). length r.rest ≤ length s) (atom first b s)
    (λ a. body n false (left_of a) >>= (λ more. some (record { parts = elem (starred a) a.got ∷ more.parts; anchored = more.anchored })))
    (λ a. body m false (left_of a) >>= (λ more. some (record { parts = elem (starred a) a.got ∷ more.parts; anchored = more.anchored })))
    (atom_within first b s)
    (λ a h.
    let k : length (left_of a) ≤ length a.rest = either (λ (l : List ℕ). length l ≤ length a.rest) (starred a) (drop 1 a.rest) a.rest (drop_le 1 a.rest) (le_refl (length a.rest)) in
    ap (λ (o : Option Body). o >>= (λ more. some (record { parts = elem (starred a) a.got ∷ more.parts; anchored = more.anchored })))
    (body_fuel n m false (left_of a) (omega (arith, h, hn, k)) (omega (arith, h, hm, k)))))
  where
    starred : Read Atom → Bool
    starred a = eqb (peek a.rest) 42

    left_of : Read Atom → List ℕ
    left_of a = pick (starred a) (drop 1 a.rest) a.rest

-- the elements without the number
pub body_next : (first : Bool) (b : ℕ) (s : List ℕ)
    → body_of first (b ∷ s)
    ≡ pick (eqb b 36 && empty s) (some (record { parts = []; anchored = true }))
    (atom first b s >>= (λ a.
    body_of false (pick (eqb (peek a.rest) 42) (drop 1 a.rest) a.rest) >>= (λ more.
    some (record { parts = elem (eqb (peek a.rest) 42) a.got ∷ more.parts; anchored = more.anchored }))))
unfolding body
body_next first b s =
    ap (λ (o : Option Body). pick (eqb b 36 && empty s) (some (record { parts = []; anchored = true })) o)
    (bind_ext (λ (r : Read Atom). length r.rest ≤ length s) (atom first b s)
    (λ a. body (suc (length s)) false (left_of a) >>= (λ more. some (record { parts = elem (starred a) a.got ∷ more.parts; anchored = more.anchored })))
    (λ a. body_of false (left_of a) >>= (λ more. some (record { parts = elem (starred a) a.got ∷ more.parts; anchored = more.anchored })))
    (atom_within first b s)
    (λ a h.
    let k : length (left_of a) ≤ length a.rest = either (λ (l : List ℕ). length l ≤ length a.rest) (starred a) (drop 1 a.rest) a.rest (drop_le 1 a.rest) (le_refl (length a.rest)) in
    ap (λ (o : Option Body). o >>= (λ more. some (record { parts = elem (starred a) a.got ∷ more.parts; anchored = more.anchored })))
    (body_fuel (suc (length s)) (suc (length (left_of a))) false (left_of a) (omega (arith, h, k)) (omega arith))))
  where
    starred : Read Atom → Bool
    starred a = eqb (peek a.rest) 42

    left_of : Read Atom → List ℕ
    left_of a = pick (starred a) (drop 1 a.rest) a.rest

pub body_none : (first : Bool) → body_of first [] ≡ some (record { parts = []; anchored = false })
unfolding body
body_none first = refl

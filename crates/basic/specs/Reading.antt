-- What pattern is read from a string, or none where it is refused (document 01, "Patterns (source 001)").
use Rattle.std.specs.Prelude.{Bool, true, false, not, ◌&&◌, ◌||◌, ℕ, zero, suc, List, [], ◌∷◌, length, drop, leb, eqb}
use Rattle.std.proofs.Math.Option.{Option, none, some}
use Rattle.octets.specs.Lists.{text, pick, some_of, empty, peek}
use Rattle.octets.specs.Option.{◌>>=◌, holds}
use Rattle.basic.specs.Pattern.{Range, Atom, byte, dot, list, Elem, once, star, Pattern}

-- what was read, and what is left after it
pub record Read (A : Type 0) : Type 0 where
  pub got : A
  pub rest : List ℕ

-- this, with the rest
abbrev pub read : {A : Type 0} → A → List ℕ → Option (Read A)
read a s = some (record { got = a; rest = s })

-- ---- bracket lists

-- "`[.` `[=` `[:` inside a list" are not supported, wherever the `[` stands in it
abbrev pub class_opens : ℕ → List ℕ → Bool
class_opens b s = eqb b 91 && some_of (eqb (peek s)) (text ".=:")

-- b, then `-`, then an end that is not the closing `]`: "any `-` may end one; ranges are read from the left"
abbrev pub range_opens : List ℕ → Bool
range_opens s = eqb (peek s) 45 && not (eqb (peek (drop 1 s)) 93) && not (eqb (peek (drop 1 s)) 256)

-- "a range that falls" is refused
abbrev pub range : ℕ → List ℕ → Option (Read Range)
range b s = do
  let e : ℕ = peek (drop 1 s)
  _ ← holds (leb b e && not (class_opens e (drop 2 s)))
  read (record { lo = b; hi = e }) (drop 2 s)

-- a byte by itself
abbrev pub single : ℕ → List ℕ → Option (Read Range)
single b s = read (record { lo = b; hi = b }) s

-- "`-` [is ordinary] when first or last", "a first `-` may begin a range": any other shares an end with the range before it
abbrev pub begins_item : Bool → ℕ → List ℕ → Bool
begins_item first b s = not (eqb b 45) || first || eqb (peek s) 93

-- what stands in a list from b on, where b does not close it
abbrev pub item : Bool → ℕ → List ℕ → Option (Read Range)
item first b s = do
  _ ← holds (begins_item first b s && not (class_opens b s))
  pick (range_opens s) (range b s) (single b s)

-- the ranges up to the closing `]`; "`]` is ordinary when first"; "an unclosed list" is refused. The number only counts down.
unfoldable pub items : ℕ → Bool → List ℕ → Option (Read (List Range))
items zero first s = none
items (suc n) first [] = none
items (suc n) first (b ∷ s) = pick (eqb b 93 && not first) (read [] s) (do
  i ← item first b s
  l ← items n false i.rest
  read (i.got ∷ l.got) l.rest)

-- a bracket list, from after its `[`: "`^` first"
abbrev pub bracket : List ℕ → Option (Read Atom)
bracket s = do
  let neg : Bool = eqb (peek s) 94
  let inner : List ℕ = pick neg (drop 1 s) s
  l ← items (suc (length inner)) true inner
  read (list neg l.got) l.rest

-- ---- elements

-- "`\` before one of `. [ \ * ^ $`"; any other pair, or a final `\`, is refused
abbrev pub escaped : List ℕ → Option (Read Atom)
escaped s = do
  _ ← holds (some_of (eqb (peek s)) (text ".[\\*^$"))
  read (byte (peek s)) (drop 1 s)

-- "`*` first, or right after the leading `^`, is ordinary"; another stands here only "straight after a repeating `*`": refused
abbrev pub asterisk : Bool → List ℕ → Option (Read Atom)
asterisk first s = pick first (read (byte 42) s) none

-- the atom that begins with b
abbrev pub atom : Bool → ℕ → List ℕ → Option (Read Atom)
atom first b s =
    pick (eqb b 46) (read dot s)
    (pick (eqb b 91) (bracket s)
    (pick (eqb b 92) (escaped s)
    (pick (eqb b 42) (asterisk first s)
    (read (byte b) s))))

-- the elements, and whether the last byte is the anchor `$`
pub record Body : Type 0 where
  pub parts : List Elem
  pub anchored : Bool

-- repeating, or once
abbrev pub elem : Bool → Atom → Elem
elem true a = star a
elem false a = once a

-- elements up to the end: `$` is an anchor "only last", and a `*` after an atom repeats it. The number only counts down.
unfoldable pub body : ℕ → Bool → List ℕ → Option Body
unfolding items
body zero first s = none
body (suc n) first [] = some (record { parts = []; anchored = false })
body (suc n) first (b ∷ s) = pick (eqb b 36 && empty s) (some (record { parts = []; anchored = true })) (do
  a ← atom first b s
  let starred : Bool = eqb (peek a.rest) 42
  more ← body n false (pick starred (drop 1 a.rest) a.rest)
  some (record { parts = elem starred a.got ∷ more.parts; anchored = more.anchored }))

-- "the empty pattern" and "more than 60 elements (anchors not counted)" are refused; `^` is an anchor "only first"
unfoldable pub read_pattern : List ℕ → Option Pattern
unfolding body
read_pattern s = do
  let start : Bool = eqb (peek s) 94
  _ ← holds (not (empty s))
  b ← body (suc (length s)) true (pick start (drop 1 s) s)
  _ ← holds (leb (length b.parts) 60)
  some (record { at_start = start; elems = b.parts; at_end = b.anchored })

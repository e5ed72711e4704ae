-- What a pattern is, and what it means that it matches (document 01, "Patterns (source 001)"). No algorithm, no proof.
use Rattle.std.specs.Prelude.{Bool, true, false, not, ◌&&◌, ◌≡◌, ℕ, List, [], ◌∷◌, ◌++◌, T, eqb}
use Rattle.octets.specs.Lists.{some_of}
use Rattle.octets.specs.Bytes.{within}

-- ---- what it is

-- from lo to hi by byte number, both counted
pub record Range : Type 0 where
  pub lo : ℕ
  pub hi : ℕ

-- "ordinary bytes; `.`; bracket lists with ranges by byte number and `^` first" (true: with `^`)
pub data Atom : Type 0 where
  byte : ℕ → Atom
  dot : Atom
  list : Bool → List Range → Atom

-- "`*` after an element"
pub data Elem : Type 0 where
  once : Atom → Elem
  star : Atom → Elem

-- "`^` as anchor only first, `$` only last", and the elements between
pub record Pattern : Type 0 where
  pub at_start : Bool
  pub elems : List Elem
  pub at_end : Bool

-- ---- meeting a byte

-- "ranges by byte number"
abbrev pub in_range : ℕ → Range → Bool
in_range b r = within r.lo r.hi b

-- "`.` and a `^` list never meet byte 0"
abbrev pub meets : Atom → ℕ → Bool
meets (byte c) b = eqb c b
meets dot b = not (eqb b 0)
meets (list false l) b = some_of (in_range b) l
meets (list true l) b = not (eqb b 0) && not (some_of (in_range b) l)

-- ---- matching

-- a part of a string fits the elements, one after the other
pub data Fits (meet : Atom → ℕ → Bool) : List Elem → List ℕ → Type 0 where
  done : Fits meet [] []
  one : {a : Atom} {es : List Elem} {b : ℕ} {s : List ℕ} → T (meet a b) → Fits meet es s → Fits meet (once a ∷ es) (b ∷ s)
  stop : {a : Atom} {es : List Elem} {s : List ℕ} → Fits meet es s → Fits meet (star a ∷ es) s
  more : {a : Atom} {es : List Elem} {b : ℕ} {s : List ℕ} → T (meet a b) → Fits meet (star a ∷ es) s → Fits meet (star a ∷ es) (b ∷ s)

-- "A pattern matches if some part of the string, empty parts too, fits it."
pub record Matches (meet : Atom → ℕ → Bool) (p : Pattern) (s : List ℕ) : Type 0 where
  pub before : List ℕ
  pub part : List ℕ
  pub after : List ℕ
  pub cut : s ≡ before ++ (part ++ after)
  pub fits : Fits meet p.elems part
  pub start : T p.at_start → before ≡ []
  pub end : T p.at_end → after ≡ []

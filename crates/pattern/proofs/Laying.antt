-- Laying the set of an atom where it is to stand.
use mathlib.Core.Path.{◌≡◌, refl, sym, ap, ◌∙◌}
use mathlib.Core.Bool.{Bool, true, false, not, ◌||◌, true≢false}
use mathlib.Core.List.{List, []}
use mathlib.Core.Option.{Option, none}
use Prim.Native.Nat.{ℕ, ◌+◌, ◌*◌, ◌/◌, ◌%◌, ◌^◌, ◌<◌, ◌≤◌}
use native.Mathlib.Omega.{arith}
use lib.Dec.{eqb}
use lib.ListN.{length, get_or, drop, set, replicate}
use lib.Seq.{set-set, get_or-set_same}
use Rattle.octets.specs.Bytes.{lower, upper}
use Rattle.octets.specs.Lists.{text, some_of}
use Rattle.basic.specs.Inner.Drawn.{drawn}
use Rattle.basic.specs.Pattern.{Atom, byte, meets}
use Rattle.basic.specs.Inner.Places.{map_got, PieceHere}
use Rattle.basic.specs.Reading.{Read, read, atom}
use Rattle.basic.specs.Inner.Sets.{word, words}
use Rattle.basic.specs.declared.reader.Piece.{Piece}
use Rattle.basic.proofs.Atoms.{map_none, map_some, plain_is}
use Rattle.basic.proofs.Listing.{piece_some}
use Rattle.basic.proofs.Words.{only_words}
use Rattle.pattern.specs.Inner.Prepared.{set_as, LaidHere, NotLaid}
use Rattle.pattern.proofs.Folding.{folded_set}

-- ---- on a name, and as written

pub as_name : (set r : List ℕ) (fold : Bool) → fold ≡ true → ((f : ℕ → Bool) → set ≡ words f → r ≡ words (λ b. f (lower b) || f (upper b)))
    → (a : Atom) → set ≡ drawn true a → r ≡ set_as fold a
unfolding drawn set_as
as_name set r true e fo a s = fo (meets a) s
as_name set r false e fo a s = absurd (true≢false (sym e))

pub as_written : (set : List ℕ) (fold : Bool) → fold ≡ false → (a : Atom) → set ≡ drawn true a → set ≡ set_as fold a
unfolding drawn set_as
as_written set true e a s = absurd (true≢false e)
as_written set false e a s = s

-- ---- one byte

module _ (c : ℕ) (h : c < 256) (old : List (List ℕ)) (at : ℕ) (k : at < length old) where
  abbrev cleared : List (List ℕ)
  cleared = set old at (replicate 4 0)

  abbrev with_bit : List (List ℕ)
  with_bit = set cleared at (set (get_or cleared at []) (c / 64) (1 * 2 ^ (c % 64) % 2 ^ 64))

  bit_laid : with_bit ≡ set old at (words (eqb c))
  bit_laid =
      set-set old at (replicate 4 0) (set (get_or cleared at []) (c / 64) (1 * 2 ^ (c % 64) % 2 ^ 64))
      ∙ ap (λ (l : List ℕ). set old at (set l (c / 64) (1 * 2 ^ (c % 64) % 2 ^ 64))) (get_or-set_same old at (replicate 4 0) [] k)
      ∙ ap (set old at) (only_words c h)

  pub byte_written : (fold : Bool) → fold ≡ false → with_bit ≡ set old at (set_as fold (byte c))
  unfolding set_as
  byte_written true e = absurd (true≢false e)
  byte_written false e = bit_laid

  pub byte_named : (fold : Bool) → fold ≡ true → (x : ℕ)
      → ((f : ℕ → Bool) → get_or (get_or with_bit at []) 1 0 ≡ word f 1 → x ≡ word (λ b. f (lower b) || f (upper b)) 1)
      → set with_bit at (set (get_or with_bit at []) 1 x) ≡ set old at (set_as fold (byte c))
  unfolding set_as
  byte_named true e x q =
      let w : get_or with_bit at [] ≡ words (eqb c) = ap (λ (l : List (List ℕ)). get_or l at []) bit_laid ∙ get_or-set_same old at (words (eqb c)) [] k in
      ap (λ (l : List (List ℕ)). set l at (set (get_or with_bit at []) 1 x)) bit_laid ∙ set-set old at (words (eqb c)) (set (get_or with_bit at []) 1 x)
      ∙ ap (set old at) (folded_set (eqb c) (get_or with_bit at []) x (q (eqb c)) w)
  byte_named false e x q = absurd (true≢false (sym e))

-- ---- the atom at i

module _ (s : List ℕ) (i : ℕ) (first fold : Bool) (h : i < length s) (old : List (List ℕ)) (at : ℕ) (k : at < length old) where
  abbrev whole : Option (Read Atom)
  whole = atom first (get_or s i 0) (drop (i + 1) s)

  -- a set that was laid
  module _ (end : ℕ) (u : List ℕ) where
    there : get_or (set old at u) at [] ≡ u
    there = get_or-set_same old at u [] k

    laid : (x : Atom) → whole ≡ read x (drop end s) → u ≡ set_as fold x → i < end → end ≤ length s → LaidHere fold first s i at end old (set old at u)
    laid x e q l m = record {
      piece = piece_some (map_got (set_as fold) whole) s i end (get_or (set old at u) at [])
          (ap (map_got (set_as fold)) e ∙ ap (λ (y : List ℕ). read y (drop end s)) (sym q ∙ sym there)) l m;
      stored = ap (set old at) (sym there);
    }

  pub lay_plain : (new : List (List ℕ)) (t : Bool) → t ≡ not (some_of (eqb (get_or s i 0)) (text ".[\\*")) → t ≡ true
      → new ≡ set old at (set_as fold (byte (get_or s i 0))) → LaidHere fold first s i at (i + 1) old new
  lay_plain new t e y q =
      rw q (laid (i + 1) (set_as fold (byte (get_or s i 0))) (byte (get_or s i 0)) (plain_is s i first true h t e y) refl (omega arith) (omega arith))

  pub lay_lost : map_got (drawn true) whole ≡ none → NotLaid fold first s i old old
  lay_lost e = record { refused = ap (map_got (set_as fold)) (map_none (drawn true) whole e); same = refl }

  pub lay_read : (r : Piece) → PieceHere (map_got (drawn true) whole) s i r → (u : List ℕ) → ((x : Atom) → r.set ≡ drawn true x → u ≡ set_as fold x)
      → LaidHere fold first s i at r.end old (set old at u)
  lay_read r a u q =
      let g = map_some (drawn true) whole r.set (drop r.end s) a.reads in
      laid r.end u g.value g.is (q g.value (sym g.drawing)) a.forward a.inside

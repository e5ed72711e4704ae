-- What is answered of a string that may be a pattern, on a text.
use Rattle.std.specs.Prelude.{Bool, false, not, ◌&&◌, ◌||◌, ◌≡◌, List, ℕ, zero, suc, ◌+◌, eqb, length, drop}
use Rattle.std.proofs.Math.Option.{Option, none, some}
use Rattle.octets.specs.Lists.{pick}
use Rattle.basic.specs.Pattern.{Atom, Pattern, meets}
use Rattle.basic.specs.Reading.{read_pattern}
use Rattle.pattern.specs.Parts.{FitsAt}
use Rattle.pattern.specs.Matching.{meets_name, front, written_matches, name_matches}

-- a pattern on a text; fold: the text is a name
abbrev pub matches_as : Bool → Pattern → List ℕ → Bool
matches_as fold p t = pick fold (name_matches p t) (written_matches p t)

-- no string that is no pattern matches
abbrev pub read_matches : Bool → Option Pattern → List ℕ → Bool
read_matches fold none t = false
read_matches fold (some p) t = matches_as fold p t

-- whether a string is a pattern that matches the text
unfoldable pub meets_text : Bool → List ℕ → List ℕ → Bool
unfolding read_pattern
meets_text fold s t = read_matches fold (read_pattern s) t

-- ---- where a part that fits begins

-- how an element meets a byte
abbrev pub meet_as : Bool → Atom → ℕ → Bool
meet_as fold = pick fold meets_name meets

-- some part that begins at j fits
abbrev pub fits_from : Bool → Pattern → List ℕ → ℕ → Bool
fits_from fold p t j = (not p.at_start || eqb j 0) && front (meet_as fold) p.at_end p.elems (drop j t)

-- by what was read
abbrev pub begins_of : Bool → Option Pattern → List ℕ → ℕ → Bool
begins_of fold none t j = false
begins_of fold (some p) t j = fits_from fold p t j

-- whether a string is a pattern, and some part of the text that begins at j fits it
unfoldable pub begins_at : Bool → List ℕ → List ℕ → ℕ → Bool
unfolding read_pattern front
begins_at fold s t j = begins_of fold (read_pattern s) t j

-- the smallest of n numbers from `from` on that passes, or the one behind them
abbrev pub smallest : (ℕ → Bool) → ℕ → ℕ → ℕ
smallest f zero from = from
smallest f (suc n) from = pick (f from) from (smallest f n (from + 1))

-- the smallest place at which such a part begins; one above the length where there is none
unfoldable pub first_fit : Bool → List ℕ → List ℕ → ℕ
unfolding begins_at
first_fit fold s t = smallest (begins_at fold s t) (suc (length t)) 0

-- a string is a pattern, and that part fits it; fold: the text is a name
pub record FitsText (fold : Bool) (s t : List ℕ) (j n : ℕ) : Type 0 where
  pub pattern : Pattern
  pub reads : read_pattern s ≡ some pattern
  pub fits : FitsAt (meet_as fold) pattern t j n

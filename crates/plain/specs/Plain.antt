-- What the plain matcher answers (document 02, change request 7): the main one's place, by definition.
use Rattle.std.specs.Prelude.{false, ◌≡◌, List, ℕ, ltb, length}
use Rattle.std.proofs.Math.Option.{Option, none, some}
use Rattle.octets.specs.Lists.{pick}
use Rattle.basic.specs.Pattern.{Pattern, meets}
use Rattle.basic.specs.Reading.{read_pattern}
use Rattle.place.specs.Place.{place_of}
use Rattle.place.specs.declared.Place.{Place}
use Rattle.plain.specs.declared.Answer.{Answer}

-- a refusal, with no place
abbrev pub refused : ℕ → Answer
refused number = record { refusal = number; found = false; start = 0; size = 0 }

-- a place, or none
abbrev pub answered : Place → Answer
answered r = record { refusal = 0; found = r.found; start = r.start; size = r.size }

-- "Refusals: 5, then 17 for a longer text."; else the place that the main one finds
abbrev pub by_pattern : Option Pattern → List ℕ → Answer
by_pattern none t = refused 5
by_pattern (some p) t = pick (ltb 256 (length t)) (refused 17) (answered (place_of meets p t))

-- of a string and a text
unfoldable pub plain_answer : List ℕ → List ℕ → Answer
unfolding read_pattern place_of
plain_answer s t = by_pattern (read_pattern s) t

-- ---- what the contract cites

pub record Plains (pattern text : List ℕ) (a : Answer) : Type 0 where
  pub answer : a ≡ plain_answer pattern text

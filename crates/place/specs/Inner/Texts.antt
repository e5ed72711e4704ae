-- Where a string that may be a pattern matches a text.
use Rattle.std.specs.Prelude.{Bool, List, ℕ}
use Rattle.std.proofs.Math.Option.{Option, none, some}
use Rattle.basic.specs.Pattern.{Pattern}
use Rattle.pattern.specs.Inner.Answers.{meet_as}
use Rattle.basic.specs.Reading.{read_pattern}
use Rattle.place.specs.Place.{nowhere, place_of}
use Rattle.place.specs.declared.Place.{Place}

-- by what was read
abbrev pub place_read : Bool → Option Pattern → List ℕ → Place
place_read fold none t = nowhere
place_read fold (some p) t = place_of (meet_as fold) p t

-- a string on a text; nowhere where it is no pattern
unfoldable pub place_text : Bool → List ℕ → List ℕ → Place
unfolding place_of read_pattern
place_text fold s t = place_read fold (read_pattern s) t

-- Places for the sets and masks of a pattern.
use Rattle.std.specs.Prelude.{replicate}
use Rattle.pattern.specs.declared.prepared.PatternPlaces.{PatternPlaces}

-- with nothing in them
abbrev pub cleared : PatternPlaces
cleared = record { sets = replicate 60 (replicate 4 0); before = replicate 60 0 }

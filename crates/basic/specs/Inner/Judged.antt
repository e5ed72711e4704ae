-- Whether a string is a pattern.
use Rattle.std.specs.Prelude.{Bool, true, false, ℕ, List}
use Rattle.std.proofs.Math.Option.{Option, none, some}
use Rattle.basic.specs.Reading.{read_pattern}
use Rattle.basic.specs.Pattern.{Pattern}

-- whether a pattern was read
abbrev pub was_read : Option Pattern → Bool
was_read none = false
was_read (some p) = true

-- whether a string is a pattern
unfoldable pub is_pattern : List ℕ → Bool
unfolding read_pattern
is_pattern s = was_read (read_pattern s)

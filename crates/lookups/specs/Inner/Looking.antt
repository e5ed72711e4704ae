-- What the lookups share: the criterion that is looked for.
use Rattle.std.specs.Prelude.{◌≡◌, ℕ, List, Some, None}
use Rattle.std.specs.Prelude.{Option as Answer}
use Rattle.std.proofs.Math.Option.{Option}
use Rattle.entries.specs.declared.Criterion as numbers
use Rattle.profile.specs.Image.{Stored, Criterion}
use Rattle.profile.specs.Judging.{judge}
use Rattle.profile.specs.Inner.Decoded.{strings, criterion_with}
use Rattle.lookups.specs.Lookups.{no_part, the_part, look_judged}

-- the lookup of any part of criterion i answers that part, or 13 where there is no such criterion
abbrev pub Found : List ℕ → ℕ → Answer numbers.Criterion → Type 0
Found s i (Some c) = (part : Criterion → Option Stored) → the_part (part (criterion_with (strings s) c)) ≡ look_judged part (judge s) i
Found s i None = (part : Criterion → Option Stored) → no_part 13 0 ≡ look_judged part (judge s) i

use native.Mathlib.Nat.{le_of_eq}
use Rattle.std.proofs.Common.{refl}
use Rattle.contents.proofs.Shortening.{name_short, name_written}
use Rattle.contents.proofs.names.as_matched.Goals as goal

pub returns-in-Some : goal.returns-in-Some
returns-in-Some c =
    name_short _ _ c.in-Some.ensures.1 c.in-Some.ensures.0 _ c.long_name.ensures

pub returns-in-None : goal.returns-in-None
returns-in-None c = name_written _ _ refl (le_of_eq c.in-None.ensures)

use mathlib.Core.Path.{refl}
use Rattle.lookups.proofs.Found.{part_is}
use Rattle.lookups.proofs.part.Goals as goal

pub returns : goal.returns
returns c = let a = c.args in part_is a.image.now a.l a.l.start a.l.size refl refl

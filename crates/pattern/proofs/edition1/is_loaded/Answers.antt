use mathlib.Core.Path.{refl}
use Rattle.pattern.proofs.edition1.is_loaded.Goals as goal

pub returns : goal.returns
returns c = refl

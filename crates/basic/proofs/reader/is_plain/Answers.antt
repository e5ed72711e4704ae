use mathlib.Core.Bool.{or-false, or_assoc}
use Rattle.basic.proofs.reader.is_plain.Goals as goal

pub returns : goal.returns
returns c = simp (or_assoc, or-false)

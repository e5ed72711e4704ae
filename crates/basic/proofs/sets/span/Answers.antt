use mathlib.Core.Path.{ap₂, ◌∙◌}
use lib.Bits.{bit_and}
use Rattle.octets.proofs.Bits.{mask_and}
use Rattle.basic.proofs.sets.span.Goals as goal

pub returns : goal.returns
returns c = ap₂ bit_and c.not_below.ensures c.not_above.ensures ∙ mask_and 64 _ _

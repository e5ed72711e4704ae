use Rattle.octets.proofs.Choosing.{picks_first, picks_second}
use lib.Bits.{or_zero_l}
use mathlib.Core.Path.{◌∙◌}
use Rattle.pattern.proofs.edition1.Marks.run_with.Goals as goal

pub returns-then-repeats : goal.returns-then-repeats
returns-then-repeats c = picks_first _ _ _ _ c.if-repeats.true c.with_position.ensures

pub returns : goal.returns
returns c = picks_second _ _ _ _ c.if-repeats.false (c.with_position-2.ensures ∙ or_zero_l _)

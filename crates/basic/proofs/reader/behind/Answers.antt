use Rattle.octets.proofs.Choosing.{picks_first, picks_second}
use mathlib.Core.Path.{refl}
use Rattle.basic.proofs.reader.behind.Goals as goal

pub returns-then-repeats : goal.returns-then-repeats
returns-then-repeats c = picks_first _ _ _ _ c.if-repeats.true refl

pub returns : goal.returns
returns c = picks_second _ _ _ _ c.if-repeats.false refl

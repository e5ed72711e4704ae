use Rattle.octets.proofs.Choosing.{picks_first, picks_second}
use borrow.Author.Tests.{eq-eqb, ne_eqb}
use mathlib.Core.Path.{refl}
use Rattle.basic.proofs.reader.stop_at.Goals as goal

pub returns-then-s-last-eq36 : goal.returns-then-s-last-eq36
returns-then-s-last-eq36 c = picks_first _ _ _ _ (eq-eqb _ _ c.if-s-last-eq36.true) refl

pub returns : goal.returns
returns c = picks_second _ _ _ _ (ne_eqb _ _ c.if-s-last-eq36.false) refl

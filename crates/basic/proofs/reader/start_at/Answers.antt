use Rattle.octets.proofs.Choosing.{picks_first, picks_second}
use borrow.Author.Tests.{eq-eqb, ne_eqb}
use mathlib.Core.Path.{refl, sym, ◌∙◌}
use Rattle.basic.proofs.reader.start_at.Goals as goal

pub returns-then-peek_at-eq94 : goal.returns-then-peek_at-eq94
returns-then-peek_at-eq94 c = picks_first _ _ _ _ (eq-eqb _ _ (sym c.peek_at.ensures ∙ c.if-peek_at-eq94.true)) refl

pub returns : goal.returns
returns c = picks_second _ _ _ _ (ne_eqb _ _ (λ z. c.if-peek_at-eq94.false (c.peek_at.ensures ∙ z))) refl

use borrow.Author.Tests.{eq-eqb, ne_eqb}
use mathlib.Core.Path.{◌∙◌}
use Rattle.octets.proofs.Choosing.{and_second, and_neither}
use Rattle.basic.proofs.Items.{class_test}
use Rattle.basic.proofs.reader.opens_class.Goals as goal

pub returns-then-b-eq91 : goal.returns-then-b-eq91
returns-then-b-eq91 c u e =
    let a = c.args in
    and_second _ _ (eq-eqb _ _ c.if-b-eq91.true) ∙ class_test a.b a.next u e

pub returns : goal.returns
returns c u e =
    let a = c.args in
    and_neither _ _ (ne_eqb _ _ c.if-b-eq91.false) ∙ class_test a.b a.next u e

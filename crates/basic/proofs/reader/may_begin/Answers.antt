use Rattle.basic.proofs.Items.{dash_test, begins_test}
use Rattle.basic.proofs.reader.may_begin.Goals as goal

pub returns-then-b-eq45 : goal.returns-then-b-eq45
returns-then-b-eq45 c u e =
    let a = c.args in
    dash_test a.first a.b a.next c.if-b-eq45.true u e

pub returns : goal.returns
returns c u e =
    let a = c.args in
    begins_test a.first a.b c.opens_class.result c.if-b-eq45.false u (c.opens_class.ensures u e)

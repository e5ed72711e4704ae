use Rattle.pattern.proofs.Finding.{found_meets}
use Rattle.pattern.proofs.test.Goals as goal

pub returns : goal.returns
returns c = λ fold p ready. found_meets fold p _ _ _ ready c.args.text.now (λ i. (c.type_inv.text i).fits) _ c.found.ensures

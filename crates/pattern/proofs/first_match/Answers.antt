use Rattle.pattern.proofs.Finding.{found_first}
use Rattle.pattern.proofs.first_match.Goals as goal

pub returns : goal.returns
returns c = λ fold p ready. found_first fold p _ _ _ ready c.args.text.now (λ i. (c.type_inv.text i).fits) _ c.leftmost.ensures

use Rattle.std.proofs.Math.Logic.{∥∥₁_elim}
use Rattle.std.proofs.Props.{props}
use Rattle.place.proofs.find.Goals as goal

pub returns : goal.returns
returns c = ∥∥₁_elim c.args.pattern.now.ready (Prim.hlevel props) (λ k. c.locate.ensures _ _ k)

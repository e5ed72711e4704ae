use mathlib.Core.Path.{refl}
use native.Mathlib.Omega.{arith}
use Rattle.octets.proofs.Bits.{shl_some}
use Rattle.pattern.proofs.Filling.{shape_is}
use Rattle.pattern.proofs.edition1.Marks.shape.Goals as goal

pub nonzero_rem-start : goal.nonzero_rem-start
nonzero_rem-start c = shl_some 64 _ (omega (arith, c.requires))

pub returns : goal.returns
returns c =
    shape_is c.args.self c.args.left c.args.right _ _ _ _ c.requires refl c.may_lead-free.ensures c.unless-inner.ensures c.unless-stops.ensures

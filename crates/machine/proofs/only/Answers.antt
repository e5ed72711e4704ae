use Rattle.std.proofs.Common.{refl}
use Rattle.machine.proofs.Hunt.{only_one}
use Rattle.machine.proofs.only.Goals as goal

pub returns-then-p-lt60 : goal.returns-then-p-lt60
returns-then-p-lt60 c = only_one c.args.mask _ c.ranges.mask.fits c.requires c.if-p-lt60.true c.if-mask-ne0.false refl

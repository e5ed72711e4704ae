use mathlib.Core.Path.{refl}
use Rattle.encode.proofs.Writes.{put_wrote}
use Rattle.encode.proofs.put.Goals as goal

pub returns : goal.returns
returns g c = (refl, put_wrote c.args.dst.now c.args.bytes c.copy_from_slice.new.self c.args.to g.row.N c.requires c.copy_from_slice.ensures.len c.copy_from_slice.ensures.after)

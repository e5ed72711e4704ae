use native.Mathlib.Omega.{arith}
use Rattle.profile.proofs.Standings.{bounds, row_end, row_room}
use Rattle.profile.proofs.accepted_image.AcceptedImage.row.Goals as goal

pub overflow_mul-i : goal.overflow_mul-i
overflow_mul-i c = record { fits = omega (arith, row_room _ _ _ c.args.self.now.standing _ c.requires) }

pub overflow_add-self : goal.overflow_add-self
overflow_add-self c = record { fits = row_room _ _ _ c.args.self.now.standing _ c.requires }

pub read_row-requires : goal.read_row-requires
read_row-requires c = (row_end _ _ _ c.args.self.now.standing _ c.requires, (bounds _ _ _ c.args.self.now.standing).size)

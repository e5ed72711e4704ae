use native.Mathlib.Omega.{arith}
use Rattle.profile.proofs.Standings.{bounds, criterion_end, criterion_room}
use Rattle.profile.proofs.accepted_image.AcceptedImage.criterion.Goals as goal

pub overflow_mul-i : goal.overflow_mul-i
overflow_mul-i c = record { fits = omega (arith, criterion_room _ _ _ c.args.self.now.standing _ c.requires) }

pub overflow_add-self : goal.overflow_add-self
overflow_add-self c = record { fits = criterion_room _ _ _ c.args.self.now.standing _ c.requires }

pub read_criterion-requires : goal.read_criterion-requires
read_criterion-requires c = (criterion_end _ _ _ c.args.self.now.standing _ c.requires, (bounds _ _ _ c.args.self.now.standing).size)

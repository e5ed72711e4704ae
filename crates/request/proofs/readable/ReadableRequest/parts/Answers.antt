use Rattle.request.proofs.Readings.{places_alone}
use Rattle.request.proofs.readable.ReadableRequest.parts.Goals as goal

pub parts_at-requires : goal.parts_at-requires
parts_at-requires c = (places_alone _ _ _ _ c.args.self.now.placed, c.requires)

use native.Mathlib.Omega.{arith}
use Rattle.request.proofs.Readings.{lines_inside, described_is}
use Rattle.request.proofs.readable.ReadableRequest.described.Goals as goal

pub slice_bounds-result-count : goal.slice_bounds-result-count
slice_bounds-result-count c = omega (arith, lines_inside _ _ _ _ c.args.self.now.placed)

pub slice_bounds-result-start : goal.slice_bounds-result-start
slice_bounds-result-start c = lines_inside _ _ _ _ c.args.self.now.placed

pub returns : goal.returns
returns c = described_is _ _ _ _ c.args.self.now.placed

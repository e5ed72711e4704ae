use Rattle.request.proofs.Readings.{method_is, method_inside}
use Rattle.request.proofs.readable.ReadableRequest.method.Goals as goal

pub slice_bounds-result-end : goal.slice_bounds-result-end
slice_bounds-result-end c = method_inside _ _ _ _ c.args.self.now.placed

pub returns : goal.returns
returns c = method_is _ _ _ _ c.args.self.now.placed

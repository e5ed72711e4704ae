use mathlib.Core.Path.{sym}
use Rattle.request.proofs.Readings.{uri_is, uri_inside}
use Rattle.request.proofs.readable.ReadableRequest.uri.Goals as goal

pub slice_bounds-result-end : goal.slice_bounds-result-end
slice_bounds-result-end c = uri_inside _ _ _ _ c.args.self.now.placed

pub returns : goal.returns
returns c = sym (uri_is _ _ _ _ c.args.self.now.placed)

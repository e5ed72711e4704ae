use native.Mathlib.Omega.{arith}
use Rattle.request.proofs.OneField.{name_order, name_inside, value_order, value_inside, field_is}
use Rattle.request.proofs.Readings.{places_alone}
use Rattle.request.proofs.readable.ReadableRequest.field.Goals as goal

pub slice_bounds-result-count : goal.slice_bounds-result-count
slice_bounds-result-count c = omega (arith, name_order _ _ _ _ _ (places_alone _ _ _ _ c.args.self.now.placed) _ c.requires _ c.parts-at.ensures)

pub slice_bounds-result-start : goal.slice_bounds-result-start
slice_bounds-result-start c = name_order _ _ _ _ _ (places_alone _ _ _ _ c.args.self.now.placed) _ c.requires _ c.parts-at.ensures

pub slice_bounds-result-end : goal.slice_bounds-result-end
slice_bounds-result-end c = name_inside _ _ _ _ _ (places_alone _ _ _ _ c.args.self.now.placed) _ c.requires _ c.parts-at.ensures

pub slice_bounds-result-count-2 : goal.slice_bounds-result-count-2
slice_bounds-result-count-2 c = omega (arith, value_order _ _ _ _ _ (places_alone _ _ _ _ c.args.self.now.placed) _ c.requires _ c.parts-at.ensures)

pub slice_bounds-result-start-2 : goal.slice_bounds-result-start-2
slice_bounds-result-start-2 c = value_order _ _ _ _ _ (places_alone _ _ _ _ c.args.self.now.placed) _ c.requires _ c.parts-at.ensures

pub slice_bounds-result-end-2 : goal.slice_bounds-result-end-2
slice_bounds-result-end-2 c = value_inside _ _ _ _ _ (places_alone _ _ _ _ c.args.self.now.placed) _ c.requires _ c.parts-at.ensures

pub returns : goal.returns
returns c = field_is _ _ _ _ _ (places_alone _ _ _ _ c.args.self.now.placed) _ c.requires _ c.parts-at.ensures

use Rattle.request.proofs.Indexing.{few, starts_place, starts_room, next_room, name_order, name_inside, small, stop_inside, parts_are}
use mathlib.Core.Path.{◌∙◌}
use native.Mathlib.Omega.{arith}
use Rattle.request.proofs.Lent.{starts_many, place_in, start_in, colon_in_place}
use Rattle.request.proofs.parts_at.Goals as goal

pub offset_bounds-lent-i : goal.offset_bounds-lent-i
offset_bounds-lent-i c = omega (arith, few _ _ _ _ _ c.requires.0 _ c.requires.1)

pub bounds-lent-i : goal.bounds-lent-i
bounds-lent-i c = place_in _ _ (starts_place _ _ _ _ _ c.requires.0 _ c.requires.1)

pub offset_bounds-lent-i-2 : goal.offset_bounds-lent-i-2
offset_bounds-lent-i-2 c = omega (arith, few _ _ _ _ _ c.requires.0 _ c.requires.1)

pub bounds-lent-i-2 : goal.bounds-lent-i-2
bounds-lent-i-2 c = place_in _ _ (starts_place _ _ _ _ _ c.requires.0 _ c.requires.1)

pub slice_bounds-trimmed_end-count : goal.slice_bounds-trimmed_end-count
slice_bounds-trimmed_end-count c =
    omega (arith, name_order _ _ _ _ _ c.requires.0 _ c.requires.1 _ _ (c.from_word-a.ensures ∙ start_in c.args.lent.now c.args.i) (c.from_word-k.ensures ∙ colon_in_place c.args.lent.now c.args.i))

pub slice_bounds-trimmed_end-start : goal.slice_bounds-trimmed_end-start
slice_bounds-trimmed_end-start c =
    name_order _ _ _ _ _ c.requires.0 _ c.requires.1 _ _ (c.from_word-a.ensures ∙ start_in c.args.lent.now c.args.i) (c.from_word-k.ensures ∙ colon_in_place c.args.lent.now c.args.i)

pub slice_bounds-trimmed_end-end : goal.slice_bounds-trimmed_end-end
slice_bounds-trimmed_end-end c =
    name_inside _ _ _ _ _ c.requires.0 _ c.requires.1 _ _ (c.from_word-a.ensures ∙ start_in c.args.lent.now c.args.i) (c.from_word-k.ensures ∙ colon_in_place c.args.lent.now c.args.i)

pub field_end-e-requires : goal.field_end-e-requires
field_end-e-requires c =
    (c.requires.1, omega (arith, starts_room _ _ _ _ _ c.requires.0 _ c.requires.1, starts_many c.args.lent.now), next_room _ _ _ _ _ c.requires.0 _ c.requires.1)

pub overflow_add-result : goal.overflow_add-result
overflow_add-result c =
    let start = c.from_word-a.ensures ∙ start_in c.args.lent.now c.args.i in
    let colon = c.from_word-k.ensures ∙ colon_in_place c.args.lent.now c.args.i in
    omega (arith, stop_inside _ _ _ _ _ c.requires.0 _ c.requires.1 _ _ start colon _ c.trimmed_end-n.ensures, name_inside _ _ _ _ _ c.requires.0 _ c.requires.1 _ _ start colon)

pub overflow_add-result-2 : goal.overflow_add-result-2
overflow_add-result-2 c =
    omega (arith, small _ _ _ _ _ c.requires.0 _ c.requires.1 _ _ (c.from_word-a.ensures ∙ start_in c.args.lent.now c.args.i) (c.from_word-k.ensures ∙ colon_in_place c.args.lent.now c.args.i))

pub returns : goal.returns
returns c =
    parts_are _ _ _ _ _ c.requires.0 _ c.requires.1 _ _ (c.from_word-a.ensures ∙ start_in c.args.lent.now c.args.i) (c.from_word-k.ensures ∙ colon_in_place c.args.lent.now c.args.i) _ c.trimmed_end-n.ensures _ c.field_end-e.ensures

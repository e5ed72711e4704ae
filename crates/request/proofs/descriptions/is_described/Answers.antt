use mathlib.Core.Path.{sym, ◌∙◌}
use Rattle.request.proofs.Described.{looking_first, looking_past, looking_on, looking_end, second_one}
use Rattle.request.proofs.OneField.{name_order, name_inside, value_order, value_inside, value_short, value_room}
use borrow.Author.Rules.{rules}
use Rattle.request.proofs.descriptions.is_described.Goals as goal

pub loop-i-init : goal.loop-i-init
loop-i-init c = looking_first _ _

pub slice_bounds-as_matched-count : goal.slice_bounds-as_matched-count
slice_bounds-as_matched-count c = search (rules, name_order)

pub slice_bounds-as_matched-start : goal.slice_bounds-as_matched-start
slice_bounds-as_matched-start c = search (rules, name_order)

pub slice_bounds-as_matched-end : goal.slice_bounds-as_matched-end
slice_bounds-as_matched-end c = search (rules, name_inside)

pub loop-i-preserved-then-not-same_letters : goal.loop-i-preserved-then-not-same_letters
loop-i-preserved-then-not-same_letters c = search looking_past

pub returns-then-is_some : goal.returns-then-is_some
returns-then-is_some c =
    second_one _ _ _ _ _ c.requires.0 _ _ c.loop-i.invariant c.loop-i-test.true _ c.parts_at-f.ensures _ c.as_matched-name.ensures _ c.same_letters.ensures c.if-not-same_letters.false
    (sym c.is_some.ensures ∙ c.if-is_some.true)

pub slice_bounds-value_describes-count : goal.slice_bounds-value_describes-count
slice_bounds-value_describes-count c = search (rules, value_order)

pub slice_bounds-value_describes-start : goal.slice_bounds-value_describes-start
slice_bounds-value_describes-start c = search (rules, value_order)

pub slice_bounds-value_describes-end : goal.slice_bounds-value_describes-end
slice_bounds-value_describes-end c = search (rules, value_inside)

pub value_describes-requires : goal.value_describes-requires
value_describes-requires c = (search value_short, search (rules, value_room))

pub loop-i-preserved : goal.loop-i-preserved
loop-i-preserved c =
    looking_on _ _ _ _ _ c.requires.0 _ _ c.loop-i.invariant c.loop-i-test.true _ c.parts_at-f.ensures _ c.as_matched-name.ensures _ c.same_letters.ensures c.if-not-same_letters.false
    (sym c.is_some.ensures ∙ c.if-is_some.false) _ c.value_describes.ensures

pub returns : goal.returns
returns c = c.unwrap_or.ensures ∙ looking_end _ _ _ _ _ c.requires.0 _ _ c.loop-i.invariant c.loop-i-test.false

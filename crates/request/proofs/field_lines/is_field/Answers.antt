use Rattle.request.proofs.Fields.{field_no_colon, field_is, name_inside}
use Rattle.request.proofs.field_lines.is_field.Goals as goal

pub returns-then-l-k : goal.returns-then-l-k
returns-then-l-k c = search field_no_colon

pub slice_bounds-is_word-end : goal.slice_bounds-is_word-end
slice_bounds-is_word-end c = search name_inside

pub returns : goal.returns
returns c = search field_is

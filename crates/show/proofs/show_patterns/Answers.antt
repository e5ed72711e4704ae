use Rattle.show.proofs.Rowing.{shown_body, shown_head}
use Rattle.show.proofs.show_patterns.Goals as goal

pub returns-then-patterns : goal.returns-then-patterns
returns-then-patterns c = (shown_head _ _ _ _ _ c.if-patterns.true _ c.show_fields.ensures.0, c.show_fields.ensures.1)

pub returns : goal.returns
returns c = (shown_body _ _ _ _ _ _ c.if-patterns.false c.described.ensures.0 _ c.show_lines.ensures.0, c.show_lines.ensures.1)

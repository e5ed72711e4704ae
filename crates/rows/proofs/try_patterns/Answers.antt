use Rattle.rows.proofs.ByKind.{patterns_body, patterns_head}
use Rattle.rows.proofs.try_patterns.Goals as goal

pub returns-then-patterns : goal.returns-then-patterns
returns-then-patterns c = (patterns_head _ _ _ _ _ c.if-patterns.true _ c.try_fields.ensures.0, c.try_fields.ensures.1)

pub returns : goal.returns
returns c = (
  patterns_body _ _ _ _ _ _ c.if-patterns.false c.described.ensures.0 _ c.try_lines.ensures.0,
  c.try_lines.ensures.1,
)

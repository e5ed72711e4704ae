use mathlib.Core.Path.{◌∙◌}
use Prim.Native.Nat.{◌+◌}
use native.Mathlib.Omega.{arith}
use Rattle.request.proofs.Lent.{start_in}
use Rattle.request.proofs.Indexing.{end_by_next, end_by_head}
use Rattle.request.proofs.field_end.Goals as goal

pub overflow_sub-result : goal.overflow_sub-result
overflow_sub-result c = omega (arith, c.requires.2 c.if-i-fields.true, c.from_word.ensures ∙ start_in c.args.lent.now (c.args.i + 1))

pub returns-then-i-fields : goal.returns-then-i-fields
returns-then-i-fields c =
    end_by_next _ _ _ _ _ (c.from_word.ensures ∙ start_in c.args.lent.now (c.args.i + 1)) c.if-i-fields.true

pub returns : goal.returns
returns c = search end_by_head

use borrow.Author.Rules.{rules}
use native.Mathlib.Omega.{arith}
use Rattle.pattern.proofs.Laying.{byte_written, byte_named}
use Rattle.pattern.proofs.edition1.lay_byte.Goals as goal

pub returns-then-fold : goal.returns-then-fold
returns-then-fold c =
    byte_named c.args.c (search rules) c.args.sets.now c.args.at (omega (arith, c.requires.0, c.requires.1)) c.args.fold c.if-fold.true _ c.folded_word.ensures

pub returns-else-fold : goal.returns-else-fold
returns-else-fold c =
    byte_written c.args.c (search rules) c.args.sets.now c.args.at (omega (arith, c.requires.0, c.requires.1)) c.args.fold c.if-fold.false

use Rattle.machine.proofs.Hunt.{pass_none, pass_all, pass_door}
use borrow.Author.Rules.{rules}
use Rattle.machine.proofs.passed.Goals as goal

pub returns-then-next-ne0 : goal.returns-then-next-ne0
returns-then-next-ne0 c = search (rules, pass_none)

pub returns-then-h : goal.returns-then-h
returns-then-h c = search (rules, pass_none)

pub returns-then-i-text : goal.returns-then-i-text
returns-then-i-text c = search (rules, pass_none)

pub returns-then-h-eq0 : goal.returns-then-h-eq0
returns-then-h-eq0 c = search (rules, pass_all)

pub returns-in-Some : goal.returns-in-Some
returns-in-Some c = search (rules, pass_door)

pub returns-in-None : goal.returns-in-None
returns-in-None c = search (rules, pass_none)

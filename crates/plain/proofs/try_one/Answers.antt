use native.Mathlib.Omega.{arith}
use mathlib.Core.Path.{refl}
use Rattle.plain.proofs.Trying.{try_dot, try_pair, try_byte, try_list, try_not, not_inside}
use Rattle.plain.proofs.try_one.Goals as goal

pub returns-in-46 : goal.returns-in-46
returns-in-46 c = try_dot _ _ _ c.requires _ c.peek_at.ensures c.in-46.is _ refl

pub returns-in-92 : goal.returns-in-92
returns-in-92 c = try_pair _ _ _ c.requires _ c.peek_at.ensures c.in-92.is _ c.peek_at-next.ensures _ refl

pub try_list-list-requires : goal.try_list-list-requires
try_list-list-requires c = not_inside _ _ _ c.peek_at-next.ensures c.if-next-eq94.true

pub returns-in-91 : goal.returns-in-91
returns-in-91 c = try_not _ _ _ c.requires _ c.peek_at.ensures c.in-91.is _ c.peek_at-next.ensures c.if-next-eq94.true _ c.try_list-list.ensures _ refl

pub returns-in-91-2 : goal.returns-in-91-2
returns-in-91-2 c = try_list _ _ _ c.requires _ c.peek_at.ensures c.in-91.is _ c.peek_at-next.ensures c.if-next-eq94.false _ c.try_list.ensures

pub returns-in_default : goal.returns-in_default
returns-in_default c = try_byte _ _ _ c.requires _ c.peek_at.ensures (omega arith) (omega arith) (omega arith) _ refl

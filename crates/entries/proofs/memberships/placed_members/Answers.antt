use native.Mathlib.Omega.{arith}
use Rattle.cells.proofs.Laws.{exits}
use Rattle.entries.proofs.MemberLoop.{room_made, cleared, section_bad, section_unplaced, section_end}
use Rattle.entries.proofs.memberships.placed_members.Goals as goal

pub members-requires : goal.members-requires
members-requires c = (omega arith, omega arith, cleared _ (omega arith))

pub returns-in_err-end : goal.returns-in_err-end
returns-in_err-end c =
    rw (exits c.from_residual.ensures.1) (section_bad _ _ _ _ _ _ (room_made c.args.rows (omega arith)) _ _ c.in_err-end.ensures)

pub returns-in_err-all_placed : goal.returns-in_err-all_placed
returns-in_err-all_placed c =
    rw (exits c.from_residual-in_err-all_placed.ensures.1) (section_unplaced _ _ _ _ _ _ (room_made c.args.rows (omega arith)) _ _ _ c.in_ok-end.ensures c.members.auto.counts _ _ c.in_err-all_placed.ensures)

pub returns : goal.returns
returns c = section_end _ _ _ _ _ _ (room_made c.args.rows (omega arith)) _ _ _ c.in_ok-end.ensures c.members.auto.counts c.in_ok-all_placed.ensures

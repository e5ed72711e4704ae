use Rattle.contents.proofs.Walks.{cut_less}
use Rattle.spots.proofs.Valuing.{seeking_first, seeking_found, seeking_low, seeking_next, seeking_end, value_room, no_spot_low, placed_as}
use borrow.Author.Rules.{rules}
use Rattle.spots.proofs.spot_in_pieces.Goals as goal

pub loop-cut-init : goal.loop-cut-init
loop-cut-init c = search seeking_first

pub returns-then-at : goal.returns-then-at
returns-then-at c =
    let at = placed_as _ _ c.requires.written _ _ _ c.find-at.ensures in (
      seeking_found _ _ _ _ c.loop-cut.invariant _ c.next_cut.ensures _ c.in-Some.is _ at c.if-at.true,
      seeking_low _ _ _ _ c.loop-cut.invariant _ c.next_cut.ensures _ c.in-Some.is _ at c.requires.v_len_bound,
    )

pub overflow_add-value : goal.overflow_add-value
overflow_add-value c = search (rules, value_room)

pub loop-cut-smaller : goal.loop-cut-smaller
loop-cut-smaller c = search cut_less

pub loop-cut-preserved : goal.loop-cut-preserved
loop-cut-preserved c =
    seeking_next _ _ _ _ c.loop-cut.invariant _ c.next_cut.ensures _ c.in-Some.is _ (placed_as _ _ c.requires.written _ _ _ c.find-at.ensures) c.if-at.false

pub returns : goal.returns
returns c = (search seeking_end, search no_spot_low)

use Rattle.show.proofs.Calling.{kth_shown}
use Rattle.rows.proofs.ByKind.{kth_matchable}
use Rattle.show.proofs.show_row.Goals as goal

pub show_test-requires : goal.show_test-requires
show_test-requires c = record {
  cases = kth_matchable _ _ _ c.args.image.now.standing _ _ c.row.ensures c.requires.in_image;
  room_for_each = c.requires.room_for_each;
}

pub returns : goal.returns
returns c = (kth_shown _ _ _ c.args.image.now.standing _ _ c.row.ensures _ _ c.show_test.ensures.0, c.show_test.ensures.1)

use Rattle.rows.proofs.ByKind.{kth_matchable, tried_negated, tried_plain}
use Rattle.rows.proofs.try_row.Goals as goal

pub try_test-v-requires : goal.try_test-v-requires
try_test-v-requires c = record {
  cases = kth_matchable _ _ _ c.args.image.now.standing _ _ c.row-row.ensures c.requires.in_image;
  room_for_each = c.requires.room_for_each;
}

pub returns-then-row-eq1 : goal.returns-then-row-eq1
returns-then-row-eq1 c =
    tried_negated _ _ _ c.args.image.now.standing _ _ c.row-row.ensures _ _ _ c.try_test-v.ensures.0 c.try_test-v.ensures.1 c.if-row-eq1.true

pub returns : goal.returns
returns c =
    tried_plain _ _ _ c.args.image.now.standing _ _ c.row-row.ensures _ _ _ c.try_test-v.ensures.0 c.try_test-v.ensures.1 c.if-row-eq1.false

use Rattle.request.specs.Inner.Places.{starts_in, colons_in}
use Rattle.request.proofs.Lent.{fillable_out}
use Rattle.request.proofs.Answers.{head_inside, fillable, room_enough, read_refused, read_accepted}
use Rattle.request.proofs.Indexing.{filled_fields}
use Rattle.request.proofs.read.Goals as goal

pub returns-in_err-h : goal.returns-in_err-h
returns-in_err-h c = read_refused _ _ _ _ c.judge.ensures c.in_err-h.was _ c.from_residual.ensures

pub slice_bounds-fill-end : goal.slice_bounds-fill-end
slice_bounds-fill-end c = head_inside _ (starts_in c.args.lent.now) (colons_in c.args.lent.now) _ c.judge.ensures _ _ _ _ c.in_ok-h.was

pub fill-fields-requires : goal.fill-fields-requires
fill-fields-requires c = fillable_out _ _ _ (fillable _ _ _ _ c.judge.ensures _ _ _ _ c.in_ok-h.was _ c.requires)

pub lines_start-lines-requires : goal.lines_start-lines-requires
lines_start-lines-requires c = (
  filled_fields _ _ _ _ c.judge.ensures _ _ _ _ c.in_ok-h.was _ _ _ c.fill-fields.ensures,
  room_enough _ _ _ _ c.judge.ensures _ _ _ _ c.in_ok-h.was _ c.requires,
)

pub returns : goal.returns
returns c =
    read_accepted _ _ _ _ c.judge.ensures _ _ _ _ c.in_ok-h.was _ _ _ c.fill-fields.ensures _ c.lines_start-lines.ensures

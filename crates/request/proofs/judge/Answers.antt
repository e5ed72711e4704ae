use mathlib.Core.Bool.{not}
use mathlib.Core.Path.{ap}
use Rattle.request.proofs.Judging.{judge_long, judge_endless, judge_wrong, front_short, front_paired, judge_lines}
use Rattle.request.proofs.judge.Goals as goal

pub returns-then-s-gt65535 : goal.returns-then-s-gt65535
returns-then-s-gt65535 c = judge_long _ c.if-s-gt65535.true

pub returns-then-s-at : goal.returns-then-s-at
returns-then-s-at c = judge_endless _ c.if-s-gt65535.false _ c.head_end-at.ensures c.if-s-at.true

pub returns-then-not-bytes_right : goal.returns-then-not-bytes_right
returns-then-not-bytes_right c =
    judge_wrong _ c.if-s-gt65535.false _ c.head_end-at.ensures c.if-s-at.false _ c.bytes_right.ensures (ap not c.if-not-bytes_right.true)

pub judge_lines-requires : goal.judge_lines-requires
judge_lines-requires c =
    let short = c.if-s-gt65535.false in
    (front_short _ short _ c.head_end-at.ensures c.if-s-at.false, front_paired _ short _ c.head_end-at.ensures c.if-s-at.false _ c.bytes_right.ensures (ap not c.if-not-bytes_right.false))

pub returns : goal.returns
returns c =
    judge_lines _ c.if-s-gt65535.false _ c.head_end-at.ensures c.if-s-at.false _ c.bytes_right.ensures (ap not c.if-not-bytes_right.false)
    _ c.judge_lines.ensures

use Rattle.encode.proofs.Writes.{wrote_as, wrote_both}
use native.Mathlib.Omega.{arith}
use Rattle.encode.proofs.put_criterion.Goals as goal

pub returns : goal.returns
returns c = (
  omega (
    arith,
    c.put-part.ensures.0,
    c.put-form.ensures.0,
    c.put-first.ensures.0,
    c.put-count.ensures.0,
    c.put-server.ensures.0,
    c.put-handling.ensures.0,
    c.put-info.ensures.0,
    c.put.ensures.0,
  ),
  wrote_both (wrote_as c.four.ensures c.put-part.ensures.1) c.put-part.ensures.0
      (wrote_both c.put-form.ensures.1 c.put-form.ensures.0
      (wrote_both c.put-first.ensures.1 c.put-first.ensures.0
      (wrote_both (wrote_as c.two.ensures c.put-count.ensures.1) c.put-count.ensures.0
      (wrote_both (wrote_as c.two-2.ensures c.put-server.ensures.1) c.put-server.ensures.0
      (wrote_both (wrote_as c.two-3.ensures c.put-handling.ensures.1) c.put-handling.ensures.0
      (wrote_both c.put-info.ensures.1 c.put-info.ensures.0 (wrote_as c.two-4.ensures c.put.ensures.1))))))),
)

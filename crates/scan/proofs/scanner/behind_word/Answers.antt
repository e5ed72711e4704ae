use Prim.Native.Nat.{◌+◌, ◌≤◌}
use lib.ListN.{length}
use native.Mathlib.Omega.{arith}
use Rattle.scan.proofs.Turning.{word_inside, word_next, word_comment_by, word_open_by}
use Rattle.scan.proofs.scanner.behind_word.Goals as goal

pub overflow_add-e : goal.overflow_add-e
overflow_add-e c =
    let p : c.args.at + c.width_of.result ≤ length c.args.s.now = search word_inside in
    omega (arith, p)

pub returns-then-next-lt64 : goal.returns-then-next-lt64
returns-then-next-lt64 c = search word_next

pub end_of-requires : goal.end_of-requires
end_of-requires c = search word_inside

pub returns-in-Some : goal.returns-in-Some
returns-in-Some c = search word_comment_by

pub returns-in-None : goal.returns-in-None
returns-in-None c = search word_open_by

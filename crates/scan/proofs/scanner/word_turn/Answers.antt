use native.Mathlib.Omega.{arith}
use Prim.Native.Nat.{◌+◌, ◌≤◌}
use lib.ListN.{length}
use Rattle.scan.proofs.Turning.{chose_word, chose_number, missed_by, missed_inside_by}
use borrow.Author.Rules.{rules}
use Rattle.scan.proofs.scanner.word_turn.Goals as goal

pub behind_word-requires : goal.behind_word-requires
behind_word-requires c = (search rules, search rules, search chose_number, search chose_word)

pub overflow_add-result : goal.overflow_add-result
overflow_add-result c =
    let p : c.args.at + c.in-Err.m ≤ length c.args.s.now = search missed_inside_by in
    omega (arith, p)

pub returns-in-Err : goal.returns-in-Err
returns-in-Err c = search missed_by

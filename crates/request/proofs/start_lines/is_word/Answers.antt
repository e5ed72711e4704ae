use Rattle.request.proofs.StartParts.{word_none, word_first, word_no, word_next, word_end}
use Rattle.request.proofs.start_lines.is_word.Goals as goal

pub returns-then-w-eq0 : goal.returns-then-w-eq0
returns-then-w-eq0 c = search word_none

pub loop-b-init : goal.loop-b-init
loop-b-init c = search word_first

pub returns-then-not-word_byte_is : goal.returns-then-not-word_byte_is
returns-then-not-word_byte_is c = search word_no

pub loop-b-preserved : goal.loop-b-preserved
loop-b-preserved c = search word_next

pub returns : goal.returns
returns c = search word_end

use Rattle.request.proofs.StartParts.{parts_no_method, parts_no_uri, parts_version}
use Rattle.request.proofs.start_lines.start_parts_right.Goals as goal

pub returns-then-not-is_word : goal.returns-then-not-is_word
returns-then-not-is_word c = search parts_no_method

pub returns-then-not-is_word-2 : goal.returns-then-not-is_word-2
returns-then-not-is_word-2 c = search parts_no_uri

pub returns : goal.returns
returns c = search parts_version

use Rattle.request.proofs.StartParts.{uri_word, token_word}
use Rattle.request.proofs.start_lines.word_byte_is.Goals as goal

pub returns-then-uri : goal.returns-then-uri
returns-then-uri c = search uri_word

pub returns : goal.returns
returns c = search token_word

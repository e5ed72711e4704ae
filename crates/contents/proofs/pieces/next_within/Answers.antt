use Rattle.contents.proofs.Values.{text_quote, text_angle, quotes_escape, quotes_close, angles_close, text_stays, quotes_stay, escape_ends, angles_stay}
use Rattle.contents.proofs.pieces.next_within.Goals as goal

pub returns-then-b-eq34 : goal.returns-then-b-eq34
returns-then-b-eq34 c = search text_quote

pub returns-then-b-eq60 : goal.returns-then-b-eq60
returns-then-b-eq60 c = search text_angle

pub returns-then-b-eq92 : goal.returns-then-b-eq92
returns-then-b-eq92 c = search quotes_escape

pub returns-then-b-eq34-2 : goal.returns-then-b-eq34-2
returns-then-b-eq34-2 c = search quotes_close

pub returns-then-b-eq62 : goal.returns-then-b-eq62
returns-then-b-eq62 c = search angles_close

pub returns-else-b-eq60 : goal.returns-else-b-eq60
returns-else-b-eq60 c = search text_stays

pub returns-else-b-eq34-2 : goal.returns-else-b-eq34-2
returns-else-b-eq34-2 c = search quotes_stay

pub returns-in-Escape : goal.returns-in-Escape
returns-in-Escape c = search escape_ends

pub returns-else-b-eq62 : goal.returns-else-b-eq62
returns-else-b-eq62 c = search angles_stay

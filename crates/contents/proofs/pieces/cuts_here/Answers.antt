use Rattle.contents.proofs.Values.{comma_cuts, quotes_protect, escape_protects, angles_protect}
use Rattle.contents.proofs.pieces.cuts_here.Goals as goal

pub returns-in-Text : goal.returns-in-Text
returns-in-Text c = search comma_cuts

pub returns-in-Quotes : goal.returns-in-Quotes
returns-in-Quotes c = search quotes_protect

pub returns-in-Escape : goal.returns-in-Escape
returns-in-Escape c = search escape_protects

pub returns-in-Angles : goal.returns-in-Angles
returns-in-Angles c = search angles_protect

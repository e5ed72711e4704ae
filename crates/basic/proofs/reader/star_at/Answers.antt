use Rattle.basic.proofs.Elements.{stop_inside, star_before, star_past}
use Rattle.basic.proofs.reader.star_at.Goals as goal

pub bounds-s-i : goal.bounds-s-i
bounds-s-i c = search stop_inside

pub returns-then-i-stop : goal.returns-then-i-stop
returns-then-i-stop c = search star_before

pub returns : goal.returns
returns c = search star_past

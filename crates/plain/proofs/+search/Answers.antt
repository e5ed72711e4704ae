use native.Mathlib.Omega.{arith}
use Rattle.plain.proofs.Searching.{find_here, find_none, find_in, find_later}
use Rattle.plain.proofs.Turning.{short_more}
use Rattle.plain.proofs.+search.Goals as goal

pub returns-in-Some : goal.returns-in-Some
returns-in-Some t c = find_here _ _ _ _ c.requires _ c.in-Some.ensures _ c.tell.ensures

pub returns-then-i-j : goal.returns-then-i-j
returns-then-i-j t c = find_none _ _ _ _ c.requires c.in_default.ensures c.if-i-j.true _ c.tell-then-i-j.ensures

pub search-requires : goal.search-requires
search-requires t c =
    let falls = c.decreases in
    let inside = find_in _ _ _ _ c.requires c.in_default.ensures c.if-i-j.false in
    (omega arith, short_more _ _ c.requires inside)

pub returns : goal.returns
returns t c = find_later _ _ _ _ c.requires c.in_default.ensures c.if-i-j.false _ c.search.ensures

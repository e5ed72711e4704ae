use Rattle.machine.proofs.Hunt.{start_below, found_empty, found_null, found_shut}
use mathlib.Core.Path.{sym, ◌∙◌}
use Rattle.machine.proofs.found.Goals as goal

pub returns-then-n-eq0 : goal.returns-then-n-eq0
returns-then-n-eq0 c = found_empty _ _ _ _ c.requires c.if-n-eq0.true

pub returns-then-empty_somewhere : goal.returns-then-empty_somewhere
returns-then-empty_somewhere c =
    found_null _ _ c.args.before.now _ c.if-n-eq0.false _ c.empty_somewhere.ensures c.if-empty_somewhere.true

pub shut-requires : goal.shut-requires
shut-requires c = start_below _ _ c.requires

pub returns-then-shut : goal.returns-then-shut
returns-then-shut c =
    found_shut _ _ c.args.before.now _ c.if-n-eq0.false _ c.empty_somewhere.ensures c.if-empty_somewhere.false (c.shut.ensures c.if-shut.true)

pub scan_down-requires : goal.scan_down-requires
scan_down-requires c =
    (c.requires, c.if-n-eq0.false, sym c.empty_somewhere.ensures ∙ c.if-empty_somewhere.false, tt)

pub returns-then-h-eq0 : goal.returns-then-h-eq0
returns-then-h-eq0 c = c.scan_down.ensures

pub scan_down-requires-2 : goal.scan_down-requires-2
scan_down-requires-2 c =
    (c.requires, c.if-n-eq0.false, sym c.empty_somewhere.ensures ∙ c.if-empty_somewhere.false, c.only.ensures)

pub returns : goal.returns
returns c = c.scan_down-2.ensures

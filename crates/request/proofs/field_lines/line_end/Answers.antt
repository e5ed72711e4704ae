use mathlib.Core.Path.{refl, sym, ◌∙◌}
use Rattle.cuts.proofs.Search.{came_end, came_found, came_skip, skip_next}
use Rattle.request.proofs.Ends.{break_at_cr}
use Rattle.request.proofs.field_lines.line_end.Goals as goal

pub loop-k-init : goal.loop-k-init
loop-k-init c = came_skip _ _ break_at_cr _ _ _ _ (record { inside = c.requires; same = refl }) c.place_of-k.ensures

pub returns-then-line_break_at : goal.returns-then-line_break_at
returns-then-line_break_at c = came_found _ _ _ _ c.loop-k.invariant c.loop-k-test.true (sym c.line_break_at.ensures ∙ c.if-line_break_at.true)

pub loop-k-preserved : goal.loop-k-preserved
loop-k-preserved c =
    skip_next _ _ break_at_cr _ _ _ _ c.loop-k.invariant c.loop-k-test.true (sym c.line_break_at.ensures ∙ c.if-line_break_at.false) c.place_of-k-in-loop-k.ensures

pub returns : goal.returns
returns c = came_end _ _ _ _ c.loop-k.invariant c.loop-k-test.false

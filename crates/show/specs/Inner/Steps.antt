-- What the contracts of private functions say: a row with patterns by the patterns' bytes.
use Rattle.std.specs.Prelude.{Bool, List, ℕ}
use Rattle.octets.specs.Lists.{pick}
use Rattle.request.specs.Request.{Request, request_lines}
use Rattle.spots.specs.Spots.{first_shown}
use Rattle.spots.specs.Inner.Steps.{field_spot, line_spot}
use Rattle.spots.specs.declared.Shown.{Shown}

-- over the body's lines or else the head's fields
unfoldable pub patterns_shown : Request → Bool → List ℕ → Bool → List ℕ → Shown
unfolding line_spot field_spot first_shown request_lines
patterns_shown q in_body h with c = pick in_body (first_shown (line_spot h with c) 0 (request_lines q)) (first_shown (field_spot h with c) 0 q.fields)

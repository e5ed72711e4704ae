-- The sessions that calls lead to: an opening, and from there any advances and reports, each with its own bytes.
use Rattle.std.specs.Prelude.{ℕ, List, T, ltb}
use Rattle.octets.specs.Lists.{every}
use Rattle.session.specs.Session.{open_session, report_session}
use Rattle.session.specs.declared.Session.{Session}
use Rattle.route.specs.Advance.{advance}

-- bytes are below 256
abbrev pub Bytes : List ℕ → Type 0
Bytes s = T (every (λ b. ltb b 256) s)

pub data Reached : Session → Type 0 where
  by_opening : (case : ℕ) → Reached (open_session case).session
  by_advance : {x : Session} (image request : List ℕ) → Bytes image → Bytes request → Reached x → Reached (advance x image request).session
  by_report : {x : Session} (n : ℕ) → Reached x → Reached (report_session x n).session

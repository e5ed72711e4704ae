-- What each case of the readers' answers says, in the paper's numbers.
use Rattle.std.specs.Prelude.{ℕ, ◌+◌, ◌*◌, ◌<◌, List, get_or, ◌≡◌, Result, Ok, Err}
use Rattle.cells.specs.Inner.Out.{Out, good, bad}
use Rattle.cells.specs.Inner.Answers.{number_of}
use Rattle.entries.specs.Inner.Places.{reading_members, has}
use Rattle.entries.specs.declared.Member.{Member}
use Rattle.cells.specs.declared.Refusal.{Refusal}

-- a membership and where it ends, or the refusal
abbrev pub member_out : ℕ → Result Member Refusal → Out (Member × ℕ)
member_out at (Ok m) = good (m, at + 4)
member_out at (Err e) = bad (number_of e.fault) e.place

-- What the memberships' reader leaves: where they end, and in the first places of `counts` how many each row has; or the refusal
abbrev pub Counted : Result ℕ Refusal → List ℕ → ℕ → ℕ → ℕ → List ℕ → Type 0
Counted (Ok e) s rows n at counts =
    (ms : List Member) × (reading_members s rows n at ≡ good (ms, e)) × ((r : ℕ) → r < rows → get_or counts r 0 ≡ has ms r) × (e ≡ at + 4 * n)
Counted (Err e) s rows n at counts = reading_members s rows n at ≡ bad (number_of e.fault) e.place

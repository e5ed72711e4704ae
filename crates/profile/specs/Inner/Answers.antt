-- What each case of the judgement says, in the paper's numbers, and how the judgement goes from a section on.
use Rattle.std.specs.Prelude.{ℕ, ◌+◌, List, ◌++◌, length, drop, ◌≡◌, leb, eqb, Result, Ok, Err}
use Rattle.cells.specs.Inner.Out.{Out, good, bad, must, ◌>>=◌, ◌>>◌}
use Rattle.cells.specs.Inner.Answers.{number_of}
use Rattle.cells.specs.declared.Refusal.{Refusal}
use Rattle.cells.specs.Inner.Places.{u8, word, counted, texts, offsets}
use Rattle.entries.specs.Inner.Places.{reading_rows, reading_members, reading_criteria, placed, has, spaced, row_numbers, member_numbers, criterion_numbers}
use Rattle.entries.specs.declared.Row.{Row}
use Rattle.entries.specs.declared.Member.{Member}
use Rattle.profile.specs.Written.{Entries}
use Rattle.profile.specs.Inner.Decoded.{layout}
use Rattle.profile.specs.declared.Layout.{Layout}

-- ---- the judgement, from a section on

unfoldable pub opening : List ℕ → Out ℕ
opening s = do
  must (leb (length s) 32768) 1 0
  edition ← u8 s 0
  must (eqb edition 1) 4 0
  counted s 1 1024

unfoldable pub criteria_on : List ℕ → List (List ℕ) → List Row → List Member → ℕ → ℕ → Out Entries
criteria_on s strs rows members n₂ at₄ = do
  n₄ ← counted s at₄ 64
  (criteria, end) ← reading_criteria s strs n₂ n₄ (at₄ + 2)
  must (eqb end (length s)) 3 end
  good (record { strings = strs; rows = rows; members = members; criteria = criteria })

unfoldable pub members_on : List ℕ → List (List ℕ) → List Row → ℕ → ℕ → ℕ → Out Entries
members_on s strs rows n₂ r₂ at₃ = do
  n₃ ← counted s at₃ 16384
  (members, at₄) ← reading_members s n₂ n₃ (at₃ + 2)
  placed (has members) n₂ 0 r₂
  criteria_on s strs rows members n₂ at₄

unfoldable pub rows_on : List ℕ → List (List ℕ) → ℕ → Out Entries
rows_on s strs at₂ = do
  n₂ ← counted s at₂ 2048
  (rows, at₃) ← reading_rows s strs n₂ (at₂ + 2)
  members_on s strs rows n₂ (at₂ + 2) at₃

-- the profile that a layout finds in an image
abbrev pub profile_at : List ℕ → List ℕ → Layout → Entries
profile_at s table y = record {
  strings = texts s y.strings table;
  rows = spaced (row_numbers s) 7 y.rows y.row_count;
  members = spaced (member_numbers s) 4 y.members y.member_count;
  criteria = spaced (criterion_numbers s) 15 y.criteria y.criterion_count;
}

abbrev pub judged_out : Result Layout Refusal → List ℕ → List ℕ → Out Entries
judged_out (Ok y) s table = good (profile_at s table y)
judged_out (Err e) s table = bad (number_of e.fault) e.place

-- the layout of an accepted image, and the table of its strings
abbrev pub Laid : Result Layout Refusal → List ℕ → List ℕ → List ℕ → Type 0
Laid (Ok y) s before table = (y ≡ layout s) × (table ≡ offsets s (word s 1) 3 ++ drop (word s 1) before)
Laid (Err e) s before table = Unit {0}

-- The judgement as the code goes, by places in the bytes; it keeps no string. The definition to believe is
-- `Judging.judge`; `proofs/Same` shows that both give the same number and place.
use Rattle.std.specs.Prelude.{ℕ, ◌+◌, List, length, leb, eqb}
use Rattle.profile.specs.Written.{Entries}
use Rattle.cells.specs.Inner.Out.{Out, good, ◌>>=◌, must, ◌>>◌}
use Rattle.cells.specs.Inner.Places.{u8, counted, reading_strings}
use Rattle.entries.specs.Inner.Places.{reading_rows, reading_members, has, placed, reading_criteria}

unfoldable pub judge_by_places : List ℕ → Out Entries
judge_by_places s = do
  must (leb (length s) 32768) 1 0
  edition ← u8 s 0
  must (eqb edition 1) 4 0
  n₁ ← counted s 1 1024
  (strs, at₂) ← reading_strings s n₁ 3
  n₂ ← counted s at₂ 2048
  (rows, at₃) ← reading_rows s strs n₂ (at₂ + 2)
  n₃ ← counted s at₃ 16384
  (members, at₄) ← reading_members s n₂ n₃ (at₃ + 2)
  placed (has members) n₂ 0 (at₂ + 2)
  n₄ ← counted s at₄ 64
  (criteria, end) ← reading_criteria s strs n₂ n₄ (at₄ + 2)
  must (eqb end (length s)) 3 end
  good (record { strings = strs; rows = rows; members = members; criteria = criteria })

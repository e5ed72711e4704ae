-- The rows, memberships and criteria of an image as the code reads them, by places in the bytes. The definition to believe is
-- profile `Judging`; profile `proofs/Same` shows that both give the same number and place.
use Rattle.std.specs.Prelude.{ℕ, zero, suc, ◌+◌, Bool, true, false, not, cond, ◌&&◌, ◌||◌, List, [], ◌∷◌, leb, ltb, eqb, Option, Some, None}
use Rattle.entries.specs.declared.Row.{Row}
use Rattle.entries.specs.declared.Member.{Member}
use Rattle.entries.specs.declared.Trigger.{Trigger}
use Rattle.entries.specs.declared.Criterion.{Criterion}
use Rattle.cells.specs.Inner.Out.{Out, good, ◌>>=◌, must, ◌>>◌}
use Rattle.cells.specs.Inner.Places.{byte, word, long, u16, u32, limited, many, counted, absent, named, named_or_absent, exactly}

-- ---- trigger rows

-- SessionCase: the case 0..3. Any other kind: a string index
unfoldable pub first_of_row : List ℕ → List (List ℕ) → ℕ → ℕ → Out ℕ
first_of_row s strs kind at = cond (eqb kind 3) (counted s at 3) (named s strs kind at)

-- SIPHeader and SessionDescription: the Content's index or 65535. Any other kind: 65535
unfoldable pub second_of_row : List ℕ → List (List ℕ) → ℕ → ℕ → Out ℕ
second_of_row s strs kind at = cond (eqb kind 2 || eqb kind 4) (named_or_absent s strs kind at) (exactly s absent at)

unfoldable pub reading_row : List ℕ → List (List ℕ) → ℕ → Out (Row × ℕ)
reading_row s strs at = do
  negated ← limited s at 1
  kind ← limited s (at + 1) 4
  first ← first_of_row s strs kind (at + 2)
  second ← second_of_row s strs kind (at + 4)
  set ← limited s (at + 6) 6
  good (record { negated = negated; kind = kind; first = first; second = second; set = set }, at + 7)

unfoldable pub reading_rows : List ℕ → List (List ℕ) → ℕ → ℕ → Out (List Row × ℕ)
reading_rows s strs n at = many (λ _. reading_row s strs) n at []

-- ---- memberships: strictly rising by row and then group

-- row r and group g come after (row, group)
abbrev pub after : ℕ → ℕ → ℕ → ℕ → Bool
after row group r g = ltb row r || (eqb row r && ltb group g)

-- they come after the last of those before, if there is one
abbrev pub follows : List Member → ℕ → ℕ → Bool
follows [] r g = true
follows (m ∷ []) r g = after m.row m.group r g
follows (m ∷ k ∷ ms) r g = follows (k ∷ ms) r g

unfoldable pub reading_member : List ℕ → ℕ → (ℕ → ℕ → Bool) → ℕ → Out (Member × ℕ)
reading_member s rows rises at = do
  r ← u16 s at
  must (ltb r rows) 4 at
  g ← u16 s (at + 2)
  must (rises r g) 4 at
  good (record { row = r; group = g }, at + 4)

unfoldable pub reading_members : List ℕ → ℕ → ℕ → ℕ → Out (List Member × ℕ)
reading_members s rows n at = many (λ before. reading_member s rows (follows before)) n at []

-- how many memberships row r has
unfoldable pub has : List Member → ℕ → ℕ
has [] r = 0
has (m ∷ ms) r = cond (eqb m.row r) 1 0 + has ms r

-- 1 to 8 memberships
abbrev pub few : ℕ → Bool
few c = leb 1 c && leb c 8

-- n rows from number r, the first at `at`, have so many each
unfoldable pub placed : (ℕ → ℕ) → ℕ → ℕ → ℕ → Out Unit
placed memberships zero r at = good tt
placed memberships (suc n) r at = do
  u ← must (few (memberships r)) 4 at
  placed memberships n (r + 1) (at + 7)

-- the memberships of so many rows, the first at `first`, which all have 1 to 8
unfoldable pub reading_placed : List ℕ → ℕ → ℕ → ℕ → ℕ → Out (List Member × ℕ)
reading_placed s rows n at first = do
  q ← reading_members s rows n at
  placed (has q.0) rows 0 first
  good q

-- ---- criteria

-- priority p stands among those before
abbrev pub stands : List Criterion → ℕ → Bool
stands [] p = false
stands (k ∷ ks) p = eqb k.priority p || stands ks p

-- form 2: no row. Otherwise 1 to 32 rows, in the table
abbrev pub right_count : ℕ → ℕ → ℕ → ℕ → Bool
right_count rows form first n = cond (eqb form 2) (eqb n 0) (leb 1 n && leb n 32 && leb (first + n) rows)

unfoldable pub row_count : List ℕ → ℕ → ℕ → ℕ → ℕ → Out ℕ
row_count s rows form first at = do
  n ← u16 s at
  must (right_count rows form first n) 4 at
  good n

unfoldable pub row_start : List ℕ → ℕ → ℕ → Out ℕ
row_start s form at = cond (eqb form 2) (exactly s 0 at) (u16 s at)

unfoldable pub trigger : List ℕ → ℕ → ℕ → Out Trigger
trigger s rows at = do
  form ← limited s at 2
  first ← row_start s form (at + 1)
  count ← row_count s rows form first (at + 3)
  good (record { form = form; first = first; count = count })

-- a criterion after its priority
unfoldable pub rest : List ℕ → List (List ℕ) → ℕ → ℕ → ℕ → Out (Criterion × ℕ)
rest s strs rows priority at = do
  part ← limited s (at + 4) 2
  trigger ← trigger s rows (at + 5)
  server ← named s strs 0 (at + 10)
  handling ← limited s (at + 12) 2
  info ← named_or_absent s strs 5 (at + 13)
  good (record { priority = priority; part = part; trigger = trigger; server = server; handling = handling; info = info }, at + 15)

unfoldable pub reading_criterion : List ℕ → List (List ℕ) → ℕ → (ℕ → Bool) → ℕ → Out (Criterion × ℕ)
reading_criterion s strs rows repeats at = do
  priority ← u32 s at
  must (not (repeats priority)) 6 at
  rest s strs rows priority at

unfoldable pub reading_criteria : List ℕ → List (List ℕ) → ℕ → ℕ → ℕ → Out (List Criterion × ℕ)
reading_criteria s strs rows n at = many (λ before. reading_criterion s strs rows (stands before)) n at []

-- ---- where the parts of an image lie: an item is read off its place

unfoldable pub spaced : {A : Type 0} → (ℕ → A) → ℕ → ℕ → ℕ → List A
spaced item width at zero = []
spaced item width at (suc n) = item at ∷ spaced item width (at + width) n

abbrev pub row_numbers : List ℕ → ℕ → Row
row_numbers s at = record { negated = byte s at; kind = byte s (at + 1); first = word s (at + 2); second = word s (at + 4); set = byte s (at + 6) }

abbrev pub member_numbers : List ℕ → ℕ → Member
member_numbers s at = record { row = word s at; group = word s (at + 2) }

abbrev pub trigger_numbers : List ℕ → ℕ → Trigger
trigger_numbers s at = record { form = byte s at; first = word s (at + 1); count = word s (at + 3) }

abbrev pub criterion_numbers : List ℕ → ℕ → Criterion
criterion_numbers s at =
    record { priority = long s at; part = byte s (at + 4); trigger = trigger_numbers s (at + 5); server = word s (at + 10); handling = byte s (at + 12); info = word s (at + 13) }

-- ---- what the contracts of the code cite

-- they come after the last one, if there is one
abbrev pub comes : Option Member → ℕ → ℕ → Bool
comes None r g = true
comes (Some m) r g = after m.row m.group r g

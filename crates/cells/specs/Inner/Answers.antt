-- What each case of an answer says, in the paper's numbers, and what the table of the strings holds.
use Rattle.std.specs.Prelude.{ℕ, false, ◌≤◌, ◌<◌, List, ◌++◌, length, get_or, drop, ◌≡◌, Result, Ok, Err}
use Rattle.cells.specs.Inner.Out.{Out, good, bad}
use Rattle.cells.specs.Inner.Places.{reading_strings, texts, Inside, text_at, uses_of, offsets, past}
use Rattle.cells.specs.declared.Fault.{Fault}
use Rattle.cells.specs.declared.Fault.TheVariants.{TooLong, TooShort, Trailing, OutOfRange, WrongString, RepeatedPriority}
use Rattle.cells.specs.declared.Refusal.{Refusal}
use Rattle.cells.specs.declared.Suits.{Suits}

-- the paper's refusal number
abbrev pub number_of : Fault → ℕ
number_of TooLong = 1
number_of TooShort = 2
number_of Trailing = 3
number_of OutOfRange = 4
number_of WrongString = 5
number_of RepeatedPriority = 6

-- what was read, or the refusal with its number and place
abbrev pub field_out : {A : Type 0} → Result A Refusal → Out A
field_out (Ok v) = good v
field_out (Err e) = bad (number_of e.fault) e.place

-- What the strings' reader leaves: where they end, and the table with their offsets in its first n places; or the refusal
abbrev pub Tabled : Result ℕ Refusal → List ℕ → ℕ → List ℕ → Type 0
Tabled (Ok e) s n table = (reading_strings s n 3 ≡ good (texts s n table, e)) × Inside s n table × (e ≤ 32768) × (length table ≡ 1024)
Tabled (Err e) s n table = reading_strings s n 3 ≡ bad (number_of e.fault) e.place

-- and the table holds the places of the strings, and beyond them what it held
abbrev pub Filled : Result ℕ Refusal → List ℕ → ℕ → List ℕ → List ℕ → Type 0
Filled (Ok e) s n before table = (table ≡ offsets s n 3 ++ drop n before) × (e ≡ past s n 3)
Filled (Err e) s n before table = Unit {0}

-- a table of n string offsets into s
pub record Table (s : List ℕ) (n : ℕ) (table : List ℕ) : Type 0 where
  pub count : n ≤ 1024
  pub long : length table ≡ 1024
  pub inside : Inside s n table

-- the uses of no string
abbrev pub no_use : Suits
no_use = record { server = false; method = false; pattern = false }

-- and what each string may be used for
pub record Known (s : List ℕ) (n : ℕ) (table : List ℕ) (uses : List Suits) : Type 0 where
  pub tabled : Table s n table
  pub each : length uses ≡ 1024
  pub tells : (i : ℕ) → i < n → get_or uses i no_use ≡ uses_of (text_at s (get_or table i 0))

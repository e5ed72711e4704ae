-- The texts of change request 3: what is read from one, and where one goes wrong, is what the grammar says.
use mathlib.Core.Path.{◌≡◌, subst}
use Prim.Native.Nat.{ℕ}
use native.Mathlib.Omega.{arith}
use mathlib.Core.List.{List}
use lib.Dec.{T}
use Rattle.grammar.specs.Grammar.{WrongAt}
use Rattle.grammar.specs.Reading.{Read, read_as, wrong, twice, read_text}
use Rattle.grammar.specs.Inner.Made.{forget}
use Rattle.grammar.proofs.Sound.{Says, ReadsOnly, sound, solid}
use Rattle.grammar.proofs.Meaning.{meaning}
use Rattle.scan.specs.Criteria.{Criterion}
use Rattle.scan.specs.Table.{profile_text}
use Rattle.scan.specs.Inner.Turns.{scan_out}
use Rattle.std.specs.Prelude.{⊤, Result, Ok, Err}

profile_text_sound : T (sound profile_text)
unfolding sound solid profile_text
profile_text_sound = tt

pub profile_text_says : (s : List ℕ) → Says profile_text s (read_text profile_text s)
profile_text_says s = meaning profile_text profile_text_sound s

-- ---- what the scanner answers

-- a whole text is read in one way; else it goes wrong "at the first byte with which no text of this subset goes on, or at the end if more is needed"
abbrev pub Scanned : List ℕ → Result ⊤ ℕ → Type 0
Scanned s (Ok u) = (cs : List Criterion) × ReadsOnly profile_text s cs
Scanned s (Err n) = WrongAt profile_text s n

scanned_by : (s : List ℕ) (x : Read (List Criterion)) (r : Result ⊤ ℕ) → Says profile_text s x → scan_out r ≡ forget x → Scanned s r
scanned_by s (read_as cs) (Ok u) v e = (cs, v)
scanned_by s (read_as cs) (Err n) v e = let z : ◌≡◌ {A = ℕ} 0 1 = cc in absurd (omega arith)
scanned_by s (wrong m) (Ok u) v e = let z : ◌≡◌ {A = ℕ} 0 1 = cc in absurd (omega arith)
scanned_by s (wrong m) (Err n) v e = let z : m ≡ n = cc in subst (WrongAt profile_text s) z v
scanned_by s twice (Ok u) v e = let z : ◌≡◌ {A = ℕ} 0 1 = cc in absurd (omega arith)
scanned_by s twice (Err n) v e = let z : ◌≡◌ {A = ℕ} 0 1 = cc in absurd (omega arith)

pub scanned : (s : List ℕ) (r : Result ⊤ ℕ) → scan_out r ≡ forget (read_text profile_text s) → Scanned s r
scanned s r e = scanned_by s (read_text profile_text s) r (profile_text_says s) e

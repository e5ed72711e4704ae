-- When entries may be written as an image, and what that image means; `proofs/Writing` shows that it is accepted and means this.
use Rattle.std.specs.Prelude.{Bool, not, cond, ◌&&◌, ◌||◌, ℕ, ◌+◌, ◌≤◌, ◌<◌, zero, suc, List, [], ◌∷◌, ◌++◌, map, length, get_or, T, leb, ltb, eqb}
use Rattle.profile.specs.Image as image
use Rattle.profile.specs.Image.{Stored, accepted}
use Rattle.profile.specs.Judging.{first_ok}
use Rattle.cells.specs.Inner.Places.{absent, usable}
use Rattle.entries.specs.Inner.Places.{follows, has, stands, right_count}
use Rattle.profile.specs.Inner.Decoded.{test_from, member_with, criterion_with}
use Rattle.entries.specs.declared.Row.{Row}
use Rattle.entries.specs.declared.Member.{Member}
use Rattle.entries.specs.declared.Criterion.{Criterion}
use Rattle.std.proofs.Common.{arith}
use Rattle.octets.specs.Lists.{text}
use Rattle.basic.specs.Reading.{read_pattern}
use Rattle.basic.specs.Inner.Judged.{is_pattern}
use Rattle.profile.specs.Written.{Entries, joined, string, written, row_of, member_of, criterion_of}

-- ---- what may be written

-- string i is in the table and right for its use; or "65535 for absent"
abbrev pub names : List (List ℕ) → ℕ → ℕ → Bool
names strs purpose i = ltb i (length strs) && usable purpose (get_or strs i [])

abbrev pub names_or_none : List (List ℕ) → ℕ → ℕ → Bool
names_or_none strs purpose i = eqb i absent || names strs purpose i

-- "length (0..1,024)"
abbrev pub RightString : List ℕ → Type 0
RightString t = length t ≤ 1024

-- "first, 2 bytes: string index, or for kind 3 the case 0..3; second, 2 bytes: Content string index or 65535 for absent, always 65535 for
-- kinds 0, 1, 3"
pub record RightRow (strs : List (List ℕ)) (r : Row) : Type 0 where
  pub negated : r.negated ≤ 1
  pub kind : r.kind ≤ 4
  pub first : T (cond (eqb r.kind 3) (leb r.first 3) (names strs r.kind r.first))
  pub second : T (cond (eqb r.kind 2 || eqb r.kind 4) (names_or_none strs r.kind r.second) (eqb r.second absent))
  pub set : r.set ≤ 6

-- "strictly rising by row and then group"
pub record RightMember (rows : ℕ) (before : List Member) (m : Member) : Type 0 where
  pub row : m.row < rows
  pub group : m.group < 65536
  pub rises : T (follows before m.row m.group)

-- "Form 2 has first row and row count 0; otherwise the count is 1..32 and the rows lie in the table",
-- "No two criteria have the same priority."
pub record RightCriterion (strs : List (List ℕ)) (rows : ℕ) (before : List Criterion) (c : Criterion) : Type 0 where
  pub priority : c.priority < 4294967296
  pub new : T (not (stands before c.priority))
  pub part : c.part ≤ 2
  pub form : c.trigger.form ≤ 2
  pub first : T (first_ok c.trigger.form c.trigger.first)
  pub count : T (right_count rows c.trigger.form c.trigger.first c.trigger.count)
  pub server : T (names strs 0 c.server)
  pub handling : c.handling ≤ 2
  pub info : T (names_or_none strs 5 c.info)

-- each entry is right, by those before it
abbrev pub InTurn : {A : Type 0} → (List A → A → Type 0) → List A → List A → Type 0
InTurn P before [] = Unit {0}
InTurn P before (a ∷ l) = P before a × InTurn P (before ++ (a ∷ [])) l

-- "Strings (0..1,024)", "Trigger rows (0..2,048)", "Memberships (0..16,384)", "Every row has 1 to 8", "Criteria (0..64)",
-- "At most 32,768 bytes"
pub record Writable (p : Entries) : Type 0 where
  pub strings_few : length p.strings ≤ 1024
  pub strings : InTurn (λ _. RightString) [] p.strings
  pub rows_few : length p.rows ≤ 2048
  pub rows : InTurn (λ _. RightRow p.strings) [] p.rows
  pub members_few : length p.members ≤ 16384
  pub members : InTurn (RightMember (length p.rows)) [] p.members
  pub placed : (r : ℕ) → r < length p.rows → (1 ≤ has p.members r) × (has p.members r ≤ 8)
  pub criteria_few : length p.criteria ≤ 64
  pub criteria : InTurn (RightCriterion p.strings (length p.rows)) [] p.criteria
  pub size : length (written p) ≤ 32768

-- ---- what it means

-- the strings, the first one's length at a place
abbrev pub strings_from : ℕ → List (List ℕ) → List Stored
strings_from at [] = []
strings_from at (t ∷ l) = record { start = at + 2; bytes = t } ∷ strings_from (at + 2 + length t) l

-- the rows, the first at a place
abbrev pub rows_from : List Stored → ℕ → List Row → List image.Row
rows_from strs at [] = []
rows_from strs at (r ∷ l) = record { place = at; negated = eqb r.negated 1; test = test_from strs r } ∷ rows_from strs (at + 7) l

-- the strings begin after the edition and their count, the rows after the strings and the rows' count
abbrev pub strings_of : Entries → List Stored
strings_of p = strings_from 3 p.strings

abbrev pub rows_place : Entries → ℕ
rows_place p = 3 + length (joined string p.strings) + 2

-- the profile that its image holds
unfoldable pub meant : Entries → image.Profile
unfolding test_from criterion_with
meant p = record {
  rows = rows_from (strings_of p) (rows_place p) p.rows;
  members = map member_with p.members;
  criteria = map (criterion_with (strings_of p)) p.criteria;
}

-- ---- a worked one: one criterion for a From field

abbrev pub asking_from : Entries
asking_from = record {
  strings = text "sip:a" ∷ text "From" ∷ [];
  rows = row_of 0 2 1 65535 ∷ [];
  members = member_of 0 0 ∷ [];
  criteria = criterion_of 5 0 0 1 0 0 ∷ [];
}

asking_from_placed : (r : ℕ) → r < 1 → (1 ≤ has asking_from.members r) × (has asking_from.members r ≤ 8)
unfolding has
asking_from_placed zero h = (omega arith, omega arith)
asking_from_placed (suc r) h = absurd (omega arith)

pub asking_from_sound : Writable asking_from
unfolding written usable is_pattern read_pattern
asking_from_sound = record {
  strings_few = omega arith;
  strings = (omega arith, (omega arith, tt));
  rows_few = omega arith;
  rows = (record { negated = omega arith; kind = omega arith; first = tt; second = tt; set = omega arith }, tt);
  members_few = omega arith;
  members = (record { row = omega arith; group = omega arith; rises = tt }, tt);
  placed = asking_from_placed;
  criteria_few = omega arith;
  criteria = (
    record {
      priority = omega arith;
      new = tt;
      part = omega arith;
      form = omega arith;
      first = tt;
      count = tt;
      server = tt;
      handling = omega arith;
      info = tt;
    },
    tt,
  );
  size = omega arith;
}

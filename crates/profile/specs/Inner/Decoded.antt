-- What an accepted image holds, by places: where its sections lie, and what its strings, rows, memberships and criteria are.
-- proofs/Same shows that this is what Judging reads.
use Rattle.std.specs.Prelude.{false, ℕ, ◌+◌, ◌*◌, List, [], map, get_or, take, eqb}
use Rattle.std.proofs.Math.Option.{Option, none, some}
use Rattle.octets.specs.Lists.{pick}
use Rattle.basic.specs.Pattern.{Pattern}
use Rattle.basic.specs.Reading.{read_pattern}
use Rattle.cells.specs.Inner.Out.{Out, good, bad}
use Rattle.profile.specs.Image as image
use Rattle.profile.specs.Image.{Stored, Test, request_uri, method, header, session_case, description, Judged, accepted, refused}
use Rattle.profile.specs.Judging.{as_handled}
use Rattle.profile.specs.Written.{Entries}
use Rattle.cells.specs.Inner.Places.{offsets, past, byte, word, text_at}
use Rattle.entries.specs.Inner.Places.{spaced, row_numbers, member_numbers, criterion_numbers}
use Rattle.entries.specs.declared.Row.{Row}
use Rattle.entries.specs.declared.Member.{Member}
use Rattle.entries.specs.declared.Criterion.{Criterion}
use Rattle.profile.specs.declared.Layout.{Layout}

-- ---- where things stand

-- the sections' first entries and their numbers of entries
unfoldable pub layout : List ℕ → Layout
unfolding past
layout s =
    let rows : ℕ = past s (word s 1) 3 in
    let members : ℕ = rows + 2 + 7 * word s rows in
    let criteria : ℕ = members + 2 + 4 * word s members in
    record {
      edition = byte s 0;
      strings = word s 1;
      rows = rows + 2;
      row_count = word s rows;
      members = members + 2;
      member_count = word s members;
      criteria = criteria + 2;
      criterion_count = word s criteria;
    }

-- ---- what they are

-- a string at the place of its length
abbrev pub stored : List ℕ → ℕ → Stored
stored s o = record { start = o + 2; bytes = text_at s o }

-- all strings of the image
unfoldable pub strings : List ℕ → List Stored
unfolding offsets
strings s = map (stored s) (offsets s (word s 1) 3)

-- those that a table names
abbrev pub stored_in : List ℕ → ℕ → List ℕ → List Stored
stored_in s n table = map (stored s) (take n table)

abbrev pub nothing : Stored
nothing = record { start = 0; bytes = [] }

-- string i
abbrev pub string_of : List Stored → ℕ → Stored
string_of strs i = get_or strs i nothing

-- the pattern that is read, or one that meets every text where none is
abbrev pub or_empty : Option Pattern → Pattern
or_empty none = record { at_start = false; elems = []; at_end = false }
or_empty (some p) = p

-- the pattern of string i
unfoldable pub pattern_of : List Stored → ℕ → Pattern
unfolding read_pattern
pattern_of strs i = or_empty (read_pattern (string_of strs i).bytes)

-- "Content string index or 65535 for absent"
abbrev pub or_absent : {A : Type 0} → (ℕ → A) → ℕ → Option A
or_absent f i = pick (eqb i 65535) none (some (f i))

-- a row's test, by kind
unfoldable pub test_from : List Stored → Row → Test
unfolding pattern_of
test_from strs r =
    pick (eqb r.kind 0) (request_uri (string_of strs r.first).bytes)
    (pick (eqb r.kind 1) (method (string_of strs r.first).bytes r.set)
    (pick (eqb r.kind 2) (header (pattern_of strs r.first) (or_absent (pattern_of strs) r.second))
    (pick (eqb r.kind 3) (session_case r.first)
    (description (pattern_of strs r.first) (or_absent (pattern_of strs) r.second)))))

-- the row at a place
unfoldable pub row_from : List Stored → List ℕ → ℕ → image.Row
unfolding test_from
row_from strs s at = record { place = at; negated = eqb (byte s at) 1; test = test_from strs (row_numbers s at) }

-- a membership from its numbers
abbrev pub member_with : Member → image.Member
member_with m = record { row = m.row; group = m.group }

-- the membership at a place
abbrev pub member_from : List ℕ → ℕ → image.Member
member_from s at = member_with (member_numbers s at)

-- a criterion from its numbers
unfoldable pub criterion_with : List Stored → Criterion → image.Criterion
criterion_with strs c = record {
  priority = c.priority;
  part = c.part;
  form = c.trigger.form;
  first = c.trigger.first;
  count = c.trigger.count;
  server = string_of strs c.server;
  handling = as_handled c.handling;
  info = or_absent (string_of strs) c.info;
}

-- the criterion at a place
unfoldable pub criterion_from : List Stored → List ℕ → ℕ → image.Criterion
unfolding criterion_with
criterion_from strs s at = criterion_with strs (criterion_numbers s at)

-- ---- the whole

-- the profile that stands in an image
unfoldable pub profile_in : List ℕ → image.Profile
unfolding layout strings row_from criterion_from spaced
profile_in s =
    let y : Layout = layout s in
    record {
      rows = spaced (row_from (strings s) s) 7 y.rows y.row_count;
      members = spaced (member_from s) 4 y.members y.member_count;
      criteria = spaced (criterion_from (strings s) s) 15 y.criteria y.criterion_count;
    }

-- the judgement by places, as a judgement
abbrev pub judged_by : List ℕ → Out Entries → Judged
judged_by s (good p) = accepted (profile_in s)
judged_by s (bad n place) = refused n place

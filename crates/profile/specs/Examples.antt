-- Worked images: document 01's two, and a fault at each place that can be got wrong. One list, one claim.
use Rattle.std.specs.Prelude.{Bool, true, false, ◌&&◌, ℕ, zero, suc, List, [], ◌∷◌, ◌++◌, T, eqb}
use Rattle.octets.specs.Lists.{text, every, same}
use Rattle.profile.specs.Image.{Judged, accepted, refused}
use Rattle.profile.specs.Judging.{judge}
use Rattle.profile.specs.Written as bytes
use Rattle.profile.specs.Written.{Entries, row_of, member_of, criterion_of, two, string, section, written}

-- ---- writing images

-- their bytes, for images that are cut or wrong
abbrev row : ℕ → ℕ → ℕ → ℕ → List ℕ
row negated kind first second = bytes.row (row_of negated kind first second)

abbrev membership : ℕ → ℕ → List ℕ
membership r g = bytes.membership (member_of r g)

abbrev criterion : ℕ → ℕ → ℕ → ℕ → ℕ → ℕ → List ℕ
criterion priority form first count server handling = bytes.criterion (criterion_of priority form first count server handling)

-- the empty profile of document 01
abbrev pub empty_profile : List ℕ
empty_profile = 0x01 ∷ 0x00 ∷ 0x00 ∷ 0x00 ∷ 0x00 ∷ 0x00 ∷ 0x00 ∷ 0x00 ∷ 0x00 ∷ []

-- "One criterion, priority 5, no trigger, server `sip:a`, terminated, is whole"
abbrev pub one_criterion : List ℕ
one_criterion =
    0x01 ∷ 0x00 ∷ 0x01 ∷ 0x00 ∷ 0x05 ∷ 0x73 ∷ 0x69 ∷ 0x70 ∷ 0x3A ∷ 0x61 ∷ 0x00 ∷ 0x00 ∷ 0x00 ∷ 0x00 ∷ 0x00 ∷ 0x01
    ∷ 0x00 ∷ 0x00 ∷ 0x00 ∷ 0x05 ∷ 0x02 ∷ 0x02 ∷ 0x00 ∷ 0x00 ∷ 0x00 ∷ 0x00 ∷ 0x00 ∷ 0x00 ∷ 0x01 ∷ 0xFF ∷ 0xFF ∷ []

-- the profiles of these two
abbrev nothing : Entries
nothing = record { strings = []; rows = []; members = []; criteria = [] }

abbrev one : Entries
one = record { strings = text "sip:a" ∷ []; rows = []; members = []; criteria = criterion_of 5 2 0 0 0 1 ∷ [] }

-- strings `A`, `[` (no pattern), the empty one, `a b` (no token): up to place 16, where the row count stands
abbrev strings : List ℕ
strings = 1 ∷ section string (text "A" ∷ text "[" ∷ text "" ∷ text "a b" ∷ [])

-- with one row, from 18 on
abbrev with_row : List ℕ → List ℕ
with_row r = strings ++ two 1 ++ r

-- Method `A`
abbrev a_row : List ℕ
a_row = row 0 1 0 65535

-- two such rows, from 18 and 25 on, and the memberships from 34 on
abbrev with_members : ℕ → List ℕ → List ℕ
with_members n m = strings ++ two 2 ++ a_row ++ a_row ++ two n ++ m

-- one row with its membership, and the criteria from 33 on
abbrev pub with_criteria : ℕ → List ℕ → List ℕ
with_criteria n c = with_row a_row ++ two 1 ++ membership 0 0 ++ two n ++ c

-- groups 0 to n - 1 of row 0
abbrev groups : ℕ → List ℕ
groups zero = []
groups (suc n) = groups n ++ membership 0 n

-- so many zeros
abbrev zeros : ℕ → List ℕ
zeros zero = []
zeros (suc n) = 0 ∷ zeros n

-- ---- the list

-- a profile with its bytes; accepted; accepted, with this default in every criterion; a fault's number and place
pub data Example : Type 0 where
  writes : Entries → List ℕ → Example
  is_accepted : List ℕ → Example
  has_default : ℕ → List ℕ → Example
  fault_at : ℕ → ℕ → List ℕ → Example

abbrev fine : Judged → Bool
fine (accepted p) = true
fine (refused n place) = false

abbrev all_by : Judged → ℕ → Bool
all_by (accepted p) handling = every (λ c. eqb c.handling handling) p.criteria
all_by (refused n place) handling = false

abbrev faulty : Judged → ℕ → ℕ → Bool
faulty (accepted p) n place = false
faulty (refused m at) n place = eqb m n && eqb at place

unfoldable pub right : Example → Bool
unfolding judge written
right (writes p s) = same (written p) s
right (is_accepted s) = fine (judge s)
right (has_default handling s) = all_by (judge s) handling
right (fault_at n place s) = faulty (judge s) n place

unfoldable pub examples : List Example
examples =
    writes nothing empty_profile
    ∷ writes one one_criterion
    ∷ is_accepted empty_profile
    ∷ is_accepted one_criterion
    -- number 1 before all; number 2 at the image's length
    ∷ fault_at 1 0 (zeros 32769)
    ∷ fault_at 4 0 (zeros 32768)
    ∷ fault_at 2 0 []
    ∷ fault_at 2 1 (1 ∷ [])
    ∷ fault_at 4 0 (2 ∷ [])
    -- strings
    ∷ fault_at 4 1 (1 ∷ two 1025)
    ∷ fault_at 4 3 (1 ∷ two 1 ++ two 1025)
    ∷ fault_at 2 6 (1 ∷ two 1 ++ two 5 ++ text "a")
    -- rows: each field as soon as it is whole
    ∷ fault_at 4 18 (with_row (9 ∷ []))
    ∷ fault_at 4 19 (with_row (0 ∷ 5 ∷ []))
    ∷ fault_at 2 21 (with_row (0 ∷ 1 ∷ 0 ∷ []))
    ∷ fault_at 4 20 (with_row (row 0 0 4 65535))
    ∷ fault_at 4 20 (with_row (row 0 0 65535 65535))
    ∷ fault_at 5 20 (with_row (row 0 0 2 65535))
    ∷ fault_at 5 20 (with_row (row 0 1 3 65535))
    ∷ fault_at 5 20 (with_row (row 0 2 1 65535))
    ∷ fault_at 5 20 (with_row (row 0 4 2 65535))
    ∷ fault_at 4 20 (with_row (row 0 3 4 65535))
    ∷ fault_at 5 20 (with_row (row 0 1 3 0))
    ∷ fault_at 4 22 (with_row (row 0 1 0 0))
    ∷ fault_at 4 22 (with_row (row 0 2 0 9))
    ∷ fault_at 5 22 (with_row (row 0 2 0 1))
    ∷ fault_at 4 24 (with_row (bytes.row (record { negated = 0; kind = 1; first = 0; second = 65535; set = 7 })))
    -- memberships: the row at the row, the order at the group, one lacking or a ninth after the section
    ∷ fault_at 4 34 (with_members 1 (two 2))
    ∷ fault_at 4 38 (with_members 2 (membership 1 0 ++ membership 0 0))
    ∷ fault_at 2 40 (with_members 2 (membership 1 0 ++ two 0))
    ∷ fault_at 4 38 (with_members 3 (membership 0 0 ++ membership 0 0))
    ∷ fault_at 4 25 (with_members 1 (membership 0 0))
    ∷ is_accepted (with_row a_row ++ two 8 ++ groups 8 ++ two 0)
    ∷ fault_at 4 18 (with_row a_row ++ two 9 ++ groups 9 ++ two 0)
    -- criteria
    ∷ fault_at 4 31 (with_criteria 65 [])
    ∷ is_accepted (with_criteria 1 (criterion 5 0 0 1 0 2))
    -- default absent, "read as 0"
    ∷ has_default 0 (with_criteria 1 (criterion 5 0 0 1 0 2))
    ∷ has_default 1 (with_criteria 1 (criterion 5 0 0 1 0 1))
    ∷ fault_at 4 41 (with_criteria 1 (criterion 5 0 1 1 0 0))
    ∷ fault_at 4 41 (with_criteria 1 (criterion 5 1 0 0 0 0))
    ∷ fault_at 4 39 (with_criteria 1 (criterion 5 2 1 0 0 0))
    ∷ fault_at 4 41 (with_criteria 1 (criterion 5 2 0 1 0 0))
    ∷ fault_at 4 43 (with_criteria 1 (criterion 5 2 0 0 65535 0))
    ∷ fault_at 5 43 (with_criteria 1 (criterion 5 2 0 0 2 0))
    ∷ fault_at 4 45 (with_criteria 1 (criterion 5 2 0 0 0 3))
    -- a repeated priority, at the later one and before its other fields
    ∷ fault_at 6 48 (with_criteria 2 (criterion 5 2 0 0 0 0 ++ criterion 5 2 0 0 0 0))
    ∷ fault_at 6 48 (with_criteria 3 (criterion 5 2 0 0 0 0 ++ criterion 5 9 0 0 0 0))
    ∷ fault_at 2 51 (with_criteria 2 (criterion 5 2 0 0 0 0 ++ (0 ∷ 0 ∷ 0 ∷ [])))
    -- nothing follows
    ∷ fault_at 3 33 (with_criteria 0 (7 ∷ 7 ∷ []))
    ∷ []

-- every example is right
pub all_right : T (every right examples)
unfolding right examples
all_right = tt

-- The bytes of a profile image that is written from its entries (document 01, "Profile image"): what worked images are made with.
use Rattle.std.specs.Prelude.{ℕ, ◌/◌, ◌%◌, List, [], ◌∷◌, ◌++◌, length}
use Rattle.entries.specs.declared.Row.{Row}
use Rattle.entries.specs.declared.Trigger.{Trigger}
use Rattle.entries.specs.declared.Member.{Member}
use Rattle.entries.specs.declared.Criterion.{Criterion}

-- ---- what is written

-- the entries of the four sections, as their numbers say them
pub record Entries : Type 0 where
  pub strings : List (List ℕ)
  pub rows : List Row
  pub members : List Member
  pub criteria : List Criterion

-- a row's numbers: negated, kind, first, second, no registration set
abbrev pub row_of : ℕ → ℕ → ℕ → ℕ → Row
row_of negated kind first second = record { negated = negated; kind = kind; first = first; second = second; set = 0 }

-- a membership's: row, group
abbrev pub member_of : ℕ → ℕ → Member
member_of r g = record { row = r; group = g }

-- a criterion's: priority, part absent, the form, first row, row count, server string, default handling, no information
abbrev pub criterion_of : ℕ → ℕ → ℕ → ℕ → ℕ → ℕ → Criterion
criterion_of priority form first count server handling =
    let trigger : Trigger = record { form = form; first = first; count = count } in
    record { priority = priority; part = 2; trigger = trigger; server = server; handling = handling; info = 65535 }

-- ---- the bytes

-- "Integers are big-endian": two bytes, and four
abbrev pub two : ℕ → List ℕ
two n = n / 256 % 256 ∷ n % 256 ∷ []

abbrev pub four : ℕ → List ℕ
four n = two (n / 65536) ++ two (n % 65536)

-- "2-byte length (0..1,024), bytes"
abbrev pub string : List ℕ → List ℕ
string t = two (length t) ++ t

-- "negated; kind; first, 2 bytes; second, 2 bytes; registration set, 1 byte"
abbrev pub row : Row → List ℕ
row r = r.negated ∷ r.kind ∷ two r.first ++ two r.second ++ (r.set ∷ [])

-- "row (2 bytes), group (2 bytes)"
abbrev pub membership : Member → List ℕ
membership m = two m.row ++ two m.group

-- "priority (4); profile part; form; first row (2); row count (2); server string (2); default handling; service information string (2)"
abbrev pub criterion : Criterion → List ℕ
criterion c =
    four c.priority ++ (c.part ∷ c.trigger.form ∷ []) ++ two c.trigger.first ++ two c.trigger.count
    ++ two c.server ++ (c.handling ∷ []) ++ two c.info

-- entries one after the other
abbrev pub joined : {A : Type 0} → (A → List ℕ) → List A → List ℕ
joined bytes [] = []
joined bytes (a ∷ l) = bytes a ++ joined bytes l

-- a section, "after a 2-byte count"
abbrev pub section : {A : Type 0} → (A → List ℕ) → List A → List ℕ
section bytes l = two (length l) ++ joined bytes l

-- "First byte: edition, 1. Then four sections in this order"
unfoldable pub written : Entries → List ℕ
written p =
    1 ∷ (section string p.strings ++ (section row p.rows
    ++ (section membership p.members ++ section criterion p.criteria)))

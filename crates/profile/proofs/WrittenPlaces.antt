-- Where the sections of a written image begin, and what stands from there on.
use mathlib.Core.Path.{◌≡◌, refl, ap, ◌∙◌}
use Prim.Native.Nat.{ℕ, ◌+◌, ◌*◌, ◌≤◌, ◌<◌}
use native.Mathlib.Nat.{mul-suc}
use native.Mathlib.Omega.{arith}
use mathlib.Core.List.{List, [], ◌∷◌, ◌++◌}
use lib.ListN.{length, length-append, length-drop}
use Rattle.octets.proofs.Each.{Each}
use Rattle.profile.specs.Written.{Entries, string, row, membership, criterion, joined, section, written}
use Rattle.profile.proofs.WrittenFields.{Rest, further, after}
use Rattle.profile.proofs.WrittenSections.{beyond}

-- the places after the strings, the rows and the memberships
abbrev pub strings_end : Entries → ℕ
strings_end p = beyond string p.strings 1

abbrev pub rows_end : Entries → ℕ
rows_end p = beyond row p.rows (strings_end p)

abbrev pub members_end : Entries → ℕ
members_end p = beyond membership p.members (rows_end p)

-- what stands there
abbrev pub after_rows : Entries → List ℕ
after_rows p = section membership p.members ++ section criterion p.criteria

abbrev pub after_strings : Entries → List ℕ
after_strings p = section row p.rows ++ after_rows p

-- entries of one width
joined_width : {A : Type 0} (bytes : A → List ℕ) (k : ℕ) → ((a : A) → length (bytes a) ≡ k) → (l : List A) → length (joined bytes l) ≡ k * length l
joined_width bytes k h [] = omega arith
joined_width bytes k h (a ∷ l) = length-append (bytes a) (joined bytes l) ∙ omega (arith, h a, joined_width bytes k h l, mul-suc k (length l))

pub rows_width : (p : Entries) → rows_end p ≡ strings_end p + 2 + 7 * length p.rows
rows_width p = ap (λ (k : ℕ). strings_end p + 2 + k) (joined_width row 7 (λ r. refl) p.rows)

pub members_width : (p : Entries) → members_end p ≡ rows_end p + 2 + 4 * length p.members
members_width p = ap (λ (k : ℕ). rows_end p + 2 + k) (joined_width membership 4 (λ m. refl) p.members)

-- the counts, the strings' lengths and the memberships' rows have a place in their two bytes
pub record Countable (p : Entries) : Type 0 where
  pub strings_few : length p.strings < 65536
  pub strings : Each (λ t. length t < 65536) p.strings
  pub rows_few : length p.rows < 65536
  pub members_few : length p.members < 65536
  pub members : Each (λ m. m.row < 65536) p.members

-- over a section
over : {A : Type 0} (s : List ℕ) (bytes : A → List ℕ) (at : ℕ) (l : List A) (t : List ℕ) → Rest s at (section bytes l ++ t) → Rest s (beyond bytes l at) t
over s bytes at l t r = after s (at + 2) (joined bytes l) t (further r 2 (omega arith))

module _ (s : List ℕ) (p : Entries) (all : Rest s 0 (written p)) where
  pub at_strings : Rest s 1 (section string p.strings ++ after_strings p)
  unfolding written
  at_strings = further all 1 (omega arith)

  pub at_rows : Rest s (strings_end p) (after_strings p)
  at_rows = over s string 1 p.strings (after_strings p) at_strings

  pub at_members : Rest s (rows_end p) (after_rows p)
  at_members = over s row (strings_end p) p.rows (after_rows p) at_rows

  pub at_criteria : Rest s (members_end p) (section criterion p.criteria)
  at_criteria = over s membership (rows_end p) p.members (section criterion p.criteria) at_members

-- ---- an image of at most 65,535 bytes has no larger count

strings_count : (l : List (List ℕ)) → length l ≤ length (joined string l)
strings_count [] = omega arith
strings_count (t ∷ l) = omega (arith, length-append (string t) (joined string l), strings_count l)

strings_each : (l : List (List ℕ)) (n : ℕ) → length (joined string l) < n → Each (λ t. length t < n) l
strings_each [] n h = tt
strings_each (t ∷ l) n h = let sum = length-append (string t) (joined string l) in (omega arith, strings_each l n (omega arith))

module _ (p : Entries) (short : length (written p) ≤ 65535) where
  whole : Rest (written p) 0 (written p)
  whole = record { inside = omega arith; is = refl }

  ends : members_end p ≤ 65535
  ends = omega (arith, (at_criteria (written p) p whole).inside)

  pub countable : Each (λ m. m.row < 65536) p.members → Countable p
  countable rows = record {
    strings_few = omega (arith, ends, rows_width p, members_width p, strings_count p.strings);
    strings = strings_each p.strings 65536 (omega (arith, ends, rows_width p, members_width p));
    rows_few = omega (arith, ends, rows_width p, members_width p);
    members_few = omega (arith, ends, members_width p);
    members = rows;
  }

  pub criteria_low : length p.criteria < 65536
  criteria_low =
      let rest = at_criteria (written p) p whole in
      omega (arith, rest.inside, ap length rest.is, length-drop (members_end p) (written p), joined_width criterion 15 (λ c. refl) p.criteria)

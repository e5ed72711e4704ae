-- What is kept of an accepted image for later steps: where its sections and strings lie.
use Rattle.std.specs.Prelude.{true, ◌≡◌, ℕ, ◌+◌, ◌*◌, List, ◌++◌, drop, replicate}
use Rattle.basic.specs.Inner.Judged.{is_pattern}
use Rattle.profile.specs.Image as image
use Rattle.profile.specs.Image.{Stored, accepted}
use Rattle.profile.specs.Judging.{judge}
use Rattle.cells.specs.Inner.Places.{word, offsets}
use Rattle.profile.specs.Inner.Decoded.{layout, strings, string_of, row_from, criterion_from, profile_in}
use Rattle.profile.specs.declared.Layout.{Layout}
use Rattle.entries.specs.declared.Row.{Row}

-- the places of the strings, and zeros
abbrev pub string_table : List ℕ → List ℕ
string_table s = offsets s (word s 1) 3 ++ drop (word s 1) (replicate 1024 0)

-- ---- an image that stands

-- it was judged and accepted, with this layout and this table of its strings: what every step over an accepted image asks
pub record Standing (s table : List ℕ) (y : Layout) : Type 0 where
  pub accepts : judge s ≡ accepted (profile_in s)
  pub layout_is : y ≡ layout s
  pub table_is : table ≡ string_table s

-- its row k and its criterion k
abbrev pub nth_row : List ℕ → Layout → ℕ → image.Row
nth_row s y k = row_from (strings s) s (y.rows + 7 * k)

abbrev pub nth_criterion : List ℕ → Layout → ℕ → image.Criterion
nth_criterion s y k = criterion_from (strings s) s (y.criteria + 15 * k)

-- SIPHeader or SessionDescription
pub record ByPattern (r : Row) : Type 0 where
  pub not_uri : r.kind ≡ 0 → ⊥
  pub not_method : r.kind ≡ 1 → ⊥
  pub not_case : r.kind ≡ 3 → ⊥

-- the strings that a row names as patterns are patterns; those of an image that stands are
pub record Matchable (strs : List Stored) (r : Row) : Type 0 where
  pub first : ByPattern r → is_pattern (string_of strs r.first).bytes ≡ true
  pub second : ByPattern r → (r.second ≡ 65535 → ⊥) → is_pattern (string_of strs r.second).bytes ≡ true

-- An image that is written from a sound profile is read back, to the number; so it is accepted, and means what the profile means.
use mathlib.Core.Path.{◌≡◌, refl, sym, ap, ap₂, ◌∙◌}
use Prim.Native.Nat.{ℕ, zero, suc, ◌+◌}
use native.Mathlib.Omega.{arith}
use borrow.Author.Tests.{le-leb, eq-eqb}
use mathlib.Core.List.{List, [], ◌∷◌, ◌++◌, map, append-nil}
use lib.ListN.{length, length-drop}
use Rattle.profile.specs.Image as image
use Rattle.profile.specs.Image.{Stored, accepted}
use Rattle.profile.specs.Judging as judging
use Rattle.cells.specs.Inner.Out.{good}
use Rattle.cells.specs.Inner.Places as cells
use Rattle.entries.specs.Inner.Places as parts
use Rattle.profile.specs.Inner.Places as places
use Rattle.profile.specs.Written.{Entries, string, row, membership, criterion, section, written}
use Rattle.cells.specs.Inner.Places.{word, reading_strings, offsets, past}
use Rattle.entries.specs.Inner.Places.{reading_rows, reading_members, reading_criteria, follows, stands, has, spaced, row_numbers, member_numbers, criterion_numbers}
use Rattle.profile.specs.Inner.Decoded.{stored, strings, layout, row_from, member_with, member_from, criterion_with, criterion_from, profile_in, judged_by}
use Rattle.profile.specs.Inner.Writable.{RightString, RightRow, RightMember, RightCriterion, Writable, rows_from, strings_of, rows_place, meant}
use Rattle.cells.proofs.Laws.{counted_inv}
use Rattle.profile.proofs.Same.{Laid, laid, judge_same}
use Rattle.profile.proofs.WrittenFields.{Rest, further, u8_back}
use Rattle.profile.proofs.WrittenEntries.{string_back, row_back, member_back, criterion_back}
use Rattle.profile.proofs.WrittenSections.{beyond, Back, section_back, placed_back, stored_back}

-- ---- what is made of items of one width

map_spaced : {A B : Type 0} (f : A → B) (item : ℕ → A) (w at n : ℕ) → spaced (λ k. f (item k)) w at n ≡ map f (spaced item w at n)
unfolding spaced
map_spaced f item w at zero = refl
map_spaced f item w at (suc n) = ap (λ l. f (item at) ∷ l) (map_spaced f item w (at + w) n)

rows_spaced : (strs : List Stored) (s : List ℕ) (at n : ℕ)
    → spaced (row_from strs s) 7 at n ≡ rows_from strs at (spaced (row_numbers s) 7 at n)
unfolding spaced row_from
rows_spaced strs s at zero = refl
rows_spaced strs s at (suc n) = ap (λ (l : List image.Row). row_from strs s at ∷ l) (rows_spaced strs s (at + 7) n)

made : {a b : List image.Row} {c d : List image.Member} {e f : List image.Criterion} → a ≡ b → c ≡ d → e ≡ f
    → ◌≡◌ {A = image.Profile} (record { rows = a; members = c; criteria = e }) (record { rows = b; members = d; criteria = f })
made r m c = cc

-- ---- the image

-- what stands after the rows, and after the strings
abbrev after_rows : Entries → List ℕ
after_rows p = section membership p.members ++ section criterion p.criteria

abbrev after_strings : Entries → List ℕ
after_strings p = section row p.rows ++ after_rows p

module _ (s : List ℕ) (p : Entries) (is : s ≡ written p) (sound : Writable p) where
  n_rows : ℕ
  n_rows = length p.rows

  all : Rest s 0 (written p)
  all = record { inside = omega arith; is = is }

  at₂ : ℕ
  at₂ = beyond string p.strings 1

  at₃ : ℕ
  at₃ = beyond row p.rows at₂

  at₄ : ℕ
  at₄ = beyond membership p.members at₃

  strings_in : Back s (λ _. cells.string s) string 1024 1 p.strings (after_strings p)
  unfolding written
  strings_in =
      section_back s (λ _. cells.string s) string (λ _. RightString) (λ before a at t h r. string_back s at a t h r)
      1024 1 p.strings (after_strings p) sound.strings_few (omega arith) sound.strings
      (further all 1 (omega arith))

  rows_in : Back s (λ _. parts.reading_row s p.strings) row 2048 at₂ p.rows (after_rows p)
  unfolding at₂
  rows_in =
      section_back s (λ _. parts.reading_row s p.strings) row (λ _. RightRow p.strings)
      (λ before a at t h r. row_back s at t p.strings sound.strings_few a h r)
      2048 at₂ p.rows (after_rows p) sound.rows_few (omega arith) sound.rows strings_in.next

  members_in : Back s (λ before. parts.reading_member s n_rows (follows before)) membership 16384 at₃ p.members
      (section criterion p.criteria)
  unfolding at₃ n_rows
  members_in =
      section_back s (λ before. parts.reading_member s n_rows (follows before)) membership (RightMember n_rows)
      (λ before a at t h r. member_back s at t n_rows sound.rows_few before a h r)
      16384 at₃ p.members (section criterion p.criteria) sound.members_few (omega arith) sound.members rows_in.next

  criteria_in : Back s (λ before. parts.reading_criterion s p.strings n_rows (stands before)) criterion 64 at₄ p.criteria []
  unfolding at₄ n_rows
  criteria_in =
      section_back s (λ before. parts.reading_criterion s p.strings n_rows (stands before)) criterion (RightCriterion p.strings n_rows)
      (λ before a at t h r. criterion_back s at t p.strings sound.strings_few n_rows sound.rows_few before a h r)
      64 at₄ p.criteria [] sound.criteria_few (omega arith) sound.criteria (rw append-nil members_in.next)

  end : ℕ
  end = beyond criterion p.criteria at₄

  end_is : end ≡ length s
  unfolding end
  end_is = omega (arith, criteria_in.next.inside, ap length criteria_in.next.is, length-drop (beyond criterion p.criteria at₄) s)

  read_back : places.judge_by_places s ≡ good p
  unfolding places.judge_by_places reading_strings reading_rows reading_members reading_criteria at₂ at₃ at₄ n_rows end written
  read_back =
      rw (
        le-leb (length s) 32768 (rw is sound.size),
        u8_back s 0 (section string p.strings ++ after_strings p) 1 all,
        strings_in.count,
        strings_in.items,
        rows_in.count,
        rows_in.items,
        members_in.count,
        members_in.items,
        placed_back (has p.members) n_rows 0 (at₂ + 2) (λ k l u. sound.placed k (omega arith)),
        criteria_in.count,
        criteria_in.items,
        eq-eqb end (length s) end_is,
      )

  -- ---- what it means

  all_strings : (strings s ≡ strings_of p) × ((layout s).rows ≡ rows_place p)
  unfolding strings layout written
  all_strings =
      let n : word s 1 ≡ length p.strings = sym (counted_inv s 1 1024 (length p.strings) strings_in.count).0 in
      let w = stored_back s p.strings [] 3 (after_strings p) sound.strings (further all 3 (omega arith)) in
      (ap (λ (k : ℕ). map (stored s) (offsets s k 3)) n ∙ w.0, ap (λ (k : ℕ). past s k 3 + 2) n ∙ ap (λ (k : ℕ). k + 2) w.1)

  laid_out : Laid s p
  laid_out = laid s p read_back

  rows_mean : spaced (row_from (strings s) s) 7 (layout s).rows (layout s).row_count
      ≡ rows_from (strings_of p) (rows_place p) p.rows
  rows_mean =
      rows_spaced (strings s) s (layout s).rows (layout s).row_count
      ∙ ap (rows_from (strings s) (layout s).rows) (sym laid_out.rows)
      ∙ ap₂ (λ (strs : List Stored) (at : ℕ). rows_from strs at p.rows) all_strings.0 all_strings.1

  members_mean : spaced (member_from s) 4 (layout s).members (layout s).member_count ≡ map member_with p.members
  members_mean =
      map_spaced member_with (member_numbers s) 4 (layout s).members (layout s).member_count
      ∙ ap (map member_with) (sym laid_out.members)

  criteria_mean : spaced (criterion_from (strings s) s) 15 (layout s).criteria (layout s).criterion_count
      ≡ map (criterion_with (strings_of p)) p.criteria
  unfolding criterion_from
  criteria_mean =
      map_spaced (criterion_with (strings s)) (criterion_numbers s) 15 (layout s).criteria (layout s).criterion_count
      ∙ ap (map (criterion_with (strings s))) (sym laid_out.criteria)
      ∙ ap (λ (strs : List Stored). map (criterion_with strs) p.criteria) all_strings.0

  profile_is : profile_in s ≡ meant p
  unfolding profile_in meant
  profile_is = made rows_mean members_mean criteria_mean

-- what is written is read back
pub written_read : (p : Entries) → Writable p → places.judge_by_places (written p) ≡ good p
written_read p sound = read_back (written p) p refl sound

-- and is accepted, with its meaning
pub written_judged : (p : Entries) → Writable p → judging.judge (written p) ≡ accepted (meant p)
written_judged p sound =
    judge_same (written p) ∙ ap (judged_by (written p)) (written_read p sound)
    ∙ ap accepted (profile_is (written p) p refl sound)

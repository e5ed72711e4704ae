-- The places of the fields, written to the lent places one line after the other.
use mathlib.Core.Bool.{◌&&◌}
use mathlib.Core.Path.{◌≡◌, sym, ap, ◌∙◌, subst}
use mathlib.Core.List.{List, [], ◌∷◌}
use Prim.Native.Nat.{ℕ, ◌+◌, ◌*◌, ◌≤◌, ◌<◌}
use native.Mathlib.Nat.{zero-add}
use native.Mathlib.Omega.{arith}
use native.Mathlib.Decide.{dec_le}
use lib.Dec.{T}
use lib.ListN.{length, take, drop, set}
use Rattle.octets.specs.Bytes.{token}
use Rattle.octets.specs.Lists.{every}
use Rattle.octets.proofs.Tests.{left, right}
use Rattle.cuts.specs.Cutting.{begins}
use Rattle.cuts.specs.Inner.Parts.{part}
use Rattle.cuts.specs.Inner.Searching.{first}
use Rattle.cuts.specs.Trimming.{trim_right}
use Rattle.cuts.proofs.Search.{before_length}
use Rattle.cuts.proofs.Writing.{Written, written_start, written_put, written_end, written_length}
use Rattle.request.specs.Inner.Places.{line_starts, colon_in, line_colons}
use Rattle.request.specs.Request.{paired}
use Rattle.request.specs.Inner.Steps.{line_break, is_some, is_field, lines_from, Fillable, Filled}
use Rattle.request.proofs.Fields.{field_at, field_no_colon, field_named, some_holds, end_inside, line_long, starts_here, colons_here}
use Rattle.request.proofs.Lines.{line_here, line_next, line_past}

-- ---- one line

-- a field has a name and a colon after it
module _ (l : List ℕ) (t : T (is_field l)) where
  abbrev colon : ℕ
  colon = first (begins (58 ∷ [])) l

  pub colon_inside : colon < length l
  colon_inside =
      elim (dec_le (length l) colon) [
        | yes h ↦ absurd (subst T (sym (field_no_colon l colon (sym (zero-add colon)) h)) t)
        | no h ↦ omega (arith, h)
      ]

  pub name_there : T (token (trim_right (take colon l)))
  name_there = subst T (ap is_some (field_named l colon (sym (zero-add colon)) colon_inside) ∙ some_holds (token (trim_right (take colon l))) (field_at l colon)) t

  pub colon_after_name : 0 < colon
  unfolding trim_right
  colon_after_name =
      elim (dec_le colon 0) [
        | yes h ↦ let none_before : colon ≡ 0 = omega arith in absurd (subst (λ (k : ℕ). T (token (trim_right (take k l)))) none_before name_there)
        | no h ↦ omega (arith, h)
      ]

  pub field_long : 2 ≤ length l
  field_long = omega (arith, colon_inside, colon_after_name)

-- ---- all lines

-- the places of the lines before p are written, n of them
pub record Filling (h : List ℕ) (from : ℕ) (starts colons starts' colons' : List ℕ) (p n : ℕ) : Type 0 where
  pub inside : p ≤ length h + 2
  pub paired_on : T (paired 0 (drop p h))
  pub fields : T (every is_field (lines_from h p))
  pub few : 4 * n ≤ p
  pub count : n + length (lines_from h p) ≡ length (lines_from h from)
  pub starts_so : Written (line_starts from (lines_from h from)) starts starts' n (line_starts p (lines_from h p))
  pub colons_so : Written (line_colons from (lines_from h from)) colons colons' n (line_colons p (lines_from h p))

pub filling_first : (h : List ℕ) (from : ℕ) (starts colons : List ℕ) → Fillable h from (length starts) (length colons) → Filling h from starts colons starts colons from 0
filling_first h from starts colons k = record {
  inside = k.inside;
  paired_on = k.pairs;
  fields = k.fields;
  few = omega arith;
  count = zero-add (length (lines_from h from));
  starts_so = written_start (line_starts from (lines_from h from)) starts;
  colons_so = written_start (line_colons from (lines_from h from)) colons;
}

module _ (h : List ℕ) (from : ℕ) (starts colons starts' colons' : List ℕ) (p n : ℕ) (f : Filling h from starts colons starts' colons' p n)
    (pre : Fillable h from (length starts) (length colons)) (inside : p ≤ length h) where
  starts_few : n < length starts
  starts_few = omega (arith, f.few, pre.starts_room)

  colons_few : n < length colons
  colons_few = omega (arith, f.few, pre.colons_room)

  pub starts_place : n < length starts'
  starts_place = omega (arith, written_length f.starts_so (omega (arith, starts_few)), starts_few)

  pub colons_place : n < length colons'
  colons_place = omega (arith, written_length f.colons_so (omega (arith, colons_few)), colons_few)

  module _ (e : ℕ) (e_is : e ≡ p + first line_break (drop p h)) where
    abbrev line : List ℕ
    line = part h p e

    lines_are : lines_from h p ≡ line ∷ lines_from h (e + 2)
    lines_are = line_here h p e inside f.paired_on e_is

    fields_are : T (is_field line && every is_field (lines_from h (e + 2)))
    fields_are = subst (λ (ls : List (List ℕ)). T (every is_field ls)) lines_are f.fields

    module _ (k : ℕ) (k_is : k ≡ 0 + first (begins (58 ∷ [])) (drop 0 line)) where
      k_colon : colon_in line ≡ k
      unfolding colon_in
      k_colon = before_length (58 ∷ []) line ∙ omega (arith, k_is)

      pub filling_next : Filling h from starts colons (set starts' n p) (set colons' n (p + k)) (e + 2) (n + 1)
      filling_next = record {
        inside = omega (arith, end_inside h p e inside e_is);
        paired_on = line_next h p e inside f.paired_on e_is;
        fields = right (is_field line) (every is_field (lines_from h (e + 2))) fields_are;
        few = omega (arith, f.few, field_long line (left (is_field line) (every is_field (lines_from h (e + 2))) fields_are), line_long h p e inside e_is);
        count = omega (arith, f.count, ap length lines_are);
        starts_so =
            written_put
            (subst (Written (line_starts from (lines_from h from)) starts starts' n) (starts_here h p e inside e_is f.paired_on) f.starts_so)
            (omega (arith, starts_few));
        colons_so =
            written_put
            (subst (Written (line_colons from (lines_from h from)) colons colons' n)
            (colons_here h p e inside e_is f.paired_on ∙ ap (λ (j : ℕ). (p + j) ∷ line_colons (e + 2) (lines_from h (e + 2))) k_colon) f.colons_so)
            (omega (arith, colons_few));
      }

-- past the last line
module _ (h : List ℕ) (from : ℕ) (starts colons starts' colons' : List ℕ) (p n : ℕ) (f : Filling h from starts colons starts' colons' p n)
    (pre : Fillable h from (length starts) (length colons)) where
  pub filling_starts : length starts' ≡ length starts
  filling_starts = written_length f.starts_so (omega (arith, f.few, f.inside, pre.starts_room))

  pub filling_colons : length colons' ≡ length colons
  filling_colons = written_length f.colons_so (omega (arith, f.few, f.inside, pre.colons_room))

  pub filling_end : length h < p → Filled h from starts colons starts' colons' n
  unfolding line_starts line_colons
  filling_end past =
      let done : lines_from h p ≡ [] = line_past h p past in
      record {
        count = omega (arith, f.count, ap length done);
        starts_are = written_end (subst (Written (line_starts from (lines_from h from)) starts starts' n) (ap (line_starts p) done) f.starts_so);
        colons_are = written_end (subst (Written (line_colons from (lines_from h from)) colons colons' n) (ap (line_colons p) done) f.colons_so);
      }

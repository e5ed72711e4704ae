-- A field's line, by the place of its colon.
use mathlib.Core.Bool.{Bool, true, false, not, ◌&&◌}
use mathlib.Core.Option.{Option, some}
use mathlib.Core.Path.{◌≡◌, refl, sym, ap, ◌∙◌}
use mathlib.Core.List.{List, [], ◌∷◌}
use Prim.Native.Nat.{ℕ, ◌+◌, ◌-◌, ◌≤◌, ◌<◌}
use native.Mathlib.Nat.{sub-zero}
use native.Mathlib.Omega.{arith}
use lib.Dec.{T}
use lib.ListN.{length, take, drop, length-drop}
use lib.Seq.{take-take, length-take-le}
use borrow.Author.Tests.{not-true, not-false}
use Rattle.octets.specs.Bytes.{token}
use Rattle.octets.specs.Lists.{every, empty}
use Rattle.octets.specs.Option.{◌>>=◌, holds}
use Rattle.cuts.specs.Cutting.{Cut, begins}
use Rattle.cuts.specs.Inner.Parts.{part}
use Rattle.cuts.specs.Inner.Searching.{first}
use Rattle.cuts.specs.Trimming.{trim_right}
use Rattle.cuts.proofs.Parts.{length_part}
use Rattle.cuts.proofs.Search.{first_le, cut_found, cut_missing}
use Rattle.cuts.proofs.Trims.{trim_front, trim_le}
use Rattle.contents.specs.Names.{name_as_matched}
use Rattle.contents.specs.Values.{reduced, values_of}
use Rattle.request.specs.Inner.Places.{line_starts, colon_in, line_colons}
use Rattle.request.specs.Request.{Field, paired, field}
use Rattle.request.specs.Inner.Steps.{line_break, word_byte, is_some, is_field, lines_from}
use Rattle.request.proofs.Lines.{line_here, line_next, line_past}

-- the field whose colon stands at k
abbrev pub field_at : List ℕ → ℕ → Field
field_at l k = record {
  name = name_as_matched (trim_right (take k l));
  values = values_of (name_as_matched (trim_right (take k l))) (reduced (drop (k + 1) l));
}

abbrev named : Cut → Option Field
named c =
    holds (token (trim_right c.before)) >>= λ _.
    some (record { name = name_as_matched (trim_right c.before); values = values_of (name_as_matched (trim_right c.before)) (reduced c.after) })

pub some_holds : (t : Bool) (f : Field) → is_some (holds t >>= λ _. some f) ≡ t
some_holds true f = refl
some_holds false f = refl

module _ (l : List ℕ) (k : ℕ) (ek : k ≡ 0 + first (begins (58 ∷ [])) (drop 0 l)) where
  k_is : first (begins (58 ∷ [])) l ≡ k
  k_is = omega (arith, ek)

  pub field_no_colon : length l ≤ k → false ≡ is_field l
  field_no_colon h = sym (ap (λ (o : Option Cut). is_some (o >>= named)) (cut_missing (58 ∷ []) l (omega (arith, k_is))))

  module _ (more : k < length l) where
    pub field_named : field l ≡ (holds (token (trim_right (take k l))) >>= λ _. some (field_at l k))
    field_named =
        ap (λ (o : Option Cut). o >>= named) (cut_found (58 ∷ []) l (omega (arith, k_is)))
        ∙ ap (λ (j : ℕ). named (record { before = take j l; after = drop (j + 1) l })) k_is

    pub field_is : (n : ℕ) → n ≡ length (trim_right (take (k - 0) (drop 0 l))) → (r : Bool)
        → r ≡ (not (empty (take (n - 0) (drop 0 l))) && every (word_byte false) (take (n - 0) (drop 0 l))) → r ≡ is_field l
    field_is n en r er =
        let t = trim_right (take k l) in
        let n_is : n ≡ length t = en ∙ ap (λ (j : ℕ). length (trim_right (take j l))) (sub-zero k) in
        let short : length t ≤ k = omega (arith, trim_le (take k l), length-take-le k l (omega arith)) in
        let name : take (n - 0) l ≡ t = ap (λ (j : ℕ). take j l) (sub-zero n ∙ n_is) ∙ sym (trim_front (take k l) ∙ take-take (length t) k l short) in
        er ∙ ap token name ∙ sym (ap is_some field_named ∙ some_holds (token t) (field_at l k))

-- the name ends inside its line
pub name_inside : (l : List ℕ) (k n : ℕ) → k < length l → n ≡ length (trim_right (take (k - 0) (drop 0 l))) → n ≤ length l
name_inside l k n more en =
    omega (arith, trim_le (take (k - 0) l), length-take-le (k - 0) l (omega arith))

-- ---- all lines from a place on

-- the lines before p are fields
pub record Checking (h : List ℕ) (from p : ℕ) : Type 0 where
  pub inside : p ≤ length h + 2
  pub paired_on : T (paired 0 (drop p h))
  pub rest : every is_field (lines_from h from) ≡ every is_field (lines_from h p)

pub checking_first : (h : List ℕ) (from : ℕ) → (from ≤ length h + 2) × (length h ≤ 65535) × T (paired 0 (drop from h)) → Checking h from from
checking_first h from pre = record { inside = pre.0; paired_on = pre.2; rest = refl }

-- the line at p ends at e
module _ (h : List ℕ) (p e : ℕ) (inside : p ≤ length h) (e_is : e ≡ p + first line_break (drop p h)) where
  pub end_order : p ≤ e
  end_order = omega (arith, e_is)

  pub end_inside : e ≤ length h
  end_inside = omega (arith, first_le line_break (drop p h), length-drop p h)

  pub line_long : length (part h p e) ≡ e - p
  line_long = length_part h p e end_order end_inside

  line_after : p + length (part h p e) + 2 ≡ e + 2
  line_after = omega (arith, line_long, end_order)

  pub colon_small : (k : ℕ) → k ≡ 0 + first (begins (58 ∷ [])) (drop 0 (part h p e)) → p + k ≤ length h
  colon_small k k_is = omega (arith, k_is, first_le (begins (58 ∷ [])) (part h p e), line_long, end_inside, end_order)

  -- the places of the lines from p on: those of this line, and those from the next on
  module _ (right : T (paired 0 (drop p h))) where
    pub starts_here : line_starts p (lines_from h p) ≡ p ∷ line_starts (e + 2) (lines_from h (e + 2))
    unfolding line_starts
    starts_here = ap (line_starts p) (line_here h p e inside right e_is) ∙ ap (λ (k : ℕ). p ∷ line_starts k (lines_from h (e + 2))) line_after

    pub colons_here : line_colons p (lines_from h p) ≡ (p + colon_in (part h p e)) ∷ line_colons (e + 2) (lines_from h (e + 2))
    unfolding line_colons
    colons_here =
        ap (line_colons p) (line_here h p e inside right e_is)
        ∙ ap (λ (k : ℕ). (p + colon_in (part h p e)) ∷ line_colons k (lines_from h (e + 2))) line_after

  module _ (from : ℕ) (k : Checking h from p) (r : Bool) (er : r ≡ is_field (part h p e)) where
    here : every is_field (lines_from h from) ≡ (r && every is_field (lines_from h (e + 2)))
    here = k.rest ∙ ap (every is_field) (line_here h p e inside k.paired_on e_is) ∙ rw (er)

    pub checking_no : not r ≡ true → false ≡ every is_field (lines_from h from)
    checking_no n = sym (here ∙ rw (not-true r n))

    pub checking_next : not r ≡ false → Checking h from (e + 2)
    checking_next n = record {
      inside = omega (arith, end_inside);
      paired_on = line_next h p e inside k.paired_on e_is;
      rest = here ∙ rw (not-false r n);
    }

pub checking_end : (h : List ℕ) (from p : ℕ) → Checking h from p → length h < p → true ≡ every is_field (lines_from h from)
checking_end h from p k past = sym (k.rest ∙ ap (every is_field) (line_past h p past))

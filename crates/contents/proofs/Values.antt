-- A value's pieces by place, and the names that are never cut.
use mathlib.Core.Bool.{Bool, true, false}
use mathlib.Core.Path.{◌≡◌, refl, sym, ap, ◌∙◌, subst}
use mathlib.Core.List.{List, [], ◌∷◌, map}
use Prim.Native.Nat.{ℕ, suc, ◌+◌, ◌-◌, ◌≤◌, ◌<◌}
use native.Mathlib.Numerals.{add-one, add-one-le}
use native.Mathlib.Omega.{arith}
use lib.ListN.{length, get_or, take, drop, drop_of_length-le, length-drop}
use lib.Seq.{drop-cons, drop-drop, take-take}
use lib.Dec.{eqb}
use borrow.Author.Tests.{eq-eqb, ne_eqb, eqb-true}
use Rattle.octets.specs.Lists.{pick}
use Rattle.cuts.specs.Inner.Parts.{part}
use Rattle.cuts.specs.Cutting.{first_line}
use Rattle.cuts.specs.Inner.Searching.{first, span, text_here}
use Rattle.cuts.specs.Trimming.{trim_right, trim}
use Rattle.cuts.proofs.Cuts.{pieces_from, span_yes, span_no, span_le, splits, piece_from}
use Rattle.cuts.proofs.Parts.{drop_take, length_part}
use Rattle.cuts.proofs.Search.{first_le}
use Rattle.cuts.proofs.Trims.{trim_front, trim_le, trim_left_at}
use Rattle.cuts.proofs.From as F
use Rattle.contents.specs.Inner.Places.{values_from, trimmed_at, piece_at}
use Rattle.contents.specs.Inner.Steps.{mode_of}
use Rattle.contents.specs.Values.{Mode, plain, quoted, escaped, angle, step, cuts, pieces, never_cut, values_of}
use Rattle.contents.specs.declared.Piece.{Piece}
use Rattle.contents.specs.declared.pieces.Within.{Within}
use Rattle.contents.specs.declared.pieces.Within.TheVariants.{Text, Quotes, Escape, Angles}

-- ---- names

-- ---- where a byte stands

module _ (w : Within) (b : ℕ) where
  in_mode : (x : Within) → w ≡ x → (m : Mode) → step (mode_of x) b ≡ m → m ≡ step (mode_of w) b
  in_mode x e m q = sym (ap (λ (y : Within). step (mode_of y) b) e ∙ q)

  pub text_quote : w ≡ Text → b ≡ 34 → quoted ≡ step (mode_of w) b
  text_quote e q = in_mode Text e quoted (rw (eq-eqb b 34 q))

  pub text_angle : w ≡ Text → (b ≡ 34 → ⊥) → b ≡ 60 → angle ≡ step (mode_of w) b
  text_angle e n q = in_mode Text e angle (rw (ne_eqb b 34 n, eq-eqb b 60 q))

  pub text_stays : w ≡ Text → (b ≡ 34 → ⊥) → (b ≡ 60 → ⊥) → plain ≡ step (mode_of w) b
  text_stays e n q = in_mode Text e plain (rw (ne_eqb b 34 n, ne_eqb b 60 q))

  pub quotes_escape : w ≡ Quotes → b ≡ 92 → escaped ≡ step (mode_of w) b
  quotes_escape e q = in_mode Quotes e escaped (rw (eq-eqb b 92 q))

  pub quotes_close : w ≡ Quotes → (b ≡ 92 → ⊥) → b ≡ 34 → plain ≡ step (mode_of w) b
  quotes_close e n q = in_mode Quotes e plain (rw (ne_eqb b 92 n, eq-eqb b 34 q))

  pub quotes_stay : w ≡ Quotes → (b ≡ 92 → ⊥) → (b ≡ 34 → ⊥) → quoted ≡ step (mode_of w) b
  quotes_stay e n q = in_mode Quotes e quoted (rw (ne_eqb b 92 n, ne_eqb b 34 q))

  pub escape_ends : w ≡ Escape → quoted ≡ step (mode_of w) b
  escape_ends e = in_mode Escape e quoted refl

  pub angles_close : w ≡ Angles → b ≡ 62 → plain ≡ step (mode_of w) b
  angles_close e q = in_mode Angles e plain (rw (eq-eqb b 62 q))

  pub angles_stay : w ≡ Angles → (b ≡ 62 → ⊥) → angle ≡ step (mode_of w) b
  angles_stay e n = in_mode Angles e angle (rw (ne_eqb b 62 n))

  pub comma_cuts : w ≡ Text → eqb b 44 ≡ cuts (mode_of w) b
  comma_cuts e = sym (ap (λ (y : Within). cuts (mode_of y) b) e)

  pub quotes_protect : w ≡ Quotes → false ≡ cuts (mode_of w) b
  quotes_protect e = sym (ap (λ (y : Within). cuts (mode_of y) b) e)

  pub escape_protects : w ≡ Escape → false ≡ cuts (mode_of w) b
  escape_protects e = sym (ap (λ (y : Within). cuts (mode_of y) b) e)

  pub angles_protect : w ≡ Angles → false ≡ cuts (mode_of w) b
  angles_protect e = sym (ap (λ (y : Within). cuts (mode_of y) b) e)

-- ---- the end of a piece

after_cut : (m : Mode) (b : ℕ) → cuts m b ≡ true → step m b ≡ plain
after_cut plain b e = let c : b ≡ 44 = eqb-true b 44 e in ap (step plain) c
after_cut quoted b e = let z : ◌≡◌ {A = ℕ} 0 1 = cc in absurd (omega arith)
after_cut escaped b e = let z : ◌≡◌ {A = ℕ} 0 1 = cc in absurd (omega arith)
after_cut angle b e = let z : ◌≡◌ {A = ℕ} 0 1 = cc in absurd (omega arith)

abbrev span_of : Mode → List ℕ → ℕ
span_of = span cuts step

-- the search has come to i, where a byte stands as w says; t is the place that it will find
pub record Spanning (v : List ℕ) (t : ℕ) (w : Within) (i : ℕ) : Type 0 where
  pub inside : i ≤ length v
  pub same : i + span_of (mode_of w) (drop i v) ≡ t

pub spanning_first : (v : List ℕ) (from : ℕ) → from ≤ length v → Spanning v (from + span cuts step plain (drop from v)) Text from
spanning_first v from h = record { inside = h; same = refl }

module _ (v : List ℕ) (t : ℕ) (w : Within) (i : ℕ) (k : Spanning v t w i) (more : i < length v) (r : Bool) (er : r ≡ cuts (mode_of w) (get_or v i 0)) where
  cut : drop i v ≡ get_or v i 0 ∷ drop (i + 1) v
  cut = drop-cons v i 0 more ∙ ap (λ (j : ℕ). get_or v i 0 ∷ drop j v) (sym (add-one i))

  pub spanning_found : r ≡ true → i ≡ t
  spanning_found y =
      let here : span_of (mode_of w) (drop i v) ≡ 0 = ap (span_of (mode_of w)) cut ∙ span_yes cuts step plain after_cut (mode_of w) (get_or v i 0) (drop (i + 1) v) (sym er ∙ y) in
      omega (arith, here, k.same)

  pub spanning_next : r ≡ false → (x : Within) → mode_of x ≡ step (mode_of w) (get_or v i 0) → Spanning v t x (i + 1)
  spanning_next n x ex =
      let here : span_of (mode_of w) (drop i v) ≡ suc (span_of (mode_of x) (drop (i + 1) v)) =
      ap (span_of (mode_of w)) cut ∙ span_no cuts step plain after_cut (mode_of w) (get_or v i 0) (drop (i + 1) v) (sym er ∙ n)
      ∙ ap (λ (m : Mode). suc (span_of m (drop (i + 1) v))) (sym ex)
      in
      record { inside = add-one-le more; same = omega (arith, here, k.same) }

pub spanning_end : (v : List ℕ) (t : ℕ) (w : Within) (i : ℕ) → Spanning v t w i → length v ≤ i → i ≡ t
unfolding span
spanning_end v t w i k past =
    let here : span_of (mode_of w) (drop i v) ≡ 0 = ap (span_of (mode_of w)) (drop_of_length-le v past) in
    omega (arith, here, k.same)

-- ---- the piece at a place

-- its end k, its length x without white space on the right, and the white space a on its left
module _ (v : List ℕ) (p : ℕ) (inside : p ≤ length v) (k : ℕ) (k_is : k ≡ p + span cuts step plain (drop p v)) where
  pub piece_order : p ≤ k
  piece_order = omega (arith, k_is)

  pub piece_inside : k ≤ length v
  piece_inside = omega (arith, k_is, span_le cuts step plain after_cut plain (drop p v), length-drop p v)

  abbrev t : List ℕ
  t = part v p k

  long : length t ≡ k - p
  long = length_part v p k piece_order piece_inside

  first_is : first_line (pieces (drop p v)) ≡ t
  first_is =
      let n : span cuts step plain (drop p v) ≡ k - p = omega (arith, k_is) in
      ap first_line (splits cuts step plain after_cut plain (drop p v)) ∙ ap (λ (j : ℕ). take j (drop p v)) n

  module _ (x : ℕ) (x_is : x ≡ length (trim_right t)) where
    pub trimmed_inside : p + x ≤ k
    trimmed_inside = omega (arith, x_is, trim_le t, long, piece_order)

    pub trimmed_le : p + x ≤ length v
    trimmed_le = omega (arith, trimmed_inside, piece_inside)

    trimmed_is : part v p (p + x) ≡ trim_right t
    trimmed_is =
        let n : p + x - p ≡ x = omega arith in
        ap (λ (j : ℕ). take j (drop p v)) n ∙ sym (trim_front t ∙ ap (λ (j : ℕ). take j t) (sym x_is) ∙ take-take x (k - p) (drop p v) (omega (arith, trimmed_inside)))

    module _ (a : ℕ) (a_is : a ≡ first text_here (part v p (p + x))) where
      pub blanks_le : a ≤ x
      blanks_le = omega (arith, a_is, first_le text_here (part v p (p + x)), ap length trimmed_is, x_is)

      trim_is : trim t ≡ drop a (trim_right t)
      trim_is = trim_left_at (trim_right t) ∙ ap (λ (j : ℕ). drop j (trim_right t)) (sym (a_is ∙ ap (first text_here) trimmed_is))

      pub piece_is : ◌≡◌ {A = Piece} (record { start = p + a; end = p + x; next = k + 1 }) (piece_at v p)
      unfolding piece_at
      piece_is =
          let start_is : p + (length (trim_right t) - length (trim t)) ≡ p + a = omega (arith, ap length trim_is, length-drop a (trim_right t), blanks_le, x_is) in
          let next_is : p + length t + 1 ≡ k + 1 = omega (arith, long, piece_order) in
          sym (ap (trimmed_at p) first_is ∙ (λ i. record { start = start_is i; end = p + sym x_is i; next = next_is i }))

      -- ---- what a caller learns
      pub piece_part : trim t ≡ part v (p + a) (p + x)
      piece_part =
          trim_is ∙ ap (drop a) (sym trimmed_is) ∙ drop_take a (p + x - p) (drop p v)
          ∙ (λ i. take (shorter i) (drop-drop a p v i))
        where
          shorter : p + x - p - a ≡ p + x - (p + a)
          shorter = omega arith

-- ---- for callers: every value, once and in order

-- what an answer of `next_value` says of the values from p on
pub record ValueAt (v : List ℕ) (p : ℕ) (r : Piece) : Type 0 where
  pub list : values_from v p ≡ part v r.start r.end ∷ values_from v r.next
  pub order : r.start ≤ r.end
  pub inside : r.end ≤ length v
  pub on : p < r.next
  pub next_inside : r.next ≤ length v + 1

pub value_says : (v : List ℕ) (p : ℕ) → p ≤ length v → ValueAt v p (piece_at v p)
unfolding values_from
value_says v p inside =
    let k = p + span cuts step plain (drop p v) in
    let x = length (trim_right (part v p k)) in
    let a = first text_here (part v p (p + x)) in
    let short : a ≤ x = blanks_le v p inside k refl x refl a refl in
    let end : k ≤ length v = piece_inside v p inside k refl in
    subst (ValueAt v p) (piece_is v p inside k refl x refl a refl) (record {
      list =
          ap (map trim) (piece_from cuts step plain after_cut v p k inside refl)
          ∙ ap (λ (l : List ℕ). l ∷ map trim (pieces_from cuts step plain v (k + 1))) (piece_part v p inside k refl x refl a refl);
      order = omega arith;
      inside = trimmed_le v p inside k refl x refl;
      on = omega (arith, piece_order v p inside k refl);
      next_inside = omega arith;
    })

pub values_past : (v : List ℕ) (p : ℕ) → length v < p → values_from v p ≡ []
unfolding values_from
values_past v p past = ap (map trim) (F.from_past pieces v p past)

-- the values of a field: the whole of a reduced value that is never cut, else its pieces from the start on
module _ (name v : List ℕ) where
  pub values_whole : never_cut name ≡ true → values_of name v ≡ v ∷ []
  unfolding values_of
  values_whole e = ap (λ (t : Bool). pick t (v ∷ []) (map trim (pieces v))) e

  pub values_cut : never_cut name ≡ false → values_of name v ≡ values_from v 0
  unfolding values_of values_from
  values_cut e = ap (λ (t : Bool). pick t (v ∷ []) (map trim (pieces v))) e ∙ sym (ap (map trim) (F.from_start pieces v))

-- The loops over the fields and over the lines: the first with a spot in it.
use mathlib.Core.Bool.{Bool, true, false}
use Rattle.std.specs.Prelude.{Option, Some, None}
use mathlib.Core.Path.{◌≡◌, refl, sym, ap, ◌∙◌, subst}
use mathlib.Core.List.{List, [], ◌∷◌}
use Prim.Native.Nat.{ℕ, suc, ◌+◌, ◌≤◌, ◌<◌}
use native.Mathlib.Numerals.{add-one}
use native.Mathlib.Omega.{arith}
use lib.ListN.{length, drop, drop_of_length-le}
use Rattle.octets.specs.Lists.{pick}
use Rattle.contents.specs.Body.{Line, session_lines}
use Rattle.contents.specs.Names.{name_as_matched}
use Rattle.contents.specs.Inner.Places.{session_from}
use Rattle.contents.specs.Values.{reduced, values_of}
use Rattle.contents.specs.Inner.Walks.{FieldLineAt, NextField}
use Rattle.contents.specs.declared.FieldLine.{FieldLine}
use Rattle.contents.proofs.BodyLines.{session_start}
use Rattle.contents.proofs.Walks.{line_here, line_none}
use Rattle.request.specs.Request.{Field}
use Rattle.request.specs.Inner.Places.{Placed, request_of, FieldIs}
use Rattle.request.specs.declared.Places.{Places}
use Rattle.request.proofs.Readings.{fields_many, index_low}
use Rattle.spots.specs.Spots.{none_shown, shown_in, first_shown}
use Rattle.spots.specs.Inner.Steps.{item_spot, field_spot, line_spot, LowSpot, LowShown}
use Rattle.spots.specs.declared.Shown.{Shown}
use Rattle.spots.specs.declared.Spot.{Spot}

pub none_shown_low : (y : Shown) → y ≡ none_shown → LowShown y
none_shown_low y e = subst LowShown (sym e) (record { field = omega arith; value = omega arith; start = omega arith; size = omega arith })

shown_low : (i : ℕ) (x : Spot) → i ≤ 65536 → LowSpot x → (y : Shown) → y ≡ shown_in i x → LowShown y
shown_low i x few low y e = subst LowShown (sym e) (record { field = few; value = low.value; start = low.start; size = low.size })

module _ {A : Type 0} (f : A → Spot) (i : ℕ) (a : A) (l : List A) (x : Spot) (ex : x ≡ f a) where
  by_found : (b : Bool) → x.found ≡ b → pick b (shown_in i x) (first_shown f (suc i) l) ≡ first_shown f i (a ∷ l)
  unfolding first_shown
  by_found b e =
      ap (λ (y : Spot). pick b (shown_in i y) (first_shown f (suc i) l)) ex
      ∙ ap (λ (c : Bool). pick c (shown_in i (f a)) (first_shown f (suc i) l)) (sym e ∙ ap (λ (y : Spot). y.found) ex)

-- ---- the fields

-- none of the fields before i has a spot in it
pub record Fielding (h : List ℕ) (with : Bool) (c s : List ℕ) (i : ℕ) : Type 0 where
  pub same : first_shown (field_spot h with c) i (drop i (request_of s).fields) ≡ first_shown (field_spot h with c) 0 (request_of s).fields

pub fielding_first : (h : List ℕ) (with : Bool) (c s : List ℕ) → Fielding h with c s 0
fielding_first h with c s = record { same = refl }

module _ (s starts colons : List ℕ) (p : Places) (k : Placed s starts colons p) (h : List ℕ) (with : Bool) (c : List ℕ) (i : ℕ)
    (w : Fielding h with c s i) where
  pub fielding_end : p.fields ≤ i → (y : Shown) → y ≡ none_shown → y ≡ first_shown (field_spot h with c) 0 (request_of s).fields
  unfolding first_shown
  fielding_end past y ey =
      let all : length (request_of s).fields ≤ i = omega (arith, fields_many s starts colons p k) in
      ey ∙ sym (ap (first_shown (field_spot h with c) i) (drop_of_length-le (request_of s).fields all)) ∙ w.same

-- field i of the request, looked at
module _ (s : List ℕ) (i : ℕ) (written value : List ℕ) (k : FieldIs s i written value) (name : List ℕ) (en : name ≡ name_as_matched written)
    (h : List ℕ) (with : Bool) (c : List ℕ) (w : Fielding h with c s i) (x : Spot) (ex : x ≡ item_spot true h with c name (values_of name (reduced value))) where
  abbrev this : List ℕ → Field
  this n = record { name = n; values = values_of n (reduced value) }

  abbrev real : Field
  real = this (name_as_matched written)

  spot_is : x ≡ field_spot h with c real
  unfolding field_spot
  spot_is = ex ∙ ap (λ (n : List ℕ). field_spot h with c (this n)) en

  here : (b : Bool) → x.found ≡ b
      → pick b (shown_in i x) (first_shown (field_spot h with c) (suc i) (drop (i + 1) (request_of s).fields))
      ≡ first_shown (field_spot h with c) 0 (request_of s).fields
  here b e =
      by_found (field_spot h with c) i real (drop (i + 1) (request_of s).fields) x spot_is b e
      ∙ sym (ap (first_shown (field_spot h with c) i) k.list) ∙ w.same

  pub fielding_found : x.found ≡ true → (y : Shown) → y ≡ shown_in i x → y ≡ first_shown (field_spot h with c) 0 (request_of s).fields
  fielding_found e y ey = ey ∙ here true e

  pub fielding_next : x.found ≡ false → Fielding h with c s (i + 1)
  fielding_next e = record {
    same = ap (λ (n : ℕ). first_shown (field_spot h with c) n (drop (i + 1) (request_of s).fields)) (add-one i) ∙ here false e;
  }

-- it is one of few
pub fielding_low : (s starts colons : List ℕ) (p : Places) → Placed s starts colons p → (i : ℕ) → i < p.fields → (x : Spot) → LowSpot x
    → (y : Shown) → y ≡ shown_in i x → LowShown y
fielding_low s starts colons p k i more x low y ey = shown_low i x (omega (arith, index_low s starts colons p k i more)) low y ey

-- ---- the lines

-- none of the lines before p has a spot in it; i of them are fields
pub record Lining (h : List ℕ) (with : Bool) (c body : List ℕ) (p i : ℕ) : Type 0 where
  pub same : first_shown (line_spot h with c) i (session_from body p) ≡ first_shown (line_spot h with c) 0 (session_lines body)
  pub few : i ≤ p
  pub inside : p ≤ length body + 1

pub lining_first : (h : List ℕ) (with : Bool) (c body : List ℕ) → Lining h with c body 0 0
lining_first h with c body = record {
  same = ap (first_shown (line_spot h with c) 0) (sym (session_start body));
  few = omega arith;
  inside = omega arith;
}

module _ (body : List ℕ) (p : ℕ) (x : Option FieldLine) (says : NextField body p x) (h : List ℕ) (with : Bool) (c : List ℕ) (i : ℕ)
    (w : Lining h with c body p i) where
  pub lining_end : x ≡ None → (z : Shown) → z ≡ none_shown → z ≡ first_shown (line_spot h with c) 0 (session_lines body)
  unfolding first_shown
  lining_end e z ez = ez ∙ sym (ap (first_shown (line_spot h with c) i) (line_none body p x says e)) ∙ w.same

  module _ (l : FieldLine) (e : x ≡ Some l) where
    this_line : FieldLineAt body p l
    this_line = line_here body p x says l e

    pub line_value_short : length body ≤ 65535 → length l.value.now ≤ 65535
    line_value_short short = omega (arith, this_line.short)

    pub count_room : length body ≤ 65535 → i + 1 < 18446744073709551616
    count_room short = omega (arith, w.few, w.inside)

    module _ (y : Spot) (ey : y ≡ item_spot false h with c l.kind.now (l.value.now ∷ [])) where
      abbrev the_line : Line
      the_line = record { type = l.kind.now; value = l.value.now }

      line_spot_is : y ≡ line_spot h with c the_line
      unfolding line_spot
      line_spot_is = ey

      line_answer : (b : Bool) → y.found ≡ b
          → pick b (shown_in i y) (first_shown (line_spot h with c) (suc i) (session_from body l.next))
          ≡ first_shown (line_spot h with c) 0 (session_lines body)
      line_answer b f =
          by_found (line_spot h with c) i the_line (session_from body l.next) y line_spot_is b f
          ∙ sym (ap (first_shown (line_spot h with c) i) this_line.list) ∙ w.same

      pub lining_found : y.found ≡ true → (z : Shown) → z ≡ shown_in i y → z ≡ first_shown (line_spot h with c) 0 (session_lines body)
      lining_found f z ez = ez ∙ line_answer true f

      pub lining_low : length body ≤ 65535 → LowSpot y → (z : Shown) → z ≡ shown_in i y → LowShown z
      lining_low short low z ez = shown_low i y (omega (arith, w.few, w.inside)) low z ez

      pub lining_next : y.found ≡ false → Lining h with c body l.next (i + 1)
      lining_next f = record {
        same = ap (λ (n : ℕ). first_shown (line_spot h with c) n (session_from body l.next)) (add-one i) ∙ line_answer false f;
        few = omega (arith, w.few, this_line.on);
        inside = this_line.next_inside;
      }

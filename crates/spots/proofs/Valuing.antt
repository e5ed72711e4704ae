-- The first value that a Content pattern matches: the loop over the values of a field, and the two ways to its values.
use Rattle.std.specs.Prelude.{Option, Some, None, is_some}
use mathlib.Core.Bool.{Bool, true, false}
use mathlib.Core.Path.{◌≡◌, refl, sym, ap, ap₂, ◌∙◌, subst}
use mathlib.Core.List.{List, [], ◌∷◌}
use Prim.Native.Nat.{ℕ, suc, ◌+◌, ◌-◌, ◌≤◌, ◌<◌}
use native.Mathlib.Numerals.{add-one}
use native.Mathlib.Omega.{arith}
use lib.ListN.{length, take}
use Rattle.pattern.specs.declared.prepared.Prepared.{Prepared}
use Rattle.trials.specs.Inner.Patterns.{content_bytes}
use Rattle.octets.specs.Lists.{pick}
use Rattle.pattern.specs.Inner.Answers.{meets_text}
use Rattle.place.specs.Inner.Texts.{place_text}
use Rattle.place.specs.declared.Place.{Place}
use Rattle.place.proofs.Meeting.{place_within}
use Rattle.cuts.specs.Inner.Parts.{over}
use Rattle.contents.specs.Inner.Places.{values_from}
use Rattle.contents.specs.Inner.Walks.{CutAt, NextCut}
use Rattle.contents.specs.Values.{reduced, never_cut, values_of}
use Rattle.contents.specs.declared.CutValue.{CutValue}
use Rattle.contents.proofs.Laws.{reduced_front}
use Rattle.contents.proofs.Values.{values_cut, values_whole}
use Rattle.contents.proofs.Walks.{cut_here, cut_none}
use Rattle.spots.specs.Spots.{no_spot, bare_spot, first_value}
use Rattle.spots.specs.Inner.Steps.{values_spot, item_spot, LowSpot}
use Rattle.spots.specs.declared.Spot.{Spot}

pub no_spot_low : (x : Spot) → x ≡ no_spot → LowSpot x
no_spot_low x e = subst LowSpot (sym e) (record { value = omega arith; start = omega arith; size = omega arith })

pub bare_spot_low : (x : Spot) → x ≡ bare_spot → LowSpot x
bare_spot_low x e = subst LowSpot (sym e) (record { value = omega arith; start = omega arith; size = omega arith })

-- ---- one value

module _ (c v : List ℕ) (at : Place) (ea : at ≡ place_text false c v) where
  found_is : (place_text false c v).found ≡ at.found
  found_is = sym (ap (λ (x : Place). x.found) ea)

  value_here : at.found ≡ true → (k : ℕ) (vs : List (List ℕ))
      → ◌≡◌ {A = Spot} (record { found = true; value = k; start = at.start; size = at.size }) (first_value (place_text false c) k (v ∷ vs))
  unfolding first_value
  value_here h k vs =
      ap (λ (x : Place). record { found = true; value = k; start = x.start; size = x.size }) ea
      ∙ sym (ap (λ (b : Bool). pick b (record { found = true; value = k; start = (place_text false c v).start; size = (place_text false c v).size }) (first_value (place_text false c) (suc k) vs)) (found_is ∙ h))

  value_later : at.found ≡ false → (k : ℕ) (vs : List (List ℕ)) → first_value (place_text false c) k (v ∷ vs) ≡ first_value (place_text false c) (suc k) vs
  unfolding first_value
  value_later h k vs =
      ap (λ (b : Bool). pick b (record { found = true; value = k; start = (place_text false c v).start; size = (place_text false c v).size }) (first_value (place_text false c) (suc k) vs)) (found_is ∙ h)

  low_here : length v ≤ 65535 → (k : ℕ) → k ≤ 65536 → LowSpot (record { found = true; value = k; start = at.start; size = at.size })
  low_here short k few = record {
    value = few;
    start = omega (arith, place_within false c v, ap (λ (x : Place). x.start) ea);
    size = omega (arith, place_within false c v, ap (λ (x : Place). x.size) ea);
  }

-- ---- the loop

-- none of the values before p matches
pub record Seeking (c v : List ℕ) (p value : ℕ) : Type 0 where
  pub same : first_value (place_text false c) value (values_from v p) ≡ values_spot c (values_from v 0)
  pub inside : p ≤ length v + 1
  pub few : value ≤ p

pub seeking_first : (c v : List ℕ) → Seeking c v 0 0
unfolding values_spot
seeking_first c v = record { same = refl; inside = omega arith; few = omega arith }

module _ (c v : List ℕ) (p value : ℕ) (k : Seeking c v p value) (x : Option CutValue) (says : NextCut v p x) where
  pub seeking_end : x ≡ None → (y : Spot) → y ≡ no_spot → y ≡ values_spot c (values_from v 0)
  unfolding first_value
  seeking_end e y ey = ey ∙ sym (ap (first_value (place_text false c) value) (cut_none v p x says e)) ∙ k.same

  module _ (r : CutValue) (e : x ≡ Some r) where
    here : CutAt v p r
    here = cut_here v p x says r e

    pub value_room : length v ≤ 65535 → value + 1 < 18446744073709551616
    value_room short = omega (arith, k.few, here.inside)

    module _ (at : Place) (ea : at ≡ place_text false c r.bytes.now) where
      pub seeking_found : at.found ≡ true
          → ◌≡◌ {A = Spot} (record { found = true; value = value; start = at.start; size = at.size }) (values_spot c (values_from v 0))
      seeking_found f =
          value_here c r.bytes.now at ea f value (values_from v r.next) ∙ sym (ap (first_value (place_text false c) value) here.list) ∙ k.same

      pub seeking_low : length v ≤ 65535 → LowSpot (record { found = true; value = value; start = at.start; size = at.size })
      seeking_low short = low_here c r.bytes.now at ea (omega (arith, here.short)) value (omega (arith, k.few, here.inside))

      pub seeking_next : at.found ≡ false → Seeking c v r.next (value + 1)
      seeking_next f = record {
        same =
            ap (λ (n : ℕ). first_value (place_text false c) n (values_from v r.next)) (add-one value)
            ∙ sym (value_later c r.bytes.now at ea f value (values_from v r.next))
            ∙ sym (ap (first_value (place_text false c) value) here.list) ∙ k.same;
        inside = here.next_inside;
        few = omega (arith, k.few, here.on);
      }

-- ---- a value that is not cut

module _ (c v : List ℕ) (at : Place) (ea : at ≡ place_text false c v) where
  pub one_none : at.found ≡ false → (x : Spot) → x ≡ no_spot → x ≡ values_spot c (v ∷ [])
  unfolding values_spot first_value
  one_none h x ex = ex ∙ sym (value_later c v at ea h 0 [])

  pub one_found : at.found ≡ true
      → ◌≡◌ {A = Spot} (record { found = true; value = 0; start = at.start; size = at.size }) (values_spot c (v ∷ []))
  unfolding values_spot
  one_found h = value_here c v at ea h 0 []

  pub one_low : length v ≤ 65535 → LowSpot (record { found = true; value = 0; start = at.start; size = at.size })
  one_low short = low_here c v at ea short 0 (omega arith)

-- ---- the values of a field, from its raw value reduced into the room

module _ (raw before room : List ℕ) (n : ℕ) (en : n ≡ length (reduced raw)) (er : room ≡ over (reduced raw) before) where
  front : take (n - 0) room ≡ reduced raw
  front = reduced_front raw before room n en er

  module _ (name c : List ℕ) (r : Bool) (e : r ≡ never_cut name) (x : Spot) where
    pub values_whole_spot : r ≡ true → x ≡ values_spot c (take (n - 0) room ∷ []) → x ≡ values_spot c (values_of name (reduced raw))
    values_whole_spot h ex =
        ex ∙ ap (λ (v : List ℕ). values_spot c (v ∷ [])) front ∙ sym (ap (values_spot c) (values_whole name (reduced raw) (sym e ∙ h)))

    pub values_cut_spot : r ≡ false → x ≡ values_spot c (values_from (take (n - 0) room) 0) → x ≡ values_spot c (values_of name (reduced raw))
    values_cut_spot h ex =
        ex ∙ ap (λ (v : List ℕ). values_spot c (values_from v 0)) front ∙ sym (ap (values_spot c) (values_cut name (reduced raw) (sym e ∙ h)))

-- ---- an item, by its name and its values

module _ (fold : Bool) (h name : List ℕ) (vs : List (List ℕ)) (m : Bool) (em : m ≡ meets_text fold h name) where
  item_by : (with : Bool) (c : List ℕ) (a b : Bool) → m ≡ a → with ≡ b
      → pick a (pick b (values_spot c vs) bare_spot) no_spot ≡ item_spot fold h with c name vs
  unfolding item_spot
  item_by with c a b ea eb = ap₂ (λ (x y : Bool). pick x (pick y (values_spot c vs) bare_spot) no_spot) (sym ea ∙ em) (sym eb)

  pub item_no : m ≡ false → (with : Bool) (c : List ℕ) (x : Spot) → x ≡ no_spot → x ≡ item_spot fold h with c name vs
  item_no k with c x ex = ex ∙ item_by with c false with k refl

  module _ (k : m ≡ true) (o : Option Prepared) where
    pub item_bare : o ≡ None → (x : Spot) → x ≡ bare_spot → x ≡ item_spot fold h (is_some o) (content_bytes o) name vs
    item_bare e x ex = ex ∙ item_by (is_some o) (content_bytes o) true false k (ap is_some e)

    pub item_with : (p : Prepared) → o ≡ Some p → (x : Spot) → x ≡ values_spot p.bytes.now vs
        → x ≡ item_spot fold h (is_some o) (content_bytes o) name vs
    item_with p e x ex =
        ex ∙ ap (λ (y : Option Prepared). values_spot (content_bytes y) vs) (sym e)
        ∙ item_by (is_some o) (content_bytes o) true true k (ap is_some e)

-- ---- a pattern that is for texts alone

pub placed_as : (f g : Bool) → f ≡ g → (p t : List ℕ) (at : Place) → at ≡ place_text f p t → at ≡ place_text g p t
placed_as f g e p t at ea = ea ∙ ap (λ (b : Bool). place_text b p t) e

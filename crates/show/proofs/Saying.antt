-- What is shown says of the request: whether the row matches, and where the part that fits stands.
use mathlib.Core.Bool.{Bool, true, false, ◌&&◌, ◌||◌}
use mathlib.Core.Option.{Option, none, some}
use mathlib.Core.Path.{◌≡◌, refl, sym, ap, ap₂, ◌∙◌}
use mathlib.Core.List.{List, [], ◌∷◌}
use Prim.Native.Nat.{ℕ, suc, ◌+◌}
use native.Mathlib.Nat.{zero-add, add-zero}
use native.Mathlib.Omega.{arith}
use lib.Dec.{T}
use lib.ListN.{get_elem?}
use Rattle.octets.specs.Lists.{pick, some_of}
use Rattle.octets.proofs.Tests.{T_of}
use Rattle.basic.specs.Pattern.{Pattern, meets}
use Rattle.pattern.specs.Matching.{written_matches, name_matches}
use Rattle.place.specs.Place.{IsPlace, place_of}
use Rattle.place.specs.declared.Place.{Place}
use Rattle.place.proofs.Meeting.{place_matches_as}
use Rattle.place.proofs.Placing.{place_sound}
use Rattle.contents.specs.Body.{Line}
use Rattle.profile.specs.Image.{header, description}
use Rattle.request.specs.Request.{Request, Field, request_lines}
use Rattle.rows.specs.Rows.{content_fits, field_fits, line_fits, test_fits}
use Rattle.rows.specs.declared.Given.{Given}
use Rattle.spots.specs.Spots.{no_spot, shown_in, first_value, first_shown}
use Rattle.spots.specs.declared.Shown.{Shown}
use Rattle.spots.specs.declared.Spot.{Spot}
use Rattle.show.specs.Show.{content_spot, in_field, in_line, test_shown, PartIn}

-- ---- whether

either_found : {A : Type 0} (found : A → Bool) (b : Bool) (x y : A) → found x ≡ true → found (pick b x y) ≡ (b || found y)
either_found found true x y e = e
either_found found false x y e = refl

first_value_found : (at : List ℕ → Place) (k : ℕ) (vs : List (List ℕ)) → (first_value at k vs).found ≡ some_of (λ v. (at v).found) vs
unfolding first_value
first_value_found at k [] = refl
first_value_found at k (v ∷ vs) =
    either_found (λ (x : Spot). x.found) (at v).found (record { found = true; value = k; start = (at v).start; size = (at v).size })
    (first_value at (suc k) vs) refl
    ∙ ap (λ (b : Bool). (at v).found || b) (first_value_found at (suc k) vs)

first_found : {A : Type 0} (f : A → Spot) (i : ℕ) (l : List A) → (first_shown f i l).found ≡ some_of (λ a. (f a).found) l
unfolding first_shown
first_found f i [] = refl
first_found f i (a ∷ l) =
    either_found (λ (x : Shown). x.found) (f a).found (shown_in i (f a)) (first_shown f (suc i) l) refl
    ∙ ap (λ (b : Bool). (f a).found || b) (first_found f (suc i) l)

some_ext : {A : Type 0} (f g : A → Bool) → ((a : A) → f a ≡ g a) → (l : List A) → some_of f l ≡ some_of g l
some_ext f g e [] = refl
some_ext f g e (a ∷ l) = ap₂ ◌||◌ (e a) (some_ext f g e l)

content_found : (c : Option Pattern) (vs : List (List ℕ)) → (content_spot c vs).found ≡ content_fits c vs
content_found none vs = refl
content_found (some c) vs =
    first_value_found (place_of meets c) 0 vs
    ∙ some_ext (λ v. (place_of meets c v).found) (written_matches c) (λ v. place_matches_as false c v) vs

named_found : (b : Bool) (x : Spot) → (pick b x no_spot).found ≡ (b && x.found)
named_found true x = refl
named_found false x = refl

-- "matched before negation"
pub shown_iff_matched : (q : Request) (g : Given) (h : Pattern) (c : Option Pattern)
    → ((test_shown q (header h c)).found ≡ test_fits q g (header h c)) × ((test_shown q (description h c)).found ≡ test_fits q g (description h c))
unfolding test_shown test_fits
shown_iff_matched q g h c = (
  first_found (in_field h c) 0 q.fields
      ∙ some_ext (λ f. (in_field h c f).found) (field_fits h c)
      (λ f. named_found (name_matches h f.name) (content_spot c f.values) ∙ ap (λ (b : Bool). name_matches h f.name && b) (content_found c f.values))
      q.fields,
  first_found (in_line h c) 0 (request_lines q)
      ∙ some_ext (λ l. (in_line h c l).found) (line_fits h c)
      (λ l. named_found (written_matches h l.type) (content_spot c (l.value ∷ [])) ∙ ap (λ (b : Bool). written_matches h l.type && b) (content_found c (l.value ∷ [])))
      (request_lines q),
)

-- ---- where

-- among values, counted from k
record ValueIn (c : Pattern) (k : ℕ) (vs : List (List ℕ)) (x : Spot) : Type 0 where
  at : ℕ
  number : x.value ≡ k + at
  bytes : List ℕ
  there : get_elem? vs at ≡ some bytes
  place : IsPlace meets c bytes x.start x.size

module _ (c : Pattern) (k : ℕ) (v : List ℕ) (vs : List (List ℕ)) where
  abbrev here : Spot
  here = record { found = true; value = k; start = (place_of meets c v).start; size = (place_of meets c v).size }

  abbrev later : Spot
  later = first_value (place_of meets c) (suc k) vs

  value_by : (later.found ≡ true → ValueIn c (suc k) vs later) → (b : Bool) → (place_of meets c v).found ≡ b → (pick b here later).found ≡ true
      → ValueIn c k (v ∷ vs) (pick b here later)
  value_by ih true f g = record { at = 0; number = sym (add-zero k); bytes = v; there = refl; place = place_sound meets c v f }
  value_by ih false f g =
      let r = ih g in
      record { at = suc r.at; number = omega (arith, r.number); bytes = r.bytes; there = r.there; place = r.place }

value_in : (c : Pattern) (k : ℕ) (vs : List (List ℕ)) → (first_value (place_of meets c) k vs).found ≡ true → ValueIn c k vs (first_value (place_of meets c) k vs)
unfolding first_value
value_in c k [] e = let z : ◌≡◌ {A = ℕ} 0 1 = cc in absurd (omega arith)
value_in c k (v ∷ vs) e = value_by c k v vs (value_in c (suc k) vs) (place_of meets c v).found refl e

module _ {A : Type 0} (named : A → Bool) (values : A → List (List ℕ)) (c : Pattern) where
  abbrev spot : A → Spot
  spot a = pick (named a) (content_spot (some c) (values a)) no_spot

  named_in : (a : A) (b : Bool) → named a ≡ b → (pick b (content_spot (some c) (values a)) no_spot).found ≡ true
      → T (named a) × ValueIn c 0 (values a) (pick b (content_spot (some c) (values a)) no_spot)
  named_in a true e f = (T_of e, value_in c 0 (values a) f)
  named_in a false e f = let z : ◌≡◌ {A = ℕ} 0 1 = cc in absurd (omega arith)

  -- among items, counted from i
  record ItemIn (i : ℕ) (l : List A) (x : Shown) : Type 0 where
    at : ℕ
    number : x.field ≡ i + at
    item : A
    there : get_elem? l at ≡ some item
    matched : T (named item)
    bytes : List ℕ
    in_it : get_elem? (values item) x.value ≡ some bytes
    place : IsPlace meets c bytes x.start x.size

  item_by : (i : ℕ) (a : A) (l : List A) → ((first_shown spot (suc i) l).found ≡ true → ItemIn (suc i) l (first_shown spot (suc i) l))
      → (b : Bool) → (spot a).found ≡ b → (pick b (shown_in i (spot a)) (first_shown spot (suc i) l)).found ≡ true
      → ItemIn i (a ∷ l) (pick b (shown_in i (spot a)) (first_shown spot (suc i) l))
  item_by i a l ih true f g =
      let r = named_in a (named a) refl f in
      let v = r.1 in
      let n : (spot a).value ≡ v.at = v.number ∙ zero-add v.at in
      record {
        at = 0;
        number = sym (add-zero i);
        item = a;
        there = refl;
        matched = r.0;
        bytes = v.bytes;
        in_it = ap (get_elem? (values a)) n ∙ v.there;
        place = v.place;
      }
  item_by i a l ih false f g =
      let r = ih g in
      record {
        at = suc r.at;
        number = omega (arith, r.number);
        item = r.item;
        there = r.there;
        matched = r.matched;
        bytes = r.bytes;
        in_it = r.in_it;
        place = r.place;
      }

  item_in : (i : ℕ) (l : List A) → (first_shown spot i l).found ≡ true → ItemIn i l (first_shown spot i l)
  unfolding first_shown
  item_in i [] e = let z : ◌≡◌ {A = ℕ} 0 1 = cc in absurd (omega arith)
  item_in i (a ∷ l) e = item_by i a l (item_in (suc i) l) (spot a).found refl e

  part_in : (l : List A) → (first_shown spot 0 l).found ≡ true → PartIn named values c l (first_shown spot 0 l)
  part_in l e =
      let r = item_in 0 l e in
      let n : (first_shown spot 0 l).field ≡ r.at = r.number ∙ zero-add r.at in
      record { item = r.item; there = ap (get_elem? l) n ∙ r.there; matched = r.matched; bytes = r.bytes; in_it = r.in_it; place = r.place }

-- of a SIPHeader row and of a SessionDescription row, with Content
pub header_part : (q : Request) (h c : Pattern) → (test_shown q (header h (some c))).found ≡ true
    → PartIn (λ (f : Field). name_matches h f.name) (λ f. f.values) c q.fields (test_shown q (header h (some c)))
unfolding test_shown
header_part q h c e = part_in (λ (f : Field). name_matches h f.name) (λ f. f.values) c q.fields e

pub line_part : (q : Request) (h c : Pattern) → (test_shown q (description h (some c))).found ≡ true
    → PartIn (λ (l : Line). written_matches h l.type) (λ l. l.value ∷ []) c (request_lines q) (test_shown q (description h (some c)))
unfolding test_shown
line_part q h c e = part_in (λ (l : Line). written_matches h l.type) (λ l. l.value ∷ []) c (request_lines q) e

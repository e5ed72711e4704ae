-- One field of a request, from the lent places.
use Rattle.std.specs.Prelude.{Option as Answer, Some}
use Rattle.request.specs.declared.HeadPlaces.{HeadPlaces}
use mathlib.Core.Bool.{true, not}
use mathlib.Core.Option.{Option, none, some, some-injective}
use mathlib.Core.Path.{◌≡◌, refl, sym, ap, ◌∙◌, subst}
use mathlib.Core.List.{List, [], ◌∷◌}
use Prim.Native.Nat.{ℕ, zero, suc, ◌+◌, ◌-◌, ◌*◌, ◌≤◌, ◌<◌}
use native.Mathlib.Nat.{add-zero, le_of_suc-le-suc, not-suc-le-zero, min-le_right}
use native.Mathlib.Omega.{arith}
use native.Mathlib.Decide.{dec_le}
use lib.Dec.{T, ltb}
use lib.ListN.{length, get_or, take, drop, length-drop, length-take}
use lib.Seq.{drop-drop, get_or-drop, get_or-take, take-take, take_at, length-take-le}
use borrow.Author.Tests.{lt-ltb, le-ltb}
use Rattle.octets.specs.Bytes.{token, white}
use Rattle.octets.specs.Lists.{pick}
use Rattle.octets.proofs.Tests.{left, T_of, is_true}
use Rattle.cuts.specs.Cutting.{begins}
use Rattle.cuts.specs.Inner.Parts.{part}
use Rattle.cuts.specs.Inner.Searching.{first}
use Rattle.cuts.specs.Trimming.{trim_right}
use Rattle.cuts.proofs.Parts.{drop_take, length_part, part_front}
use Rattle.cuts.proofs.Search.{first_le, first_holds, begins_long, before_length}
use Rattle.cuts.proofs.Trims.{trim_le, trim_front}
use Rattle.contents.specs.Names.{name_as_matched}
use Rattle.contents.specs.Values.{reduced, values_of}
use Rattle.request.specs.Inner.Places.{head_of, field_lines, fields_start, line_starts, colon_in, line_colons, reading, starts_of, colons_of, lines_start, places_of, Read, Placed, Fielded, request_of, parts_of, field_parts}
use Rattle.request.specs.Request.{Field, Request, paired, read_request}
use Rattle.request.specs.Inner.Steps.{head_at, line_break, lines_from, judged, Filled}
use Rattle.request.specs.declared.FieldParts.{FieldParts}
use Rattle.request.specs.declared.Places.{Places}
use Rattle.request.proofs.Accepted.{Accepts, accepts}
use Rattle.request.proofs.Answers.{fields_count, starts_length, colons_length, read_some, read_accepted}
use Rattle.request.proofs.Fields.{end_order, end_inside, line_long, starts_here, colons_here}
use Rattle.request.proofs.Lines.{line_here, line_next, line_past}
use Rattle.request.proofs.Nth.{Nth, nth, field_is, name_token, colon_in_line, token_long}

-- ---- the end of a field's line

module _ (starts : List ℕ) (head fields i : ℕ) where
  pub end_by_next : (w : ℕ) → w ≡ get_or starts (i + 1) 0 → i + 1 < fields → w - 2 ≡ pick (ltb (i + 1) fields) (get_or starts (i + 1) 0 - 2) head
  end_by_next w e h = rw (lt-ltb (i + 1) fields h, e)

  pub end_by_head : fields ≤ i + 1 → head ≡ pick (ltb (i + 1) fields) (get_or starts (i + 1) 0 - 2) head
  end_by_head h = rw (le-ltb (i + 1) fields h)

-- ---- line i of a head

-- it stands from `at` to `end`; the rests of the three lists from it on
pub record LineAt (h : List ℕ) (from i : ℕ) : Type 0 where
  pub at : ℕ
  pub end : ℕ
  pub inside : at ≤ length h
  pub end_is : end ≡ at + first line_break (drop at h)
  pub on : from + 2 * i ≤ at
  pub paired_on : T (paired 0 (drop at h))
  pub lines : drop i (lines_from h from) ≡ part h at end ∷ lines_from h (end + 2)
  pub starts : drop i (line_starts from (lines_from h from)) ≡ at ∷ line_starts (end + 2) (lines_from h (end + 2))
  pub colons : drop i (line_colons from (lines_from h from)) ≡ (at + colon_in (part h at end)) ∷ line_colons (end + 2) (lines_from h (end + 2))

-- a place past the head's end has no line
some_line : (h : List ℕ) (p i : ℕ) → i < length (lines_from h p) → p ≤ length h
some_line h p i l =
    elim (dec_le p (length h)) [
      | yes k ↦ k
      | no k ↦ absurd (not-suc-le-zero (subst (λ (ls : List (List ℕ)). i < length ls) (line_past h p (omega (arith, k))) l))
    ]

module _ (h : List ℕ) (from : ℕ) (right : T (paired 0 (drop from h))) (inside : from ≤ length h) where
  abbrev e : ℕ
  e = from + first line_break (drop from h)

  lines_are : lines_from h from ≡ part h from e ∷ lines_from h (e + 2)
  lines_are = line_here h from e inside right refl

  starts_are : line_starts from (lines_from h from) ≡ from ∷ line_starts (e + 2) (lines_from h (e + 2))
  starts_are = starts_here h from e inside refl right

  colons_are : line_colons from (lines_from h from) ≡ (from + colon_in (part h from e)) ∷ line_colons (e + 2) (lines_from h (e + 2))
  colons_are = colons_here h from e inside refl right

  this_line : LineAt h from 0
  this_line = record { at = from; end = e; inside = inside; end_is = refl; on = omega arith; paired_on = right; lines = lines_are; starts = starts_are; colons = colons_are }

  later_line : (i : ℕ) → LineAt h (e + 2) i → LineAt h from (suc i)
  later_line i k = record {
    at = k.at;
    end = k.end;
    inside = k.inside;
    end_is = k.end_is;
    on = omega (arith, k.on);
    paired_on = k.paired_on;
    lines = ap (drop (suc i)) lines_are ∙ k.lines;
    starts = ap (drop (suc i)) starts_are ∙ k.starts;
    colons = ap (drop (suc i)) colons_are ∙ k.colons;
  }

pub line_at : (h : List ℕ) (i from : ℕ) → T (paired 0 (drop from h)) → i < length (lines_from h from) → LineAt h from i
line_at h zero from right l = this_line h from right (some_line h from 0 l)
line_at h (suc i) from right l =
    let inside : from ≤ length h = some_line h from (suc i) l in
    later_line h from right inside i
    (line_at h i (e h from right inside + 2) (line_next h from (e h from right inside) inside right refl)
    (le_of_suc-le-suc (subst (λ (ls : List (List ℕ)). suc i < length ls) (lines_are h from right inside) l)))

-- the line ends with a break, or with the head
module _ (h : List ℕ) (p e : ℕ) (inside : p ≤ length h) (right : T (paired 0 (drop p h))) (e_is : e ≡ p + first line_break (drop p h)) where
  break_inside : e < length h → e + 2 ≤ length h
  break_inside more =
      let k = first line_break (drop p h) in
      let on : drop k (drop p h) ≡ drop e h = drop-drop k p h ∙ ap (λ (j : ℕ). drop j h) (sym e_is) in
      let here : line_break (drop e h) ≡ true = ap line_break (sym on) ∙ first_holds line_break (drop p h) (omega (arith, e_is, length-drop p h)) in
      let pair : begins (13 ∷ 10 ∷ []) (drop e h) ≡ true = is_true (begins (13 ∷ 10 ∷ []) (drop e h)) (left (begins (13 ∷ 10 ∷ []) (drop e h)) (not (white (get_or (drop e h) 2 0))) (T_of here)) in
      omega (arith, begins_long (13 ∷ 10 ∷ []) (drop e h) pair, length-drop e h)

  -- the last line ends with the head
  last_line : lines_from h (e + 2) ≡ [] → e ≡ length h
  last_line none_left =
      elim (dec_le (length h) e) [
        | yes k ↦ omega (arith, k, end_inside h p e inside e_is)
        | no k ↦
            let more : e + 2 ≤ length h = break_inside (omega (arith, k)) in
            let z : ◌≡◌ {A = ℕ} 0 1 = cc (line_here h (e + 2) (e + 2 + first line_break (drop (e + 2) h)) more (line_next h p e inside right e_is) refl) in
            absurd (omega (arith, z))
      ]

-- what stands at a place of a list whose rest from there is known
at_front : {A : Type 0} (l : List A) (j : ℕ) (y d : A) (r : List A) → drop j l ≡ y ∷ r → get_or l j d ≡ y
at_front {A = A} l j y d r e = ap (λ (k : ℕ). get_or l k d) (sym (add-zero j)) ∙ sym (get_or-drop j l 0 d) ∙ ap (λ (k : List A). get_or k 0 d) e

drop_next : {A : Type 0} (l : List A) (j : ℕ) (y : A) (r : List A) → drop j l ≡ y ∷ r → drop (j + 1) l ≡ r
drop_next {A = A} l j y r e = sym (drop-drop 1 j l) ∙ ap (drop 1) e

-- ---- field i of a request

-- what an answer of `field_at` says of the fields of the request q, whose head ends at head
pub record FieldSays (s : List ℕ) (q : Request) (head i : ℕ) (r : FieldParts) : Type 0 where
  pub list : drop i q.fields
      ≡ record {
        name = name_as_matched (part s r.name r.stop);
        values = values_of (name_as_matched (part s r.name r.stop)) (reduced (part s r.value r.end));
      } ∷ drop (i + 1) q.fields
  pub name_order : r.name < r.stop
  pub colon_after : r.stop < r.value
  pub value_order : r.value ≤ r.end
  pub inside : r.end ≤ head

module _ (h : List ℕ) (o : Option Request) (w : Places) (x : Request) (q : Some w ≡ reading h o) (r : o ≡ some x) where
  places_so : w ≡ places_of h x
  places_so = cc (ap (reading h) r)

  pub readable_count : length x.fields ≡ w.fields
  readable_count = sym (ap (λ (v : Places). v.fields) places_so)

  pub readable_head : length h ≡ w.head
  readable_head = sym (ap (λ (v : Places). v.head) places_so)

  pub readable_lines : w.lines ≡ lines_start h x
  readable_lines = ap (λ (v : Places). v.lines) places_so

readable_of : (h : List ℕ) (o : Option Request) (w : Places) → Some w ≡ reading h o → head_at w.head w.method w.uri (fields_start h) ≡ judged h o
readable_of h none w q = let z : ◌≡◌ {A = ℕ} 0 1 = cc in absurd (omega arith)
readable_of h (some x) w q = ap (λ (v : Places). head_at v.head v.method v.uri (fields_start h)) (places_so h (some x) w x q refl)

pub accepted_by : (s : List ℕ) (w : Places) → Some w ≡ reading (head_of s) (read_request s) → Accepts s w.head w.method w.uri (fields_start (head_of s))
accepted_by s w q = accepts s w.head w.method w.uri (fields_start (head_of s)) (readable_of (head_of s) (read_request s) w q)

module _ (s starts colons : List ℕ) (head fields : ℕ) (x : Fielded s starts colons head fields) where
  abbrev w : Places
  w = places_of (head_of s) (request_of s)

  w_read : Some w ≡ reading (head_of s) (read_request s)
  w_read = sym (ap (reading (head_of s)) x.read)

  accepted_at : Accepts s head w.method w.uri (fields_start (head_of s))
  accepted_at = subst (λ (k : ℕ). Accepts s k w.method w.uri (fields_start (head_of s))) (sym x.head_is) (accepted_by s w w_read)

  pub short : length s ≤ 65535
  short = accepted_at.short

  pub head_inside : head + 4 ≤ length s
  head_inside = accepted_at.body_inside

  pub body_is : (request_of s).body ≡ drop (head + 4) s
  body_is =
      ap (λ (q : Request). q.body) (some-injective (request_of s) accepted_at.request (sym x.read ∙ accepted_at.read))
      ∙ accepted_at.body_is

  pub body_length : head + 4 + length (request_of s).body ≡ length s
  body_length = omega (arith, ap length body_is, length-drop (head + 4) s, head_inside)

  count : length (lines_from (take head s) (fields_start (head_of s))) ≡ fields
  count =
      sym (fields_count (lines_from (take head s) (fields_start (head_of s))) accepted_at.request.fields accepted_at.fields_are)
      ∙ readable_count (head_of s) (read_request s) w accepted_at.request w_read accepted_at.read ∙ sym x.count

module _ (s starts colons : List ℕ) (head fields : ℕ) (x : Fielded s starts colons head fields) (i : ℕ) (less : i < fields) where
  abbrev v : Places
  v = places_of (head_of s) (request_of s)

  a : Accepts s head v.method v.uri (fields_start (head_of s))
  a = accepted_at s starts colons head fields x

  abbrev h : List ℕ
  h = take head s

  abbrev f : ℕ
  f = fields_start (head_of s)

  abbrev ls : List (List ℕ)
  ls = lines_from h f

  inside : head ≤ length s
  inside = omega (arith, a.body_inside)

  long_h : length h ≡ head
  long_h = length-take-le head s inside

  many : length ls ≡ fields
  many = count s starts colons head fields x

  pub line : LineAt h f i
  line = line_at h i f a.paired_on (omega (arith, many, less))

  starts_is : take fields starts ≡ line_starts f ls
  starts_is =
      x.starts_are ∙ ap (starts_of (head_of s)) a.read
      ∙ ap (line_starts f) (ap field_lines a.head_is ∙ a.lines_are)

  colons_is : take fields colons ≡ line_colons f ls
  colons_is =
      x.colons_are ∙ ap (colons_of (head_of s)) a.read
      ∙ ap (line_colons f) (ap field_lines a.head_is ∙ a.lines_are)

  pub start_there : get_or starts i 0 ≡ line.at
  start_there = sym (get_or-take fields starts i 0 less) ∙ ap (λ (l : List ℕ). get_or l i 0) starts_is ∙ at_front (line_starts f ls) i line.at 0 _ line.starts

  pub colon_there : get_or colons i 0 ≡ line.at + colon_in (part h line.at line.end)
  colon_there = sym (get_or-take fields colons i 0 less) ∙ ap (λ (l : List ℕ). get_or l i 0) colons_is ∙ at_front (line_colons f ls) i _ 0 _ line.colons

  abbrev at : ℕ
  at = line.at

  abbrev end : ℕ
  end = line.end

  abbrev l : List ℕ
  l = part h at end

  end_le : end ≤ head
  end_le = omega (arith, end_inside h at end line.inside line.end_is, long_h)

  at_le : at ≤ end
  at_le = end_order h at end line.inside line.end_is

  long_l : length l ≡ end - at
  long_l = line_long h at end line.inside line.end_is

  line_is : l ≡ part s at end
  line_is = part_front head at end s end_le

  colon_le : colon_in l ≤ length l
  unfolding colon_in
  colon_le = omega (arith, before_length (58 ∷ []) l, first_le (begins (58 ∷ [])) l)

  abbrev later : List (List ℕ)
  later = lines_from h (end + 2)

  later_count : i + 1 + length later ≡ fields
  later_count = omega (arith, ap length line.lines, length-drop i ls, many, less)

  pub few : 2 * i ≤ 65535
  few = omega (arith, line.on, line.inside, long_h, inside, a.short)

  -- the next line starts two bytes after this one
  next_by : (ks : List (List ℕ)) → 0 < length ks → get_or (line_starts (end + 2) ks) 0 0 ≡ end + 2
  unfolding line_starts
  next_by [] k = absurd (not-suc-le-zero k)
  next_by (k ∷ ks) m = refl

  pub next_there : i + 1 < fields → get_or starts (i + 1) 0 ≡ end + 2
  next_there more =
      sym (get_or-take fields starts (i + 1) 0 more) ∙ ap (λ (r : List ℕ). get_or r (i + 1) 0) starts_is
      ∙ ap (λ (k : ℕ). get_or (line_starts f ls) k 0) (sym (add-zero (i + 1))) ∙ sym (get_or-drop (i + 1) (line_starts f ls) 0 0)
      ∙ ap (λ (r : List ℕ). get_or r 0 0) (drop_next (line_starts f ls) i at (line_starts (end + 2) later) line.starts)
      ∙ next_by later (omega (arith, later_count))

  no_later : (ks : List (List ℕ)) → length ks ≡ 0 → ks ≡ []
  no_later [] k = refl
  no_later (k ∷ ks) m = absurd (omega arith)

  last_there : fields ≤ i + 1 → end ≡ head
  last_there past = last_line h at end line.inside line.paired_on line.end_is (no_later later (omega (arith, later_count))) ∙ long_h

  pub next_room : i + 1 < fields → 2 ≤ get_or starts (i + 1) 0
  next_room more = omega (arith, next_there more)

  -- the parts of field i are those of this line
  parts_so : field_parts (head_of s) i ≡ parts_of at l
  unfolding field_parts
  parts_so = (λ j. parts_of (the_start j) (the_line j))
    where
      lines_are : field_lines (head_of s) ≡ ls
      lines_are = ap field_lines a.head_is ∙ a.lines_are

      the_start : get_or (line_starts (fields_start (head_of s)) (field_lines (head_of s))) i 0 ≡ at
      the_start = ap (λ (r : List (List ℕ)). get_or (line_starts f r) i 0) lines_are ∙ at_front (line_starts f ls) i at 0 _ line.starts

      the_line : get_or (field_lines (head_of s)) i [] ≡ l
      the_line = ap (λ (r : List (List ℕ)). get_or r i []) lines_are ∙ at_front ls i l [] later line.lines

  -- what the code finds
  pub starts_place : i < length starts
  starts_place = omega (arith, ap length starts_is, starts_length f ls, many, length-take fields starts, min-le_right fields (length starts), less)

  pub colons_place : i < length colons
  colons_place = omega (arith, ap length colons_is, colons_length f ls, many, length-take fields colons, min-le_right fields (length colons), less)

  pub starts_room : fields ≤ length starts
  starts_room = omega (arith, ap length starts_is, starts_length f ls, many, length-take fields starts, min-le_right fields (length starts))

  module _ (p k : ℕ) (p_is : p ≡ get_or starts i 0) (k_is : k ≡ get_or colons i 0) where
    pub name_order : p ≤ k
    name_order = omega (arith, p_is, k_is, start_there, colon_there)

    pub name_inside : k ≤ length s
    name_inside = omega (arith, k_is, colon_there, colon_le, long_l, at_le, end_le, inside)

    pub small : k ≤ 65535
    small = omega (arith, name_inside, a.short)

    name_is : part s p k ≡ take (colon_in l) l
    name_is =
        let p_at : p ≡ at = p_is ∙ start_there in
        let k_at : k ≡ at + colon_in l = k_is ∙ colon_there in
        let n : k - p ≡ colon_in l = omega (arith, p_at, k_at) in
        (λ j. take (n j) (drop (p_at j) s))
        ∙ sym (ap (take (colon_in l)) line_is ∙ take-take (colon_in l) (end - at) (drop at s) (omega (arith, colon_le, long_l)))

    module _ (n : ℕ) (n_is : n ≡ length (trim_right (part s p k))) where
      pub stop_inside : p + n ≤ k
      stop_inside = omega (arith, n_is, trim_le (part s p k), length_part s p k name_order name_inside, name_order)

      pub parts_are : (e : ℕ) → e ≡ pick (ltb (i + 1) fields) (get_or starts (i + 1) 0 - 2) head
          → ◌≡◌ {A = FieldParts} (record { name = p; stop = p + n; value = k + 1; end = e }) (field_parts (head_of s) i)
      parts_are e e_is =
          let p_at : p ≡ at = p_is ∙ start_there in
          let n_so : p + n ≡ at + length (trim_right (take (colon_in l) l)) = (λ j. p_at j + (n_is ∙ ap (λ (r : List ℕ). length (trim_right r)) name_is) j) in
          let k_so : k + 1 ≡ at + colon_in l + 1 = ap (λ (j : ℕ). j + 1) (k_is ∙ colon_there) in
          let e_so : e ≡ at + length l = end_found e e_is ∙ omega (arith, long_l, at_le) in
          (λ j. record { name = p_at j; stop = n_so j; value = k_so j; end = e_so j })
          ∙ sym parts_so
        where
          end_found : (e : ℕ) → e ≡ pick (ltb (i + 1) fields) (get_or starts (i + 1) 0 - 2) head → e ≡ end
          end_found e e_is =
              elim (dec_le fields (i + 1)) [
                | yes g ↦ e_is ∙ sym (end_by_head starts head fields i g) ∙ sym (last_there g)
                | no g ↦
                    let more : i + 1 < fields = omega (arith, g) in
                    e_is ∙ sym (end_by_next starts head fields i (get_or starts (i + 1) 0) refl more) ∙ omega (arith, next_there more)
              ]

  -- ---- for callers

  lines_so : drop i ls ≡ l ∷ later
  lines_so = line.lines

  the_field : Nth i l a.request.fields
  the_field = nth i ls a.request.fields l later a.fields_are lines_so

  abbrev c : ℕ
  c = colon_in l

  abbrev written : List ℕ
  written = trim_right (take c l)

  written_short : length written ≤ c
  written_short = omega (arith, trim_le (take c l), length-take-le c l colon_le)

  written_is : written ≡ part s at (at + length written)
  written_is =
      let n : at + length written - at ≡ length written = omega arith in
      trim_front (take c l) ∙ take-take (length written) c l written_short
      ∙ ap (take (length written)) line_is ∙ take-take (length written) (end - at) (drop at s) (omega (arith, written_short, colon_le, long_l))
      ∙ ap (λ (k : ℕ). take k (drop at s)) (sym n)

  raw_is : drop (c + 1) l ≡ part s (at + c + 1) (at + length l)
  raw_is =
      let n : end - at - (c + 1) ≡ at + length l - (at + c + 1) = omega (arith, long_l, at_le) in
      let m : at + (c + 1) ≡ at + c + 1 = omega arith in
      ap (drop (c + 1)) line_is ∙ drop_take (c + 1) (end - at) (drop at s)
      ∙ (λ j. take (n j) ((drop-drop (c + 1) at s ∙ ap (λ (k : ℕ). drop k s) m) j))

  is_token : T (token written)
  is_token = name_token l the_field.one the_field.one_is

  written_some : 0 < length written
  written_some = token_long written is_token

  says : FieldSays s a.request head i (parts_of at l)
  says = record {
    list =
        the_field.there
        ∙ ap (λ (f : Field). f ∷ drop (i + 1) a.request.fields) (field_is l the_field.one the_field.one_is)
        ∙ (λ j. record { name = name_as_matched (written_is j); values = values_of (name_as_matched (written_is j)) (reduced (raw_is j)) } ∷ drop (i + 1) a.request.fields);
    name_order = omega (arith, written_some);
    colon_after = omega (arith, written_short);
    value_order = omega (arith, colon_in_line l the_field.one the_field.one_is);
    inside = omega (arith, long_l, at_le, end_le);
  }

  pub field_says : (q : Request) → read_request s ≡ some q → FieldSays s q head i (field_parts (head_of s) i)
  field_says q e =
      let same : a.request ≡ q = some-injective a.request q (sym a.read ∙ e) in
      subst (λ (r : FieldParts). FieldSays s q head i r) (sym parts_so) (subst (λ (y : Request). FieldSays s y head i (parts_of at l)) same says)

-- ---- what `read` leaves

module _ (s starts colons starts' colons' : List ℕ) (w : Places) (k : Read s starts colons starts' colons' (Some w)) where
  a_read : Accepts s w.head w.method w.uri (fields_start (head_of s))
  a_read = accepted_by s w k.answer

  lines_many : length (field_lines (head_of s)) ≡ w.fields
  lines_many =
      let ls = lines_from (take w.head s) (fields_start (head_of s)) in
      ap length (ap field_lines a_read.head_is ∙ a_read.lines_are) ∙ sym (fields_count ls a_read.request.fields a_read.fields_are)
      ∙ readable_count (head_of s) (read_request s) w a_read.request k.answer a_read.read

  starts_long : length (starts_of (head_of s) (read_request s)) ≡ w.fields
  starts_long =
      ap (λ (o : Option Request). length (starts_of (head_of s) o)) a_read.read ∙ starts_length (fields_start (head_of s)) (field_lines (head_of s)) ∙ lines_many

  colons_long : length (colons_of (head_of s) (read_request s)) ≡ w.fields
  colons_long =
      ap (λ (o : Option Request). length (colons_of (head_of s) o)) a_read.read ∙ colons_length (fields_start (head_of s)) (field_lines (head_of s)) ∙ lines_many

  pub placed : Placed s starts' colons' w
  placed = record {
    read = k.answer;
    starts_are = ap (take w.fields) k.starts_are ∙ take_at (starts_of (head_of s) (read_request s)) _ w.fields starts_long;
    colons_are = ap (take w.fields) k.colons_are ∙ take_at (colons_of (head_of s) (read_request s)) _ w.fields colons_long;
  }

-- ---- the fields' places alone

pub fielded : (s starts colons : List ℕ) (w : Places) → Placed s starts colons w → read_request s ≡ some (request_of s) → Fielded s starts colons w.head w.fields
fielded s starts colons w k e = record {
  read = e;
  head_is = sym (readable_head (head_of s) (read_request s) w (request_of s) k.read e);
  count = sym (readable_count (head_of s) (read_request s) w (request_of s) k.read e);
  starts_are = k.starts_are;
  colons_are = k.colons_are;
}

-- once they are written, and where body lines begin is still to be found
module _ (s starts colons : List ℕ) (j : Answer HeadPlaces) (ej : j ≡ judged (head_of s) (read_request s)) (e m u f : ℕ) (ea : j ≡ head_at e m u f)
    (starts' colons' : List ℕ) (n : ℕ) (k : Filled (take (e - 0) (drop 0 s)) f starts colons starts' colons' n) where
  abbrev found : Places
  found = record { method = m; uri = u; head = e; fields = n; lines = lines_start (head_of s) (request_of s) }

  pub filled_fields : Fielded s starts' colons' e n
  filled_fields =
      fielded s starts' colons' found
      (placed s starts colons starts' colons' found
      (read_accepted s starts colons j ej e m u f ea starts' colons' n k (lines_start (head_of s) (request_of s)) refl))
      (read_some s starts colons j ej e m u f ea)

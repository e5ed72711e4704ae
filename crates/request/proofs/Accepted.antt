-- What a request is that was judged readable: its parts by the places found.
use Rattle.std.proofs.lemmas.Option.{same_Some}
use Rattle.std.specs.Prelude.{Option as Answer, None}
use Rattle.request.specs.declared.HeadPlaces.{HeadPlaces}
use mathlib.Core.Bool.{Bool, true, false}
use mathlib.Core.Option.{Option, none, some, some-injective}
use mathlib.Core.Path.{◌≡◌, refl, sym, ap, ◌∙◌, subst}
use mathlib.Core.List.{List, [], ◌∷◌}
use Prim.Native.Nat.{ℕ, ◌+◌, ◌-◌, ◌≤◌, ◌<◌}
use native.Mathlib.Nat.{zero-add, sub-zero}
use native.Mathlib.Omega.{arith}
use native.Mathlib.Decide.{dec_le}
use lib.Dec.{T}
use lib.ListN.{length, get_or, take, drop, length-drop}
use lib.Seq.{length-take-le, take-take}
use Rattle.octets.specs.Bytes.{white}
use Rattle.octets.specs.Lists.{every}
use Rattle.octets.proofs.Tests.{test_cases, T_of, right}
use Rattle.cuts.specs.Cutting.{begins, first_line}
use Rattle.cuts.specs.Inner.Parts.{part}
use Rattle.cuts.specs.Inner.Searching.{first}
use Rattle.cuts.proofs.Parts.{part_front, length_part}
use Rattle.cuts.proofs.Search.{first_le, first_holds, begins_long}
use Rattle.request.specs.Inner.Places.{head_of, field_lines, fields_start, later_lines}
use Rattle.request.specs.Request.{Field, Request, Start, head_byte, paired, head_lines, whole_fields, start_line, all_fields, read_head, empty_line, read_request, bytes_right, parts_right}
use Rattle.request.specs.Inner.Steps.{head_at, start_places, lines_from, judged}
use Rattle.request.proofs.Head.{Pairs, pairs, pairs_paired}
use Rattle.request.proofs.Judging.{Starts, starts, cr, built, head_built, judge_long, judge_endless, judge_bytes, read_by_test, head_is_front}
use Rattle.request.proofs.Ends.{head_end}
use Rattle.request.proofs.StartParts.{started, start_no_sp, start_one_sp, start_wrong, start_whole}

-- ---- the start line

pub record StartsAt (l : List ℕ) (t : Start) : Type 0 where
  pub method : t.method ≡ take (length t.method) l
  pub uri : t.uri ≡ part l (length t.method + 1) (length t.method + 1 + length t.uri)
  pub inside : length t.method + 1 + length t.uri < length l

starts_at : (l : List ℕ) (m u : ℕ) (t : Start) → m < u → u < length l → record { method = take m l; uri = part l (m + 1) u } ≡ t → StartsAt l t
starts_at l m u t mu ul e = subst (StartsAt l) e (record {
  method = ap (λ (k : ℕ). take k l) (sym long_m);
  uri = (λ i. part l (sym long_m i + 1) (sym end_u i));
  inside = omega (arith, end_u);
})
  where
    long_m : length (take m l) ≡ m
    long_m = length-take-le m l (omega arith)

    long_u : length (part l (m + 1) u) ≡ u - (m + 1)
    long_u = length_part l (m + 1) u (omega arith) (omega arith)

    end_u : length (take m l) + 1 + length (part l (m + 1) u) ≡ u
    end_u = omega (arith, long_m, long_u)

not_bad : (o : Option Start) (t : Start) → o ≡ some t → None ≡ start_places o → ⊥
not_bad none t e b = let z : ◌≡◌ {A = ℕ} 0 1 = cc in omega arith
not_bad (some x) t e b = let z : ◌≡◌ {A = ℕ} 0 1 = cc in omega arith

pub start_some : (l : List ℕ) (t : Start) → start_line l ≡ some t → StartsAt l t
start_some l t e =
    let m = first (begins (32 ∷ [])) l in
    let u = m + 1 + first (begins (32 ∷ [])) (drop (m + 1) l) in
    let em : m ≡ 0 + m = sym (zero-add m) in
    elim (dec_le (length l) m) [
      | yes h ↦ absurd (not_bad (start_line l) t e (start_no_sp l m em h))
      | no h ↦
          let more : m < length l = omega (arith, h) in
          elim (dec_le (length l) u) [
            | yes g ↦ absurd (not_bad (start_line l) t e (start_one_sp l m em more u refl g))
            | no g ↦
                let further : u < length l = omega (arith, g) in
                let r = parts_right (take m l) (part l (m + 1) u) (drop (u + 1) l) in
                let at_r = start_whole l m em more u refl further r refl in
                test_cases r
                (λ y. starts_at l m u t (omega arith) further
                (some-injective (record { method = take m l; uri = part l (m + 1) u }) t (sym (at_r ∙ ap (started (take m l) (part l (m + 1) u)) y) ∙ e)))
                (λ n. absurd (not_bad (start_line l) t e (start_wrong l m em more u refl further r refl n)))
          ]
    ]

-- ---- the lines

-- a request that was put together from a start line and fields
record Built (h body : List ℕ) (o : Option Start) (folds : Bool) (fs : Option (List Field)) (e m u f : ℕ) : Type 0 where
  start : Start
  start_is : o ≡ some start
  list : List Field
  list_is : fs ≡ some list
  no_fold : folds ≡ false
  e_is : length h ≡ e
  m_is : length start.method ≡ m
  u_is : length start.method + 1 + length start.uri ≡ u
  f_is : fields_start h ≡ f

built_from : (h body : List ℕ) (o : Option Start) (folds : Bool) (fs : Option (List Field)) (e m u f : ℕ)
    → head_at e m u f ≡ judged h (built body o folds fs) → Built h body o folds fs e m u f
built_from h body none folds fs e m u f q = let z : ◌≡◌ {A = ℕ} 0 1 = cc in absurd (omega arith)
built_from h body (some t) true fs e m u f q = let z : ◌≡◌ {A = ℕ} 0 1 = cc in absurd (omega arith)
built_from h body (some t) false none e m u f q = let z : ◌≡◌ {A = ℕ} 0 1 = cc in absurd (omega arith)
built_from h body (some t) false (some l) e m u f q = record {
  start = t;
  start_is = refl;
  list = l;
  list_is = refl;
  no_fold = refl;
  e_is = sym (ap (λ (p : HeadPlaces). p.head) (same_Some _ _ q));
  m_is = sym (ap (λ (p : HeadPlaces). p.method) (same_Some _ _ q));
  u_is = sym (ap (λ (p : HeadPlaces). p.uri) (same_Some _ _ q));
  f_is = sym (ap (λ (p : HeadPlaces). p.fields) (same_Some _ _ q));
}

-- ---- the request

-- it reads as q; e, m and u are where its head, its method and its URI end, f where the line of its first field starts
pub record Accepts (s : List ℕ) (e m u f : ℕ) : Type 0 where
  pub request : Request
  pub read : read_request s ≡ some request
  pub short : length s ≤ 65535
  pub body_inside : e + 4 ≤ length s
  pub head_is : head_of s ≡ take e s
  pub method_is : request.method ≡ take m s
  pub uri_is : request.uri ≡ part s (m + 1) u
  pub body_is : request.body ≡ drop (e + 4) s
  pub before_uri : m < u
  pub uri_inside : u < e
  pub start_is : f ≡ fields_start (take e s)
  pub start_inside : f ≤ e + 2
  pub paired_on : T (paired 0 (drop f (take e s)))
  pub lines_are : field_lines (take e s) ≡ lines_from (take e s) f
  pub fields_are : all_fields (lines_from (take e s) f) ≡ some request.fields

refused_not : (j : Answer HeadPlaces) (e m u f : ℕ) → head_at e m u f ≡ j → None ≡ j → ⊥
refused_not j e m u f a r = let z : ◌≡◌ {A = ℕ} 0 1 = cc in omega arith

-- the head h has right bytes, and the body follows it
module _ (s : List ℕ) (e₀ : ℕ) (short : length s ≤ 65535) (inside : e₀ + 4 ≤ length s) (front : head_of s ≡ take e₀ s) (right_pairs : T (paired 0 (take e₀ s)))
    (reads : read_request s ≡ read_head (head_lines (take e₀ s)) (drop (e₀ + 4) s)) (e m u f : ℕ) (q : head_at e m u f ≡ judged (head_of s) (read_request s)) where
  abbrev h : List ℕ
  h = take e₀ s

  abbrev body : List ℕ
  body = drop (e₀ + 4) s

  abbrev n : ℕ
  n = cr h

  long_h : length h ≡ e₀
  long_h = length-take-le e₀ s (omega arith)

  n_le : n ≤ e₀
  n_le = omega (arith, first_le (begins (13 ∷ [])) h, long_h)

  abbrev line : List ℕ
  line = take (n - 0) (drop 0 h)

  line_is : line ≡ take n s
  line_is = ap (λ (k : ℕ). take k h) (sub-zero n) ∙ take-take n e₀ s n_le

  abbrev fold : Bool
  fold = white (get_or h (n + 2) 0)

  abbrev fields : Option (List Field)
  fields = all_fields (lines_from h (n + 2))

  lines_are : read_head (head_lines h) body ≡ built body (start_line line) fold fields
  lines_are = head_built h n (omega (arith, long_h), right_pairs) (sym (zero-add n)) body fold refl

  whole : Built h body (start_line line) fold fields e m u f
  whole = built_from h body (start_line line) fold fields e m u f (q ∙ (λ i. judged (front i) ((reads ∙ lines_are) i)))

  at_start : StartsAt line whole.start
  at_start = start_some line whole.start whole.start_is

  found_start : Starts h n
  found_start = starts (pairs h right_pairs)

  f_found : f ≡ n + 2
  f_found = sym whole.f_is ∙ ap (λ (ls : List (List ℕ)). length (first_line ls) + 2) found_start.lines ∙ ap (λ (k : ℕ). k + 2) (length-take-le n h (first_le (begins (13 ∷ [])) h))

  e_found : e₀ ≡ e
  e_found = sym long_h ∙ whole.e_is

  long_line : length line ≡ n
  long_line = ap length line_is ∙ length-take-le n s (omega (arith, n_le, inside))

  fields_found : field_lines h ≡ lines_from h f
  unfolding field_lines
  fields_found = ap (λ (ls : List (List ℕ)). whole_fields (later_lines ls)) found_start.lines ∙ found_start.fields ∙ ap (lines_from h) (sym f_found)

  the_request : Request
  the_request = record { method = whole.start.method; uri = whole.start.uri; fields = whole.list; body = body }

  accepted : Accepts s e m u f
  unfolding the_request
  accepted = record {
    request = the_request;
    read = reads ∙ lines_are ∙ (λ i. built body (whole.start_is i) (whole.no_fold i) (whole.list_is i));
    short = short;
    body_inside = omega (arith, e_found, inside);
    head_is = front ∙ ap (λ (k : ℕ). take k s) e_found;
    method_is = at_start.method ∙ (λ i. take (whole.m_is i) (line_is i)) ∙ take-take m n s (omega (arith, at_start.inside, whole.m_is, long_line));
    uri_is = at_start.uri ∙ (λ i. part (line_is i) (whole.m_is i + 1) (whole.u_is i)) ∙ part_front n (m + 1) u s (omega (arith, at_start.inside, whole.u_is, long_line));
    body_is = ap (λ (k : ℕ). drop (k + 4) s) e_found;
    before_uri = omega (arith, whole.m_is, whole.u_is);
    uri_inside = omega (arith, at_start.inside, whole.u_is, long_line, n_le, e_found);
    start_is = sym whole.f_is ∙ ap (λ (k : ℕ). fields_start (take k s)) e_found;
    start_inside = omega (arith, f_found, n_le, e_found);
    paired_on = pairs_paired (subst (λ (l : List ℕ). Pairs l) (λ i. drop (sym f_found i) (take (e_found i) s)) found_start.rest);
    lines_are = subst (λ (k : ℕ). field_lines (take k s) ≡ lines_from (take k s) f) e_found fields_found;
    fields_are = (λ i. all_fields (lines_from (take (sym e_found i) s) (f_found i))) ∙ whole.list_is;
  }

-- what is known of a request that was judged readable
pub accepts : (s : List ℕ) (e m u f : ℕ) → head_at e m u f ≡ judged (head_of s) (read_request s) → Accepts s e m u f
accepts s e m u f q =
    let e₀ = length (head_of s) in
    let not_so = refused_not (judged (head_of s) (read_request s)) e m u f q in
    elim (dec_le (length s) 65535) [
      | no h ↦ absurd (not_so (judge_long s (omega (arith, h))))
      | yes short ↦
          elim (dec_le (length s) e₀) [
            | yes h ↦ absurd (not_so (judge_endless s short e₀ refl h))
            | no h ↦
                let more : e₀ < length s = omega (arith, h) in
                let front : head_of s ≡ take e₀ s = head_is_front s short e₀ refl more in
                let place : first (begins empty_line) s ≡ e₀ = sym (head_end s) in
                let mark : begins empty_line (drop e₀ s) ≡ true = subst (λ (k : ℕ). begins empty_line (drop k s) ≡ true) place (first_holds (begins empty_line) s (omega (arith, place))) in
                test_cases (bytes_right (head_of s))
                (λ y. accepted s e₀ short (omega (arith, begins_long empty_line (drop e₀ s) mark, length-drop e₀ s, more)) front
                (subst (λ (l : List ℕ). T (paired 0 l)) front (right (every head_byte (head_of s)) (paired 0 (head_of s)) (T_of y))) (read_by_test s short e₀ refl more true y) e m u f q)
                (λ n. absurd (not_so (judge_bytes s short e₀ refl more n)))
          ]
    ]

-- Judging a request: its head, its start line and its fields, by the places that the code finds.
use Rattle.std.proofs.lemmas.Option.{same_Some}
use Rattle.std.specs.Prelude.{Option as Answer, None}
use Rattle.request.specs.declared.HeadPlaces.{HeadPlaces}
use Rattle.request.specs.declared.start_lines.StartPlaces.{StartPlaces}
use mathlib.Core.Bool.{Bool, true, false, not, ◌&&◌}
use mathlib.Core.Option.{Option, none, some}
use mathlib.Core.Path.{◌≡◌, refl, sym, ap, ◌∙◌, subst}
use mathlib.Core.List.{List, [], ◌∷◌}
use Prim.Native.Nat.{ℕ, suc, ◌+◌, ◌-◌, ◌≤◌, ◌<◌}
use native.Mathlib.Nat.{suc-add, sub-zero}
use native.Mathlib.Omega.{arith}
use lib.Dec.{T, eqb}
use lib.ListN.{length, get_or, take, drop}
use lib.Seq.{length-take-le}
use borrow.Author.Tests.{le-leb, lt-leb, eqb-false, ne_eqb, not-true, not-false}
use Rattle.octets.specs.Bytes.{white}
use Rattle.octets.specs.Lists.{every}
use Rattle.octets.specs.Option.{◌>>=◌, holds}
use Rattle.octets.proofs.Tests.{right, T_of}
use Rattle.cuts.specs.Cutting.{Cut, begins, push, first_cut, cut_by, before_cut, first_line}
use Rattle.cuts.specs.Inner.Searching.{first}
use Rattle.cuts.proofs.Search.{first_le, first_no, cut_found, cut_missing}
use Rattle.request.specs.Inner.Places.{head_of, fields_start}
use Rattle.request.specs.Request.{Field, Request, Start, head_byte, paired, head_lines, continues, whole_fields, start_line, field, all_fields, read_head, empty_line, read_request, bytes_right}
use Rattle.request.specs.Inner.Steps.{start_at, head_at, start_places, is_some, is_field, lines_from, judged}
use Rattle.request.proofs.Head.{Pairs, pairs_end, pairs_byte, pairs_fold, pairs, pairs_paired}
use Rattle.request.proofs.Lines.{lines_byte, continues_at, from_suc, from_start}
use Rattle.request.proofs.Ends.{head_end}

-- ---- the start line and what follows it

abbrev pub cr : List ℕ → ℕ
cr s = first (begins (13 ∷ [])) s

-- the start line ends at the first CR
pub record Starts (h : List ℕ) (n : ℕ) : Type 0 where
  pub later : List (List ℕ)
  pub lines : head_lines h ≡ take n h ∷ later
  pub folds : continues later ≡ white (get_or h (n + 2) 0)
  pub fields : whole_fields later ≡ lines_from h (n + 2)
  pub rest : Pairs (drop (n + 2) h)

starts_byte : (b : ℕ) (s : List ℕ) (n : ℕ) → eqb b 13 ≡ false → eqb b 10 ≡ false → Starts s n → Starts (b ∷ s) (suc n)
starts_byte b s n e f k =
    let next : suc n + 2 ≡ suc (n + 2) = suc-add n 2 in
    record {
      later = k.later;
      lines = lines_byte b s e f ∙ ap (push b) k.lines;
      folds = k.folds ∙ ap (λ (j : ℕ). white (get_or (b ∷ s) j 0)) (sym next);
      fields = k.fields ∙ sym (from_suc b s (n + 2)) ∙ ap (lines_from (b ∷ s)) (sym next);
      rest = subst (λ (j : ℕ). Pairs (drop j (b ∷ s))) (sym next) k.rest;
    }

starts_fold : (s : List ℕ) → Pairs s → Starts (13 ∷ 10 ∷ s) 0
unfolding cut_by
starts_fold s p = record {
  later = head_lines s;
  lines = refl;
  folds = continues_at p;
  fields = sym (from_suc 13 (10 ∷ s) 1 ∙ from_suc 10 s 0 ∙ from_start s);
  rest = p;
}

starts_end : Starts [] 0
unfolding cut_by whole_fields lines_from
starts_end = record { later = []; lines = refl; folds = refl; fields = refl; rest = pairs_end }

pub starts : {h : List ℕ} → Pairs h → Starts h (cr h)
unfolding first
starts pairs_end = starts_end
starts (pairs_byte {b} {s} e f p) =
    subst (Starts (b ∷ s)) (sym (first_no (begins (13 ∷ [])) b s (rw (ne_eqb 13 b (λ q. eqb-false b 13 e (sym q)))))) (starts_byte b s (cr s) e f (starts p))
starts (pairs_fold {s} p) = starts_fold s p

-- ---- what is found of the lines

all_step : (o : Option Field) (p : Option (List Field)) → is_some (o >>= λ f. p >>= λ fs. some (f ∷ fs)) ≡ (is_some o && is_some p)
all_step none p = refl
all_step (some f) none = refl
all_step (some f) (some fs) = refl

pub all_fields_some : (ls : List (List ℕ)) → is_some (all_fields ls) ≡ every is_field ls
unfolding all_fields
all_fields_some [] = refl
all_fields_some (l ∷ ls) = all_step (field l) (all_fields ls) ∙ ap (λ (t : Bool). is_field l && t) (all_fields_some ls)

abbrev pub built : List ℕ → Option Start → Bool → Option (List Field) → Option Request
built body o folds fs = do
  t ← o
  _ ← holds (not folds)
  l ← fs
  some (record { method = t.method; uri = t.uri; fields = l; body = body })

module _ (h body : List ℕ) where
  built_folds : (o : Option Start) (fs : Option (List Field)) → judged h (built body o true fs) ≡ None
  built_folds none fs = refl
  built_folds (some t) fs = refl

  built_bad : (o : Option Start) (folds : Bool) (fs : Option (List Field)) → start_places o ≡ None → judged h (built body o folds fs) ≡ None
  built_bad none folds fs e = refl
  built_bad (some t) folds fs e = let z : ◌≡◌ {A = ℕ} 0 1 = cc in absurd (omega arith)

  built_wrong : (o : Option Start) (folds : Bool) (fs : Option (List Field)) → is_some fs ≡ false → judged h (built body o folds fs) ≡ None
  built_wrong none folds fs e = refl
  built_wrong (some t) true fs e = refl
  built_wrong (some t) false none e = refl
  built_wrong (some t) false (some l) e = let z : ◌≡◌ {A = ℕ} 0 1 = cc in absurd (omega arith)

  built_right : (o : Option Start) (fs : Option (List Field)) (m u : ℕ) → start_places o ≡ start_at m u → is_some fs ≡ true
      → judged h (built body o false fs) ≡ head_at (length h) m u (fields_start h)
  built_right none fs m u e f = let z : ◌≡◌ {A = ℕ} 0 1 = cc in absurd (omega arith)
  built_right (some t) none m u e f = let z : ◌≡◌ {A = ℕ} 0 1 = cc in absurd (omega arith)
  built_right (some t) (some l) m u e f =
      let same = same_Some _ _ e in
      let em : length t.method ≡ m = ap (λ (p : StartPlaces). p.method) same in
      let eu : length t.method + 1 + length t.uri ≡ u = ap (λ (p : StartPlaces). p.uri) same in
      (λ i. head_at (length h) (em i) (eu i) (fields_start h))

module _ (h : List ℕ) (n : ℕ) (pre : (length h ≤ 65535) × T (paired 0 h)) (en : n ≡ 0 + first (begins (13 ∷ [])) (drop 0 h)) where
  here : Starts h n
  here = let e : cr h ≡ n = omega (arith, en) in subst (Starts h) e (starts (pairs h pre.1))

  pub n_inside : n ≤ length h
  n_inside = omega (arith, en, first_le (begins (13 ∷ [])) h)

  pub rest_paired : T (paired 0 (drop (n + 2) h))
  rest_paired = pairs_paired here.rest

  pub head_built : (body : List ℕ) (folds : Bool) → folds ≡ white (get_or h (n + 2) 0)
      → read_head (head_lines h) body ≡ built body (start_line (take (n - 0) (drop 0 h))) folds (all_fields (lines_from h (n + 2)))
  head_built body folds ef =
      ap (λ (ls : List (List ℕ)). read_head ls body) here.lines
      ∙ (λ i. built body (start_line (take (sym (sub-zero n) i) h)) ((here.folds ∙ sym ef) i) (all_fields (here.fields i)))

  abbrev line : List ℕ
  line = take (n - 0) (drop 0 h)

  abbrev fields : Option (List Field)
  fields = all_fields (lines_from h (n + 2))

  module _ (b : ℕ) (eb : b ≡ get_or h (n + 2) 0) (w : Bool) (ew : w ≡ white b) where
    by_fold : (t : Bool) → w ≡ t → read_head (head_lines h) [] ≡ built [] (start_line line) t fields
    by_fold t e = head_built [] w (ew ∙ ap white eb) ∙ ap (λ (x : Bool). built [] (start_line line) x fields) e

    pub lines_fold : w ≡ true → None ≡ judged h (read_head (head_lines h) [])
    lines_fold e = sym (ap (judged h) (by_fold true e) ∙ built_folds h [] (start_line line) fields)

    module _ (y : w ≡ false) (t : Answer StartPlaces) (et : t ≡ start_places (start_line line)) where
      pub lines_bad : t ≡ None → None ≡ judged h (read_head (head_lines h) [])
      lines_bad e = sym (ap (judged h) (by_fold false y) ∙ built_bad h [] (start_line line) false fields (sym et ∙ e))

      module _ (m u : ℕ) (e : t ≡ start_at m u) (r : Bool) (er : r ≡ every is_field (lines_from h (n + 2))) where
        some_is : is_some fields ≡ r
        some_is = all_fields_some (lines_from h (n + 2)) ∙ sym er

        pub lines_wrong : r ≡ false → None ≡ judged h (read_head (head_lines h) [])
        lines_wrong q = sym (ap (judged h) (by_fold false y) ∙ built_wrong h [] (start_line line) false fields (some_is ∙ q))

        pub lines_right : r ≡ true → head_at (length h) m u (n + 2) ≡ judged h (read_head (head_lines h) [])
        lines_right q =
            let start : fields_start h ≡ n + 2 = ap (λ (ls : List (List ℕ)). length (first_line ls) + 2) here.lines ∙ ap (λ (k : ℕ). k + 2) (length-take-le n h n_inside) in
            sym (ap (judged h) (by_fold false y) ∙ built_right h [] (start_line line) fields m u (sym et ∙ e) (some_is ∙ q) ∙ ap (head_at (length h) m u) start)

-- ---- the head

body_free : (h b c : List ℕ) (o : Option Start) (folds : Bool) (fs : Option (List Field)) → judged h (built b o folds fs) ≡ judged h (built c o folds fs)
body_free h b c none folds fs = refl
body_free h b c (some t) true fs = refl
body_free h b c (some t) false none = refl
body_free h b c (some t) false (some l) = refl

-- the body plays no part
head_free : (h b c : List ℕ) (ls : List (List ℕ)) → judged h (read_head ls b) ≡ judged h (read_head ls c)
head_free h b c [] = refl
head_free h b c (l ∷ ls) = body_free h b c (start_line l) (continues ls) (all_fields (whole_fields ls))

-- "At most 65,535 bytes."
pub long_unreadable : (s : List ℕ) → 65535 < length s → read_request s ≡ none
unfolding read_request
long_unreadable s h = rw (lt-leb (length s) 65535 h)

pub judge_long : (s : List ℕ) → 65535 < length s → None ≡ judged (head_of s) (read_request s)
judge_long s h = sym (ap (judged (head_of s)) (long_unreadable s h))

module _ (s : List ℕ) (short : length s ≤ 65535) (e : ℕ) (e_is : e ≡ length (head_of s)) where
  abbrev reading : Option Cut → Option Request
  reading o = do
    c ← o
    _ ← holds (bytes_right c.before)
    read_head (head_lines c.before) c.after

  read_is : read_request s ≡ reading (first_cut empty_line s)
  unfolding read_request
  read_is = ap (λ (t : Bool). holds t >>= λ _. reading (first_cut empty_line s)) (le-leb (length s) 65535 short)

  place : first (begins empty_line) s ≡ e
  place = sym (e_is ∙ head_end s)

  pub judge_endless : length s ≤ e → None ≡ judged (head_of s) (read_request s)
  judge_endless h = sym (ap (judged (head_of s)) (read_is ∙ ap reading (cut_missing empty_line s (omega (arith, place)))))

  module _ (more : e < length s) where
    cut : first_cut empty_line s ≡ some (record { before = take e s; after = drop (e + 4) s })
    cut =
        cut_found empty_line s (omega (arith, place))
        ∙ ap (λ (k : ℕ). some (record { before = take k s; after = drop (k + 4) s })) place

    pub head_is_front : head_of s ≡ take e s
    unfolding head_of
    head_is_front = ap (before_cut s) cut

    pub read_by_test : (t : Bool) → bytes_right (head_of s) ≡ t → read_request s ≡ (holds t >>= λ _. read_head (head_lines (take e s)) (drop (e + 4) s))
    read_by_test t q =
        read_is ∙ ap reading cut
        ∙ ap (λ (x : Bool). holds x >>= λ _. read_head (head_lines (take e s)) (drop (e + 4) s)) (ap bytes_right (sym head_is_front) ∙ q)

    pub judge_bytes : bytes_right (head_of s) ≡ false → None ≡ judged (head_of s) (read_request s)
    judge_bytes n = sym (ap (judged (head_of s)) (read_by_test false n))

    -- ---- what the code finds of its bytes

    abbrev front : List ℕ
    front = take (e - 0) (drop 0 s)

    front_is : front ≡ take e s
    front_is = ap (λ (k : ℕ). take k s) (sub-zero e)

    pub front_short : length front ≤ 65535
    front_short = omega (arith, ap length front_is, length-take-le e s (omega arith))

    module _ (r : Bool) (er : r ≡ bytes_right front) where
      right_is : bytes_right (head_of s) ≡ r
      right_is = ap bytes_right (head_is_front ∙ sym front_is) ∙ sym er

      pub judge_wrong : not r ≡ true → None ≡ judged (head_of s) (read_request s)
      judge_wrong n = judge_bytes (right_is ∙ not-true r n)

      module _ (y : not r ≡ false) where
        pub front_paired : T (paired 0 front)
        front_paired = right (every head_byte front) (paired 0 front) (T_of (sym er ∙ not-false r y))

        pub judge_lines : (j : Answer HeadPlaces) → j ≡ judged front (read_head (head_lines front) []) → j ≡ judged (head_of s) (read_request s)
        judge_lines j ej =
            ej ∙ ap (λ (l : List ℕ). judged l (read_head (head_lines l) [])) front_is
            ∙ head_free (take e s) [] (drop (e + 4) s) (head_lines (take e s))
            ∙ ap (λ (l : List ℕ). judged l (read_head (head_lines (take e s)) (drop (e + 4) s))) (sym head_is_front)
            ∙ sym (ap (judged (head_of s)) (read_by_test true (right_is ∙ not-false r y)))

-- A row by its kind, and its negation.
use Rattle.std.specs.Prelude.{is_some}
use mathlib.Core.Bool.{Bool, true, false, not, ◌&&◌}
use mathlib.Core.Option.{some}
use mathlib.Core.Path.{◌≡◌, refl, sym, ap, ap₂, ◌∙◌, subst}
use mathlib.Core.List.{List}
use Prim.Native.Nat.{ℕ, ◌+◌, ◌*◌, ◌≤◌, ◌<◌}
use native.Mathlib.Omega.{arith}
use lib.Dec.{eqb}
use borrow.Author.Tests.{eqb-false, eq-eqb, ne_eqb}
use Rattle.octets.specs.Lists.{pick, same}
use Rattle.basic.specs.Reading.{read_pattern}
use Rattle.profile.specs.Inner.Decoded.{strings, string_of, or_empty, pattern_of, or_absent, test_from, row_from}
use Rattle.profile.specs.Image.{Stored, Test, request_uri, method, header, session_case, description}
use Rattle.profile.specs.Inner.Kept.{Standing, nth_row, ByPattern, Matchable}
use Rattle.entries.specs.Inner.Places.{row_numbers}
use Rattle.profile.specs.declared.Layout.{Layout}
use Rattle.entries.specs.declared.Row.{Row}
use Rattle.profile.proofs.Standings.{row_matchable}
use Rattle.contents.specs.Body.{Line, session_lines}
use Rattle.request.specs.Request.{request_lines, Request}
use Rattle.request.specs.Inner.Places.{request_of}
use Rattle.rows.specs.Rows.{registration_fits, test_fits, test_trials, row_fits, row_trials}
use Rattle.rows.specs.declared.Given.{Given}
use Rattle.rows.specs.Inner.Tried.{PatternsOf, Tried}
use Rattle.trials.specs.Inner.Trying.{values_row, item_row, field_row, line_row, all_rows, most_trials}
use Rattle.trials.specs.Inner.Patterns.{content_bytes}
use Rattle.trials.specs.declared.row_patterns.RowPatterns.{RowPatterns}
use Rattle.rows.specs.Inner.Trying.{one_trial, patterns_row, test_row}
use Rattle.trials.specs.declared.Verdict.{Verdict}
use Rattle.rows.proofs.Patterns.{read_some, fields_as, lines_as}

-- ---- a row with patterns, over the body or the head

pub patterns_body : (s : List ℕ) (n : Bool) (h : List ℕ) (with : Bool) (c rest : List ℕ) → n ≡ false → session_lines rest ≡ request_lines (request_of s)
    → (v : Verdict) → v ≡ all_rows (line_row h with c) (session_lines rest) → v ≡ patterns_row (request_of s) (not n) h with c
unfolding patterns_row
patterns_body s n h with c rest e l v ev =
    ev ∙ ap (λ (x : List Line). all_rows (line_row h with c) x) l ∙ sym (ap (λ (t : Bool). patterns_row (request_of s) (not t) h with c) e)

pub patterns_head : (s : List ℕ) (n : Bool) (h : List ℕ) (with : Bool) (c : List ℕ) → n ≡ true → (v : Verdict)
    → v ≡ all_rows (field_row h with c) (request_of s).fields → v ≡ patterns_row (request_of s) (not n) h with c
unfolding patterns_row
patterns_head s n h with c e v ev = ev ∙ sym (ap (λ (t : Bool). patterns_row (request_of s) (not t) h with c) e)

-- without Content its bytes are not looked at
no_content : (q : Request) (b : Bool) (h c d : List ℕ) → patterns_row q b h false c ≡ patterns_row q b h false d
unfolding patterns_row field_row line_row item_row values_row
no_content q b h c d = refl

content_free : (q : Request) (b : Bool) (h c d : List ℕ) (absent : Bool) → (absent ≡ false → c ≡ d)
    → patterns_row q b h (not absent) c ≡ patterns_row q b h (not absent) d
content_free q b h c d true e = no_content q b h c d
content_free q b h c d false e = ap (patterns_row q b h true) (e refl)

-- ---- the kinds

pub single_few : (b : Bool) (v : Verdict) → v ≡ one_trial b → v.trials ≤ most_trials
single_few b v e = let n : v.trials ≡ 1 = ap (λ (u : Verdict). u.trials) e in omega arith

-- a row's test, by four tests of its kind
abbrev pub chosen : Bool → Bool → Bool → Bool → List Stored → Row → Test
chosen uri named head case strs r =
    pick uri (request_uri (string_of strs r.first).bytes)
    (pick named (method (string_of strs r.first).bytes r.set)
    (pick head (header (pattern_of strs r.first) (or_absent (pattern_of strs) r.second))
    (pick case (session_case r.first) (description (pattern_of strs r.first) (or_absent (pattern_of strs) r.second)))))

pub test_chosen : (strs : List Stored) (r : Row) (u m h c : Bool) → eqb r.kind 0 ≡ u → eqb r.kind 1 ≡ m → eqb r.kind 2 ≡ h → eqb r.kind 3 ≡ c
    → test_from strs r ≡ chosen u m h c strs r
unfolding test_from
test_chosen strs r u m h c eu em eh ec = (λ i. chosen (eu i) (em i) (eh i) (ec i) strs r)

pub kind_is : (strs : List Stored) (r : Row) (k : ℕ) → r.kind ≡ k → test_from strs r ≡ chosen (eqb k 0) (eqb k 1) (eqb k 2) (eqb k 3) strs r
kind_is strs r k e =
    test_chosen strs r (eqb k 0) (eqb k 1) (eqb k 2) (eqb k 3) (ap (λ (n : ℕ). eqb n 0) e) (ap (λ (n : ℕ). eqb n 1) e)
    (ap (λ (n : ℕ). eqb n 2) e) (ap (λ (n : ℕ). eqb n 3) e)

module _ (strs : List Stored) (r : Row) (q : Request) (g : Given) where
  pub case_row : r.kind ≡ 3 → (w : ℕ) → w ≡ g.case → (v : Verdict) → v ≡ one_trial (eqb r.first w) → v ≡ test_row q g (test_from strs r)
  unfolding test_row test_fits test_trials
  case_row e w ew v ev = ev ∙ ap (λ (n : ℕ). one_trial (eqb r.first n)) ew ∙ sym (ap (test_row q g) (kind_is strs r 3 e))

module _ (q : Request) (strs : List Stored) (r : Row) (g : Given) (t x : List ℕ) (et : t ≡ (string_of strs r.first).bytes) (b : Bool) (v : Verdict)
    (ev : v ≡ one_trial b) where
  pub uri_row : r.kind ≡ 0 → x ≡ q.uri → b ≡ same t x → v ≡ test_row q g (test_from strs r)
  unfolding test_row test_fits test_trials
  uri_row e ex eb = ev ∙ ap one_trial (eb ∙ ap₂ same et ex) ∙ sym (ap (test_row q g) (kind_is strs r 0 e))

  pub method_row : r.kind ≡ 1 → x ≡ q.method → b ≡ (same t x && registration_fits t r.set g.registration) → v ≡ test_row q g (test_from strs r)
  unfolding test_row test_fits test_trials
  method_row e ex eb =
      ev ∙ ap one_trial (eb ∙ ap₂ (λ (x y : List ℕ). same x y && registration_fits x r.set g.registration) et ex)
      ∙ sym (ap (test_row q g) (kind_is strs r 1 e))

-- the bytes of a row's patterns, and whether Content is absent
abbrev pub first_text : List Stored → Row → List ℕ
first_text strs r = (string_of strs r.first).bytes

abbrev pub content_text : List Stored → Row → List ℕ
content_text strs r = (string_of strs r.second).bytes

abbrev pub absent : Row → Bool
absent r = eqb r.second 65535

module _ (strs : List Stored) (r : Row) (matchable : Matchable strs r) (not_case : r.kind ≡ 3 → ⊥) (not_uri : r.kind ≡ 0 → ⊥) (not_method : r.kind ≡ 1 → ⊥) where
  by_pattern : ByPattern r
  by_pattern = record { not_uri = not_uri; not_method = not_method; not_case = not_case }

  pub first_read : read_pattern (first_text strs r) ≡ some (or_empty (read_pattern (first_text strs r)))
  first_read = read_some (first_text strs r) (matchable.first by_pattern)

  pub content_read : absent r ≡ false → read_pattern (content_text strs r) ≡ some (or_empty (read_pattern (content_text strs r)))
  content_read e = read_some (content_text strs r) (matchable.second by_pattern (eqb-false r.second 65535 e))

  pub test_is : (b : Bool) → eqb r.kind 2 ≡ b → test_from strs r ≡ chosen false false b false strs r
  test_is b e = test_chosen strs r false false b false (ne_eqb r.kind 0 not_uri) (ne_eqb r.kind 1 not_method) e (ne_eqb r.kind 3 not_case)

  module _ (q : Request) (g : Given) where
    abbrev h : List ℕ
    h = first_text strs r

    abbrev c : List ℕ
    c = content_text strs r

    kinds : (b : Bool) → eqb r.kind 2 ≡ b → patterns_row q (not b) h (not (absent r)) c ≡ test_row q g (test_from strs r)
    unfolding patterns_row test_row test_fits test_trials pattern_of
    kinds true e =
        fields_as h c (or_empty (read_pattern h)) (or_empty (read_pattern c)) first_read (absent r) content_read q.fields
        ∙ sym (ap (test_row q g) (test_is true e))
    kinds false e =
        lines_as h c (or_empty (read_pattern h)) (or_empty (read_pattern c)) first_read (absent r) content_read (request_lines q)
        ∙ sym (ap (test_row q g) (test_is false e))

    module _ (p : RowPatterns) (k : PatternsOf strs r p) where
      by_bytes : (b : Bool) → patterns_row q b p.name.bytes.now (is_some p.content) (content_bytes p.content) ≡ patterns_row q b h (not (absent r)) c
      by_bytes b =
          ap₂ (λ (t : List ℕ) (w : Bool). patterns_row q b t w (content_bytes p.content)) k.name_is k.content.present
          ∙ content_free q b h (content_bytes p.content) c (absent r) (λ e. k.content.named (eqb-false r.second 65535 e))

      pub pattern_row : (v : Verdict) → v ≡ patterns_row q (not p.name.for_names) p.name.bytes.now (is_some p.content) (content_bytes p.content)
          → v ≡ test_row q g (test_from strs r)
      pattern_row v ev = ev ∙ by_bytes (not p.name.for_names) ∙ ap (λ (n : Bool). patterns_row q (not n) h (not (absent r)) c) k.for_names ∙ kinds (eqb r.kind 2) refl

-- ---- row k of an image that stands, by the numbers that were read

module _ (s table : List ℕ) (y : Layout) (stands : Standing s table y) (k : ℕ) (r : Row) (er : r ≡ row_numbers s (y.rows + 7 * k)) where
  pub kth_matchable : k < y.row_count → Matchable (strings s) r
  kth_matchable h = subst (Matchable (strings s)) (sym er) (row_matchable s table y stands k h)

  module _ (q : Request) (g : Given) (v : Verdict) (ev : v ≡ test_row q g (test_from (strings s) r)) (few : v.trials ≤ most_trials) where
    kth_tested : v ≡ test_row q g (nth_row s y k).test
    unfolding row_from
    kth_tested = ev ∙ ap (λ (x : Row). test_row q g (test_from (strings s) x)) er

    kth_fits : v.fits ≡ test_fits q g (nth_row s y k).test
    unfolding test_row
    kth_fits = ap (λ (u : Verdict). u.fits) kth_tested

    kth_trials : v.trials ≡ row_trials q (nth_row s y k)
    unfolding test_row row_trials
    kth_trials = ap (λ (u : Verdict). u.trials) kth_tested

    -- "Then negation."
    kth_negated : (b : Bool) → eqb r.negated 1 ≡ b → pick b (not v.fits) v.fits ≡ row_fits q g (nth_row s y k)
    unfolding row_fits row_from
    kth_negated b e =
        ap (λ (f : Bool). pick b (not f) f) kth_fits
        ∙ ap (λ (c : Bool). pick c (not (test_fits q g (nth_row s y k).test)) (test_fits q g (nth_row s y k).test)) (sym e ∙ ap (λ (x : Row). eqb x.negated 1) er)

    pub tried_negated : r.negated ≡ 1 → Tried q g (nth_row s y k) (record { fits = not v.fits; trials = v.trials })
    tried_negated e = record { fit = kth_negated true (eq-eqb r.negated 1 e); tried = kth_trials; few = few }

    pub tried_plain : (r.negated ≡ 1 → ⊥) → Tried q g (nth_row s y k) v
    tried_plain n = record { fit = kth_negated false (ne_eqb r.negated 1 n); tried = kth_trials; few = few }

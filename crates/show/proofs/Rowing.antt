-- What is shown for a row, by the bytes of its patterns and by its kind.
use Rattle.std.specs.Prelude.{is_some}
use mathlib.Core.Bool.{Bool, true, false, not}
use mathlib.Core.Option.{Option, none, some}
use mathlib.Core.Path.{◌≡◌, refl, sym, ap, ap₂, ◌∙◌}
use mathlib.Core.List.{List, ◌∷◌, []}
use Prim.Native.Nat.{ℕ}
use lib.Dec.{eqb}
use borrow.Author.Tests.{eqb-false}
use Rattle.octets.specs.Lists.{pick}
use Rattle.basic.specs.Pattern.{Pattern}
use Rattle.basic.specs.Reading.{read_pattern}
use Rattle.pattern.specs.Inner.Answers.{read_matches, meets_text}
use Rattle.place.specs.Inner.Texts.{place_read, place_text}
use Rattle.contents.specs.Body.{Line, session_lines}
use Rattle.entries.specs.declared.Row.{Row}
use Rattle.profile.specs.Inner.Decoded.{or_empty, pattern_of, test_from}
use Rattle.profile.specs.Image.{Stored}
use Rattle.profile.specs.Inner.Kept.{Matchable}
use Rattle.request.specs.Request.{Request, Field, request_lines}
use Rattle.request.specs.Inner.Places.{request_of}
use Rattle.trials.specs.Inner.Patterns.{content_bytes}
use Rattle.trials.specs.declared.row_patterns.RowPatterns.{RowPatterns}
use Rattle.rows.specs.Inner.Tried.{PatternsOf}
use Rattle.rows.proofs.ByKind.{chosen, kind_is, first_text, content_text, absent, first_read, content_read, test_is}
use Rattle.spots.specs.Spots.{no_spot, bare_spot, none_shown, first_value, first_shown}
use Rattle.spots.specs.Inner.Steps.{values_spot, item_spot, field_spot, line_spot}
use Rattle.spots.specs.declared.Shown.{Shown}
use Rattle.spots.specs.declared.Spot.{Spot}
use Rattle.show.specs.Show.{in_field, in_line, test_shown, answered}
use Rattle.show.specs.Inner.Steps.{patterns_shown}
use Rattle.show.specs.declared.Answer.{Answer}

pub answered_by : (x : Shown) (n : ℕ) → n ≡ pick x.found 1 0
    → ◌≡◌ {A = Answer} (record { refusal = 0; place = 0; found = n; field = x.field; value = x.value; start = x.start; size = x.size }) (answered x)
answered_by x n e = ap (λ (k : ℕ). record { refusal = 0; place = 0; found = k; field = x.field; value = x.value; start = x.start; size = x.size }) e

-- ---- over the body or the head

pub shown_body : (s : List ℕ) (n : Bool) (h : List ℕ) (with : Bool) (c rest : List ℕ) → n ≡ false → session_lines rest ≡ request_lines (request_of s)
    → (v : Shown) → v ≡ first_shown (line_spot h with c) 0 (session_lines rest) → v ≡ patterns_shown (request_of s) (not n) h with c
unfolding patterns_shown
shown_body s n h with c rest e l v ev =
    ev ∙ ap (λ (x : List Line). first_shown (line_spot h with c) 0 x) l ∙ sym (ap (λ (t : Bool). patterns_shown (request_of s) (not t) h with c) e)

pub shown_head : (s : List ℕ) (n : Bool) (h : List ℕ) (with : Bool) (c : List ℕ) → n ≡ true → (v : Shown)
    → v ≡ first_shown (field_spot h with c) 0 (request_of s).fields → v ≡ patterns_shown (request_of s) (not n) h with c
unfolding patterns_shown
shown_head s n h with c e v ev = ev ∙ sym (ap (λ (t : Bool). patterns_shown (request_of s) (not t) h with c) e)

-- without Content its bytes are not looked at
no_content : (q : Request) (b : Bool) (h c d : List ℕ) → patterns_shown q b h false c ≡ patterns_shown q b h false d
unfolding patterns_shown field_spot line_spot item_spot
no_content q b h c d = refl

content_free : (q : Request) (b : Bool) (h c d : List ℕ) (absent : Bool) → (absent ≡ false → c ≡ d)
    → patterns_shown q b h (not absent) c ≡ patterns_shown q b h (not absent) d
content_free q b h c d true e = no_content q b h c d
content_free q b h c d false e = ap (patterns_shown q b h true) (e refl)

-- ---- by the patterns, where the bytes are patterns

-- an item, by what was read of the patterns' bytes
abbrev spot_by : Bool → Option Pattern → Bool → Option Pattern → List ℕ → List (List ℕ) → Spot
spot_by fold o with oc name vs = pick (read_matches fold o name) (pick with (first_value (place_read false oc) 0 vs) bare_spot) no_spot

-- Content is present unless `absent` says not
module _ (h c : List ℕ) (ph pc : Pattern) (eh : read_pattern h ≡ some ph) where
  fields_as : (absent : Bool) → (absent ≡ false → read_pattern c ≡ some pc) → (fs : List Field)
      → first_shown (field_spot h (not absent) c) 0 fs ≡ first_shown (in_field ph (pick absent none (some pc))) 0 fs
  unfolding field_spot item_spot values_spot meets_text place_text
  fields_as true ec fs = ap (λ (o : Option Pattern). first_shown (λ (f : Field). spot_by true o false (read_pattern c) f.name f.values) 0 fs) eh
  fields_as false ec fs = (λ i. first_shown (λ (f : Field). spot_by true (eh i) true (ec refl i) f.name f.values) 0 fs)

  lines_as : (absent : Bool) → (absent ≡ false → read_pattern c ≡ some pc) → (ls : List Line)
      → first_shown (line_spot h (not absent) c) 0 ls ≡ first_shown (in_line ph (pick absent none (some pc))) 0 ls
  unfolding line_spot item_spot values_spot meets_text place_text
  lines_as true ec ls = ap (λ (o : Option Pattern). first_shown (λ (l : Line). spot_by false o false (read_pattern c) l.type (l.value ∷ [])) 0 ls) eh
  lines_as false ec ls = (λ i. first_shown (λ (l : Line). spot_by false (eh i) true (ec refl i) l.type (l.value ∷ [])) 0 ls)

-- ---- by its kind

module _ (strs : List Stored) (r : Row) (q : Request) (v : Shown) (ev : v ≡ none_shown) where
  pub uri_shown : r.kind ≡ 0 → v ≡ test_shown q (test_from strs r)
  unfolding test_shown
  uri_shown e = ev ∙ sym (ap (test_shown q) (kind_is strs r 0 e))

  pub method_shown : r.kind ≡ 1 → v ≡ test_shown q (test_from strs r)
  unfolding test_shown
  method_shown e = ev ∙ sym (ap (test_shown q) (kind_is strs r 1 e))

  pub case_shown : r.kind ≡ 3 → v ≡ test_shown q (test_from strs r)
  unfolding test_shown
  case_shown e = ev ∙ sym (ap (test_shown q) (kind_is strs r 3 e))

module _ (strs : List Stored) (r : Row) (matchable : Matchable strs r) (not_case : r.kind ≡ 3 → ⊥) (not_uri : r.kind ≡ 0 → ⊥) (not_method : r.kind ≡ 1 → ⊥)
    (q : Request) where
  abbrev h : List ℕ
  h = first_text strs r

  abbrev c : List ℕ
  c = content_text strs r

  h_read : read_pattern h ≡ some (or_empty (read_pattern h))
  h_read = first_read strs r matchable not_case not_uri not_method

  c_read : absent r ≡ false → read_pattern c ≡ some (or_empty (read_pattern c))
  c_read = content_read strs r matchable not_case not_uri not_method

  of_kind : (b : Bool) → eqb r.kind 2 ≡ b → test_shown q (test_from strs r) ≡ test_shown q (chosen false false b false strs r)
  of_kind b e = ap (test_shown q) (test_is strs r matchable not_case not_uri not_method b e)

  kinds : (b : Bool) → eqb r.kind 2 ≡ b → patterns_shown q (not b) h (not (absent r)) c ≡ test_shown q (test_from strs r)
  unfolding patterns_shown test_shown pattern_of
  kinds true e = fields_as h c (or_empty (read_pattern h)) (or_empty (read_pattern c)) h_read (absent r) c_read q.fields ∙ sym (of_kind true e)
  kinds false e = lines_as h c (or_empty (read_pattern h)) (or_empty (read_pattern c)) h_read (absent r) c_read (request_lines q) ∙ sym (of_kind false e)

  pub pattern_shown : (t u : List ℕ) → t ≡ h → u ≡ c → (v : Shown) → v ≡ patterns_shown q (not (eqb r.kind 2)) t (not (eqb r.second 65535)) u
      → v ≡ test_shown q (test_from strs r)
  pattern_shown t u et eu v ev =
      ev ∙ ap₂ (λ (x y : List ℕ). patterns_shown q (not (eqb r.kind 2)) x (not (absent r)) y) et eu ∙ kinds (eqb r.kind 2) refl

  -- by the row's patterns as they are kept: without Content no bytes of it are kept
  pub kept_shown : (p : RowPatterns) → PatternsOf strs r p → (v : Shown)
      → v ≡ patterns_shown q (not p.name.for_names) p.name.bytes.now (is_some p.content) (content_bytes p.content) → v ≡ test_shown q (test_from strs r)
  kept_shown p k v ev =
      pattern_shown p.name.bytes.now c k.name_is refl v (
      ev ∙ ap₂ (λ (n w : Bool). patterns_shown q (not n) p.name.bytes.now w (content_bytes p.content)) k.for_names k.content.present
      ∙ content_free q (not (eqb r.kind 2)) p.name.bytes.now (content_bytes p.content) c (absent r) (λ e. k.content.named (eqb-false r.second 65535 e))
      )

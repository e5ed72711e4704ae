-- Demand 3 for one call: answers depend on no more of a request than its profile looks at.
use mathlib.Core.Bool.{Bool, not, ◌&&◌, ◌||◌}
use mathlib.Core.Option.{Option, none, some}
use mathlib.Core.Path.{◌≡◌, refl, sym, ap, ap₂, ◌∙◌, subst, fun_ext}
use Prim.Native.Nat.{ℕ, zero, suc, ◌+◌}
use mathlib.Core.List.{List, [], ◌∷◌}
use lib.ListN.{length, get_elem?}
use lib.Dec.{T, leb, eqb}
use Rattle.octets.specs.Lists.{pick, some_of, only, total, same}
use Rattle.octets.proofs.Tests.{T_of, test_cases, or_left, or_right, or_cases, both, left, right}
use Rattle.basic.specs.Pattern.{Pattern}
use Rattle.pattern.specs.Matching.{name_matches}
use Rattle.profile.specs.Image.{Test, request_uri, method, header, session_case, description, Row, Member, Criterion, Profile, Judged, accepted, refused}
use Rattle.profile.specs.Judging.{judge}
use Rattle.contents.specs.Body.{session_lines}
use Rattle.contents.specs.Description.{content_type}
use Rattle.request.specs.Request.{Request, Field, read_request, described_by, is_description, request_lines}
use Rattle.session.specs.Session.{possible, ready}
use Rattle.session.specs.declared.Session.{Session}
use Rattle.rows.specs.Rows.{REGISTER, registration_fits, content_fits, field_fits, line_fits, test_fits, row_fits, content_trials, field_trials, line_trials, test_trials, row_trials}
use Rattle.rows.specs.declared.Given.{Given}
use Rattle.fitting.specs.Fitting.{memberships, fits_at, by_form, trigger_fits, criterion_fits, part_fits, trials_at, trials_from, criterion_trials}
use Rattle.route.specs.Advance.{refuse, walk, walk_with, in_session, advance_read, advance_judged, advance}
use Rattle.listing.specs.Listing.{Listing, refuse_list, fill, fill_with, list_read, list_judged, listing}
use Rattle.route.specs.declared.Advanced.{Advanced}
use Rattle.promises.specs.Agreement.{header_meets, describes, any_header, any_description, asked, AgreeFields, none_left, field_and, Agree, MayDiffer, agreeing, no_profile, no_requests}
use Rattle.promises.proofs.StartLine.{start_same}

-- ---- what must agree, of the requests as they are read

pub record Alike (rows : List Row) (q r : Request) : Type 0 where
  pub same_method : q.method ≡ r.method
  pub same_uri : q.uri ≡ r.uri
  pub same_fields : AgreeFields rows q.fields r.fields
  pub same_body : T (any_description rows) → q.body ≡ r.body

-- ---- a row

-- what some row asks, one more row asks too
asked_later : (x : Row) (rows : List Row) (name : List ℕ) → T (asked rows name) → T (asked (x ∷ rows) name)
asked_later x rows name t =
    let type = content_type name in
    or_cases (any_header rows name) (any_description rows && type) t
    (λ h. or_left (any_header (x ∷ rows) name) (any_description (x ∷ rows) && type) (or_right (header_meets x.test name) (any_header rows name) h))
    (λ h. or_right (any_header (x ∷ rows) name) (any_description (x ∷ rows) && type)
    (both (any_description (x ∷ rows)) type
    (or_right (describes x.test) (any_description rows) (left (any_description rows) type h))
    (right (any_description rows) type h)))

fields_weaken : {x : Row} {rows : List Row} {fs gs : List Field} → AgreeFields (x ∷ rows) fs gs → AgreeFields rows fs gs
fields_weaken none_left = none_left
fields_weaken {x} {rows} (field_and {f = f} n v rest) =
    field_and n (λ t. v (asked_later x rows f.name t)) (fields_weaken rest)

pub weaken : {x : Row} {rows : List Row} {q r : Request} → Alike (x ∷ rows) q r → Alike rows q r
weaken {x} {rows} a = record {
  same_method = a.same_method;
  same_uri = a.same_uri;
  same_fields = fields_weaken a.same_fields;
  same_body = λ t. a.same_body (or_right (describes x.test) (any_description rows) t);
}

-- the fields, seen by a row whose header is h
pub data SeenFields (h : Pattern) : List Field → List Field → Type 0 where
  seen_none : SeenFields h [] []
  seen_and : {f g : Field} {fs gs : List Field} → f.name ≡ g.name → (T (name_matches h f.name) → f.values ≡ g.values)
      → SeenFields h fs gs → SeenFields h (f ∷ fs) (g ∷ gs)

pub seen : (h : Pattern) (rows : List Row) {fs gs : List Field} → ((name : List ℕ) → T (name_matches h name) → T (any_header rows name))
    → AgreeFields rows fs gs → SeenFields h fs gs
seen h rows c none_left = seen_none
seen h rows c (field_and {f = f} n v rest) =
    seen_and n (λ t. v (or_left (any_header rows f.name) (any_description rows && content_type f.name) (c f.name t))) (seen h rows c rest)

one_field_fits : (h : Pattern) (c : Option Pattern) (f g : Field) → f.name ≡ g.name → (T (name_matches h f.name) → f.values ≡ g.values)
    → field_fits h c f ≡ field_fits h c g
one_field_fits h c f g n v =
    test_cases (name_matches h f.name)
    (λ e. ap₂ (λ (a : List ℕ) (b : List (List ℕ)). name_matches h a && content_fits c b) n (v (T_of e)))
    (λ e. ap (λ (b : Bool). b && content_fits c f.values) e
    ∙ ap (λ (b : Bool). b && content_fits c g.values) (sym e ∙ ap (name_matches h) n))

fields_fit : (h : Pattern) (c : Option Pattern) {fs gs : List Field} → SeenFields h fs gs → some_of (field_fits h c) fs ≡ some_of (field_fits h c) gs
fields_fit h c seen_none = refl
fields_fit h c (seen_and {f = f} {g = g} n v rest) = ap₂ ◌||◌ (one_field_fits h c f g n v) (fields_fit h c rest)

one_field_trials : (h : Pattern) (c : Option Pattern) (f g : Field) → f.name ≡ g.name → (T (name_matches h f.name) → f.values ≡ g.values)
    → content_trials c (name_matches h f.name) (length f.values) ≡ content_trials c (name_matches h g.name) (length g.values)
one_field_trials h none f g n v = refl
one_field_trials h (some c) f g n v =
    test_cases (name_matches h f.name)
    (λ e. ap₂ (λ (a : List ℕ) (b : List (List ℕ)). pick (name_matches h a) (length b) 0) n (v (T_of e)))
    (λ e. ap (λ (b : Bool). pick b (length f.values) 0) e
    ∙ ap (λ (b : Bool). pick b (length g.values) 0) (sym e ∙ ap (name_matches h) n))

fields_trials : (h : Pattern) (c : Option Pattern) {fs gs : List Field} → SeenFields h fs gs
    → total (field_trials h c) fs
    ≡ total (field_trials h c) gs
fields_trials h c seen_none = refl
fields_trials h c (seen_and {f = f} {g = g} n v rest) = ap₂ (λ (a b : ℕ). 1 + a + b) (one_field_trials h c f g n v) (fields_trials h c rest)

-- where a row asks for the body: the Content-Type fields are the same
module _ (rows : List Row) (asks : T (any_description rows)) where
  abbrev typed : Field → Bool
  typed f = content_type f.name

  typed_and : (f g : Field) (fs gs : List Field) → f.name ≡ g.name → (T (asked rows f.name) → f.values ≡ g.values) → fs ≡ gs
      → pick (typed f) (f ∷ fs) fs ≡ pick (typed g) (g ∷ gs) gs
  typed_and f g fs gs n v e =
      test_cases (typed f)
      (λ t.
      let type : T (asked rows f.name) =
      or_right (any_header rows f.name) (any_description rows && typed f) (both (any_description rows) (typed f) asks (T_of t))
      in
      ap (λ (b : Bool). pick b (f ∷ fs) fs) t
      ∙ ap₂ (λ (x : Field) (l : List Field). x ∷ l) (λ i. record { name = n i; values = v type i }) e
      ∙ sym (ap (λ (b : Bool). pick b (g ∷ gs) gs) (sym (ap content_type n) ∙ t)))
      (λ t. ap (λ (b : Bool). pick b (f ∷ fs) fs) t ∙ e ∙ sym (ap (λ (b : Bool). pick b (g ∷ gs) gs) (sym (ap content_type n) ∙ t)))

  typed_same : {fs gs : List Field} → AgreeFields rows fs gs → only typed fs ≡ only typed gs
  typed_same none_left = refl
  typed_same (field_and {f = f} {g = g} {fs = fs} {gs = gs} n v rest) = typed_and f g (only typed fs) (only typed gs) n v (typed_same rest)

  pub lines_alike : (q r : Request) → Alike rows q r → request_lines q ≡ request_lines r
  unfolding request_lines is_description
  lines_alike q r a =
      ap₂ (λ (fs : List Field) (b : List ℕ). pick (described_by fs) (session_lines b) []) (typed_same a.same_fields) (a.same_body asks)

pub asks_body : (x : Row) (rows : List Row) (h : Pattern) (c : Option Pattern) → x.test ≡ description h c → T (any_description (x ∷ rows))
asks_body x rows h c e = or_left (describes x.test) (any_description rows) (subst (λ (k : Test). T (describes k)) (sym e) tt)

module _ (q r : Request) where
  test_alike : (g : Given) (x : Row) (rows : List Row) (t : Test) → x.test ≡ t → Alike (x ∷ rows) q r → test_fits q g t ≡ test_fits r g t
  unfolding test_fits
  test_alike g x rows (request_uri u) e a = ap (same u) a.same_uri
  test_alike g x rows (method m set) e a = ap (λ (k : List ℕ). same m k && registration_fits m set g.registration) a.same_method
  test_alike g x rows (header h c) e a =
      fields_fit h c (seen h (x ∷ rows)
      (λ name t. or_left (header_meets x.test name) (any_header rows name) (subst (λ (k : Test). T (header_meets k name)) (sym e) t))
      a.same_fields)
  test_alike g x rows (session_case k) e a = refl
  test_alike g x rows (description h c) e a =
      ap (some_of (line_fits h c)) (lines_alike (x ∷ rows) (asks_body x rows h c e) q r a)

  trials_alike : (x : Row) (rows : List Row) (t : Test) → x.test ≡ t → Alike (x ∷ rows) q r → test_trials q t ≡ test_trials r t
  unfolding test_trials
  trials_alike x rows (request_uri u) e a = refl
  trials_alike x rows (method m set) e a = refl
  trials_alike x rows (header h c) e a =
      fields_trials h c (seen h (x ∷ rows)
      (λ name t. or_left (header_meets x.test name) (any_header rows name) (subst (λ (k : Test). T (header_meets k name)) (sym e) t))
      a.same_fields)
  trials_alike x rows (session_case k) e a = refl
  trials_alike x rows (description h c) e a =
      ap (total (line_trials h c)) (lines_alike (x ∷ rows) (asks_body x rows h c e) q r a)

  -- the row of any number
  row_alike : (g : Given) (rows : List Row) (i : ℕ) → Alike rows q r → fits_at q g (get_elem? rows i) ≡ fits_at r g (get_elem? rows i)
  unfolding row_fits
  row_alike g [] i a = refl
  row_alike g (x ∷ rows) zero a = ap (λ (b : Bool). pick x.negated (not b) b) (test_alike g x rows x.test refl a)
  row_alike g (x ∷ rows) (suc i) a = row_alike g rows i (weaken a)

  row_trials_alike : (rows : List Row) (i : ℕ) → Alike rows q r → trials_at q (get_elem? rows i) ≡ trials_at r (get_elem? rows i)
  unfolding row_trials
  row_trials_alike [] i a = refl
  row_trials_alike (x ∷ rows) zero a = trials_alike x rows x.test refl a
  row_trials_alike (x ∷ rows) (suc i) a = row_trials_alike rows i (weaken a)

  -- ---- a criterion

  rows_trials_alike : (rows : List Row) (first n : ℕ) → Alike rows q r → trials_from q rows first n ≡ trials_from r rows first n
  unfolding trials_from
  rows_trials_alike rows first zero a = refl
  rows_trials_alike rows first (suc n) a = ap₂ ◌+◌ (row_trials_alike rows first a) (rows_trials_alike rows (suc first) n a)

  fits_alike : (g : Given) (p : Profile) → Alike p.rows q r → criterion_fits q g p ≡ criterion_fits r g p
  unfolding criterion_fits trigger_fits
  fits_alike g p a =
      fun_ext (λ (c : Criterion).
      ap (λ (f : Member → Bool). part_fits c.part g.case && by_form c.form f (memberships p c))
      (fun_ext (λ (m : Member). row_alike g p.rows m.row a)))

  criterion_trials_alike : (g : Given) (p : Profile) → Alike p.rows q r → criterion_trials q g p ≡ criterion_trials r g p
  unfolding criterion_trials
  criterion_trials_alike g p a =
      fun_ext (λ (c : Criterion). ap (λ (n : ℕ). pick (part_fits c.part g.case) n 0) (rows_trials_alike p.rows c.first c.count a))

  -- ---- the answers

  walk_alike : (x : Session) (p : Profile) → Alike p.rows q r → walk x p q ≡ walk x p r
  unfolding walk
  walk_alike x p a = ap₂ (λ (f : Criterion → Bool) (t : Criterion → ℕ). walk_with f t x p.criteria) (fits_alike (in_session x) p a) (criterion_trials_alike (in_session x) p a)

  fill_alike : (g : Given) (p : Profile) (places : List ℕ) → Alike p.rows q r → fill q g p places ≡ fill r g p places
  unfolding fill
  fill_alike g p places a = ap₂ (λ (f : Criterion → Bool) (t : Criterion → ℕ). fill_with f t p.criteria places) (fits_alike g p a) (criterion_trials_alike g p a)

  advance_read_alike : (x : Session) (p : Profile) → Alike p.rows q r → advance_read x p (some q) ≡ advance_read x p (some r)
  advance_read_alike x p a = ap₂ (λ (m : List ℕ) (w : Advanced). pick (same m REGISTER) (refuse x 11 0) w) a.same_method (walk_alike x p a)

  list_read_alike : (g : Given) (p : Profile) (places : List ℕ) → Alike p.rows q r → list_read g p (some q) places ≡ list_read g p (some r) places
  list_read_alike g p places a =
      ap₂ (λ (m : List ℕ) (w : Listing).
      pick (not (same m REGISTER)) (refuse_list places 11 0)
      (pick (not (leb g.case 3)) (refuse_list places 8 0)
      (pick (not (leb g.registration 2)) (refuse_list places 9 0) w)))
      a.same_method (fill_alike g p places a)

-- ---- the calls

module _ (image a b : List ℕ) (h : Agree image a b) where
  pub alike : Alike h.profile.rows h.q h.r
  alike =
      let s = start_same a b h.q h.r h.reads_q h.reads_r h.same_start_line in
      record { same_method = s.0; same_uri = s.1; same_fields = h.same_fields; same_body = h.same_body }

  advance_agrees : (x : Session) → advance x image a ≡ advance x image b
  unfolding advance
  advance_agrees x =
      ap (λ (w : Advanced). pick (possible x && eqb x.state ready) w (refuse x 10 0))
      (ap (λ (j : Judged). advance_judged x j a) h.accepts
      ∙ ap (advance_read x h.profile) h.reads_q
      ∙ advance_read_alike h.q h.r x h.profile alike
      ∙ sym (ap (advance_read x h.profile) h.reads_r)
      ∙ sym (ap (λ (j : Judged). advance_judged x j b) h.accepts))

  listing_agrees : (g : Given) (places : List ℕ) → listing g image a places ≡ listing g image b places
  unfolding listing
  listing_agrees g places =
      ap (λ (j : Judged). list_judged g j a places) h.accepts
      ∙ ap (λ (o : Option Request). list_read g h.profile o places) h.reads_q
      ∙ list_read_alike h.q h.r g h.profile places alike
      ∙ sym (ap (λ (o : Option Request). list_read g h.profile o places) h.reads_r)
      ∙ sym (ap (λ (j : Judged). list_judged g j b places) h.accepts)

-- requests that read alike, both unreadable among them
advance_by : (x : Session) (j : Judged) (a b : List ℕ) → read_request a ≡ read_request b → advance_judged x j a ≡ advance_judged x j b
advance_by x (accepted p) a b e = ap (advance_read x p) e
advance_by x (refused n place) a b e = refl

list_by : (g : Given) (j : Judged) (a b places : List ℕ) → read_request a ≡ read_request b → list_judged g j a places ≡ list_judged g j b places
list_by g (accepted p) a b places e = ap (λ (o : Option Request). list_read g p o places) e
list_by g (refused n place) a b places e = refl

pub advance_same : (image a b : List ℕ) → MayDiffer image a b → (x : Session) → advance x image a ≡ advance x image b
unfolding advance
advance_same image a b (agreeing h) x = advance_agrees image a b h x
advance_same image a b (no_profile {n = n} {place = place} e) x =
    ap (λ (w : Advanced). pick (possible x && eqb x.state ready) w (refuse x 10 0))
    (ap (λ (j : Judged). advance_judged x j a) e ∙ sym (ap (λ (j : Judged). advance_judged x j b) e))
advance_same image a b (no_requests e f) x = ap (λ (w : Advanced). pick (possible x && eqb x.state ready) w (refuse x 10 0)) (advance_by x (judge image) a b (e ∙ sym f))

pub listing_same : (image a b : List ℕ) → MayDiffer image a b → (g : Given) (places : List ℕ) → listing g image a places ≡ listing g image b places
unfolding listing
listing_same image a b (agreeing h) g places = listing_agrees image a b h g places
listing_same image a b (no_profile {n = n} {place = place} e) g places = ap (λ (j : Judged). list_judged g j a places) e ∙ sym (ap (λ (j : Judged). list_judged g j b places) e)
listing_same image a b (no_requests e f) g places = list_by g (judge image) a b places (e ∙ sym f)

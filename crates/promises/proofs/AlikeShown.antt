-- Demand 3 for a show: what is shown depends on no more of a request than the profile looks at.
use mathlib.Core.Bool.{Bool}
use mathlib.Core.Option.{Option}
use mathlib.Core.Path.{◌≡◌, refl, sym, ap, ap₂, ◌∙◌, subst}
use Prim.Native.Nat.{ℕ, zero, suc}
use mathlib.Core.List.{List, [], ◌∷◌}
use lib.ListN.{get_elem?}
use lib.Dec.{T}
use Rattle.octets.specs.Lists.{pick}
use Rattle.octets.proofs.Tests.{T_of, test_cases, or_left}
use Rattle.basic.specs.Pattern.{Pattern}
use Rattle.pattern.specs.Matching.{name_matches}
use Rattle.contents.specs.Body.{Line}
use Rattle.profile.specs.Image.{Test, request_uri, method, header, session_case, description, Row, Judged, accepted, refused}
use Rattle.profile.specs.Judging.{judge}
use Rattle.request.specs.Request.{Request, Field, read_request}
use Rattle.spots.specs.Spots.{no_spot, shown_in, first_shown}
use Rattle.spots.specs.declared.Shown.{Shown}
use Rattle.spots.specs.declared.Spot.{Spot}
use Rattle.show.specs.Show.{content_spot, in_field, in_line, test_shown, answered, show_row, show_read, show_judged, show}
use Rattle.promises.specs.Agreement.{header_meets, any_header, MayDiffer, agreeing, no_profile, no_requests}
use Rattle.promises.proofs.Alike.{Alike, weaken, SeenFields, seen_none, seen_and, seen, lines_alike, asks_body, alike}

one_field : (h : Pattern) (c : Option Pattern) (f g : Field) → f.name ≡ g.name → (T (name_matches h f.name) → f.values ≡ g.values)
    → in_field h c f ≡ in_field h c g
one_field h c f g n v =
    test_cases (name_matches h f.name)
    (λ e. ap₂ (λ (a : List ℕ) (b : List (List ℕ)). pick (name_matches h a) (content_spot c b) no_spot) n (v (T_of e)))
    (λ e. ap (λ (b : Bool). pick b (content_spot c f.values) no_spot) e
    ∙ ap (λ (b : Bool). pick b (content_spot c g.values) no_spot) (sym e ∙ ap (name_matches h) n))

fields_shown : (h : Pattern) (c : Option Pattern) {fs gs : List Field} → SeenFields h fs gs → (i : ℕ)
    → first_shown (in_field h c) i fs ≡ first_shown (in_field h c) i gs
unfolding first_shown
fields_shown h c seen_none i = refl
fields_shown h c (seen_and {f = f} {g = g} n v rest) i =
    ap₂ (λ (x : Spot) (y : Shown). pick x.found (shown_in i x) y) (one_field h c f g n v) (fields_shown h c rest (suc i))

module _ (q r : Request) where
  test_shown_alike : (x : Row) (rows : List Row) (t : Test) → x.test ≡ t → Alike (x ∷ rows) q r → test_shown q t ≡ test_shown r t
  unfolding test_shown
  test_shown_alike x rows (request_uri u) e a = refl
  test_shown_alike x rows (method m set) e a = refl
  test_shown_alike x rows (header h c) e a =
      fields_shown h c (seen h (x ∷ rows)
      (λ name t. or_left (header_meets x.test name) (any_header rows name) (subst (λ (k : Test). T (header_meets k name)) (sym e) t))
      a.same_fields) 0
  test_shown_alike x rows (session_case k) e a = refl
  test_shown_alike x rows (description h c) e a =
      ap (λ (l : List Line). first_shown (in_line h c) 0 l) (lines_alike (x ∷ rows) (asks_body x rows h c e) q r a)

  row_shown_alike : (rows : List Row) (k : ℕ) → Alike rows q r → show_row q (get_elem? rows k) ≡ show_row r (get_elem? rows k)
  row_shown_alike [] k a = refl
  row_shown_alike (x ∷ rows) zero a = ap answered (test_shown_alike x rows x.test refl a)
  row_shown_alike (x ∷ rows) (suc k) a = row_shown_alike rows k (weaken a)

-- requests that read alike, both unreadable among them
show_by : (j : Judged) (a b : List ℕ) (k : ℕ) → read_request a ≡ read_request b → show_judged j a k ≡ show_judged j b k
show_by (accepted p) a b k e = ap (λ (o : Option Request). show_read p o k) e
show_by (refused n place) a b k e = refl

pub show_same : (image a b : List ℕ) → MayDiffer image a b → (k : ℕ) → show image a k ≡ show image b k
unfolding show
show_same image a b (agreeing h) k =
    ap (λ (j : Judged). show_judged j a k) h.accepts
    ∙ ap (λ (o : Option Request). show_read h.profile o k) h.reads_q
    ∙ row_shown_alike h.q h.r h.profile.rows k (alike image a b h)
    ∙ sym (ap (λ (o : Option Request). show_read h.profile o k) h.reads_r)
    ∙ sym (ap (λ (j : Judged). show_judged j b k) h.accepts)
show_same image a b (no_profile {n = n} {place = place} e) k = ap (λ (j : Judged). show_judged j a k) e ∙ sym (ap (λ (j : Judged). show_judged j b k) e)
show_same image a b (no_requests e f) k = show_by (judge image) a b k (e ∙ sym f)

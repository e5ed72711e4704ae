-- What `read` answers and leaves in the lent places.
use Rattle.std.specs.Prelude.{Option as Answer, Some, None}
use Rattle.request.specs.declared.HeadPlaces.{HeadPlaces}
use Rattle.request.specs.declared.Places.{Places}
use mathlib.Core.Option.{Option, none, some, some-injective}
use mathlib.Core.Path.{◌≡◌, refl, sym, ap, ◌∙◌, subst}
use mathlib.Core.List.{List, [], ◌∷◌, ◌++◌}
use Prim.Native.Nat.{ℕ, suc, ◌+◌, ◌-◌, ◌≤◌}
use native.Mathlib.Nat.{sub-zero}
use native.Mathlib.Omega.{arith}
use lib.ListN.{length, take, drop}
use lib.Seq.{length-take-le}
use Rattle.octets.specs.Option.{◌>>=◌}
use Rattle.octets.proofs.Tests.{T_of}
use Rattle.cuts.specs.Inner.Parts.{over}
use Rattle.cuts.proofs.Parts.{length_part}
use Rattle.request.specs.Inner.Places.{head_of, field_lines, fields_start, line_starts, line_colons, lines_start, reading, starts_of, colons_of, Read, Rooms, or_blank, request_of}
use Rattle.request.specs.Request.{Field, Request, field, all_fields, read_request}
use Rattle.request.specs.Inner.Steps.{head_at, is_some, lines_from, judged, Fillable, Filled}
use Rattle.request.proofs.Accepted.{Accepts, accepts}
use Rattle.request.proofs.Judging.{all_fields_some}

-- ---- as many fields as lines

module _ (n : ℕ) where
  count_step : (o : Option Field) (p : Option (List Field)) (fs : List Field)
      → ((gs : List Field) → p ≡ some gs → length gs ≡ n) → (o >>= λ f. p >>= λ l. some (f ∷ l)) ≡ some fs → length fs ≡ suc n
  count_step none p fs h e = let z : ◌≡◌ {A = ℕ} 0 1 = cc in absurd (omega arith)
  count_step (some f) none fs h e = let z : ◌≡◌ {A = ℕ} 0 1 = cc in absurd (omega arith)
  count_step (some f) (some l) fs h e = ap length (some-injective fs (f ∷ l) (sym e)) ∙ ap suc (h l refl)

pub fields_count : (ls : List (List ℕ)) (fs : List Field) → all_fields ls ≡ some fs → length fs ≡ length ls
unfolding all_fields
fields_count [] fs e = ap length (some-injective fs [] (sym e))
fields_count (l ∷ ls) fs e = count_step (length ls) (field l) (all_fields ls) fs (fields_count ls) e

pub starts_length : (at : ℕ) (ls : List (List ℕ)) → length (line_starts at ls) ≡ length ls
unfolding line_starts
starts_length at [] = refl
starts_length at (l ∷ ls) = ap suc (starts_length (at + length l + 2) ls)

pub colons_length : (at : ℕ) (ls : List (List ℕ)) → length (line_colons at ls) ≡ length ls
unfolding line_colons
colons_length at [] = refl
colons_length at (l ∷ ls) = ap suc (colons_length (at + length l + 2) ls)

-- ---- the two answers

refused_none : (h : List ℕ) (o : Option Request) → None ≡ judged h o → o ≡ none
refused_none h none e = refl
refused_none h (some q) e = let z : ◌≡◌ {A = ℕ} 0 1 = cc in absurd (omega arith)

module _ (s starts colons : List ℕ) (j : Answer HeadPlaces) (ej : j ≡ judged (head_of s) (read_request s)) where
  pub read_refused : j ≡ None → (r : Answer Places) → r ≡ None → Read s starts colons starts colons r
  read_refused e r er =
      let nothing : read_request s ≡ none = refused_none (head_of s) (read_request s) (sym e ∙ ej) in
      record {
        answer = er ∙ sym (ap (reading (head_of s)) nothing);
        starts_are = sym (ap (λ (o : Option Request). over (starts_of (head_of s) o) starts) nothing);
        colons_are = sym (ap (λ (o : Option Request). over (colons_of (head_of s) o) colons) nothing);
      }

  module _ (e m u f : ℕ) (ea : j ≡ head_at e m u f) where
    a : Accepts s e m u f
    a = accepts s e m u f (sym ea ∙ ej)

    pub head_inside : e ≤ length s
    head_inside = omega (arith, a.body_inside)

    front_is : take (e - 0) (drop 0 s) ≡ take e s
    front_is = ap (λ (k : ℕ). take k s) (sub-zero e)

    long : length (take e s) ≡ e
    long = length-take-le e s head_inside

    pub fillable : (room : List ℕ) → Rooms s starts colons room → Fillable (take (e - 0) (drop 0 s)) f (length starts) (length colons)
    fillable room pre = subst (λ (h : List ℕ). Fillable h f (length starts) (length colons)) (sym front_is) (record {
      inside = omega (arith, a.start_inside, long);
      short = omega (arith, a.short, a.body_inside, long);
      pairs = a.paired_on;
      fields = T_of (sym (all_fields_some (lines_from (take e s) f)) ∙ ap is_some a.fields_are);
      starts_room = omega (arith, pre.for_starts.enough a.short, a.body_inside, long);
      colons_room = omega (arith, pre.for_colons.enough a.short, a.body_inside, long);
    })

    pub room_enough : (room : List ℕ) → Rooms s starts colons room → length s ≤ length room
    room_enough room pre = pre.for_room a.short

    pub read_some : read_request s ≡ some (request_of s)
    unfolding request_of
    read_some = a.read ∙ ap some (sym (ap or_blank a.read))

    pub read_accepted : (starts' colons' : List ℕ) (n : ℕ) → Filled (take (e - 0) (drop 0 s)) f starts colons starts' colons' n
        → (lines : ℕ) → lines ≡ lines_start (head_of s) (request_of s)
        → Read s starts colons starts' colons' (Some (record { method = m; uri = u; head = e; fields = n; lines = lines }))
    read_accepted starts' colons' n filled lines lines_is =
        let k : Filled (take e s) f starts colons starts' colons' n = subst (λ (h : List ℕ). Filled h f starts colons starts' colons' n) front_is filled in
        let ls = lines_from (take e s) f in
        let m_is : length a.request.method ≡ m = ap length a.method_is ∙ length-take-le m s (omega (arith, a.before_uri, a.uri_inside, a.body_inside)) in
        let u_long : length a.request.uri ≡ u - (m + 1) = ap length a.uri_is ∙ length_part s (m + 1) u (omega (arith, a.before_uri)) (omega (arith, a.uri_inside, a.body_inside)) in
        let u_is : length a.request.method + 1 + length a.request.uri ≡ u = omega (arith, m_is, u_long, a.before_uri) in
        let h_is : length (head_of s) ≡ e = ap length a.head_is ∙ long in
        let lines_so : lines_start (head_of s) a.request ≡ lines =
        ap (lines_start (head_of s)) (some-injective a.request (request_of s) (sym a.read ∙ read_some)) ∙ sym lines_is
        in
        let n_is : length a.request.fields ≡ n = fields_count ls a.request.fields a.fields_are ∙ sym k.count in
        let fields_are : field_lines (head_of s) ≡ ls = ap field_lines a.head_is ∙ a.lines_are in
        let start : fields_start (head_of s) ≡ f = ap fields_start a.head_is ∙ sym a.start_is in
        record {
          answer =
              sym (ap (reading (head_of s)) a.read ∙ (λ i. Some (record { method = m_is i; uri = u_is i; head = h_is i; fields = n_is i; lines = lines_so i })));
          starts_are =
              k.starts_are ∙ ap (λ (i : ℕ). line_starts f ls ++ drop i starts) (k.count ∙ sym (starts_length f ls))
              ∙ sym (ap (λ (o : Option Request). over (starts_of (head_of s) o) starts) a.read ∙ (λ i. over (line_starts (start i) (fields_are i)) starts));
          colons_are =
              k.colons_are ∙ ap (λ (i : ℕ). line_colons f ls ++ drop i colons) (k.count ∙ sym (colons_length f ls))
              ∙ sym (ap (λ (o : Option Request). over (colons_of (head_of s) o) colons) a.read ∙ (λ i. over (line_colons (start i) (fields_are i)) colons));
        }

-- ---- for callers: an unreadable request is none

unread : (h : List ℕ) (o : Option Request) → None ≡ reading h o → o ≡ none
unread h none e = refl
unread h (some q) e = let z : ◌≡◌ {A = ℕ} 0 1 = cc in absurd (omega arith)

pub read_none : (s starts colons starts' colons' : List ℕ) → Read s starts colons starts' colons' None → read_request s ≡ none
read_none s starts colons starts' colons' k = unread (head_of s) (read_request s) k.answer

-- The test `matches` computes what `Matches` says: some part of the string fits.
use mathlib.Core.Bool.{Bool, true, false, ◌&&◌}
use mathlib.Core.Path.{◌≡◌, refl, sym, ap, subst}
use mathlib.Core.Logic.{◌↔◌}
use Prim.Native.Nat.{ℕ}
use mathlib.Core.List.{List, [], ◌∷◌, ◌++◌}
use lib.Dec.{T}
use Rattle.octets.specs.Lists.{pick, empty}
use Rattle.octets.proofs.Tests.{both, left, right, or_left, or_right, or_cases}
use Rattle.basic.specs.Pattern.{Atom, Elem, once, star, Pattern, Fits, done, one, stop, more, Matches, meets}
use Rattle.pattern.specs.Matching.{meets_name, repeated, single_then, front, somewhere, matches, written_matches, name_matches}

module _ (meet : Atom → ℕ → Bool) (end : Bool) where
  -- a front part of s fits the elements, and nothing is left where the end is anchored
  pub record Front (es : List Elem) (s : List ℕ) : Type 0 where
    pub part : List ℕ
    pub after : List ℕ
    pub cut : s ≡ part ++ after
    pub fits : Fits meet es part
    pub ends : T end → after ≡ []

  empty_nil : (s : List ℕ) → T (empty s) → s ≡ []
  empty_nil [] h = refl
  empty_nil (b ∷ s) h = absurd h

  longer : {es es' : List Elem} (b : ℕ) {s : List ℕ} (f : Front es s) → Fits meet es' (b ∷ f.part) → Front es' (b ∷ s)
  longer b f h = record { part = b ∷ f.part; after = f.after; cut = ap (λ (r : List ℕ). b ∷ r) f.cut; fits = h; ends = f.ends }

  same_part : {es es' : List Elem} {s : List ℕ} (f : Front es s) → Fits meet es' f.part → Front es' s
  same_part f h = record { part = f.part; after = f.after; cut = f.cut; fits = h; ends = f.ends }

  -- the test holds: a front part fits
  repeated_sound : (a : Atom) (es : List Elem) (k : List ℕ → Bool) → ((s : List ℕ) → T (k s) → Front es s)
      → (s : List ℕ) → T (repeated (meet a) k s) → Front (star a ∷ es) s
  repeated_sound a es k ks [] h = let f = ks [] h in same_part f (stop f.fits)
  repeated_sound a es k ks (b ∷ s) h =
      or_cases (k (b ∷ s)) (meet a b && repeated (meet a) k s) h
      (λ t. let f = ks (b ∷ s) t in same_part f (stop f.fits))
      (λ t. let f = repeated_sound a es k ks s (right (meet a b) (repeated (meet a) k s) t) in
      longer b f (more (left (meet a b) (repeated (meet a) k s) t) f.fits))

  single_sound : (a : Atom) (es : List Elem) (k : List ℕ → Bool) → ((s : List ℕ) → T (k s) → Front es s)
      → (s : List ℕ) → T (single_then (meet a) k s) → Front (once a ∷ es) s
  single_sound a es k ks [] h = absurd h
  single_sound a es k ks (b ∷ s) h =
      let f = ks s (right (meet a b) (k s) h) in
      longer b f (one (left (meet a b) (k s) h) f.fits)

  -- the test fails nowhere: a front part that fits passes it
  repeated_now : (m : ℕ → Bool) (k : List ℕ → Bool) (s : List ℕ) → T (k s) → T (repeated m k s)
  repeated_now m k [] h = h
  repeated_now m k (b ∷ s) h = or_left (k (b ∷ s)) (m b && repeated m k s) h

  repeated_later : (m : ℕ → Bool) (k : List ℕ → Bool) (b : ℕ) (s : List ℕ) → T (m b) → T (repeated m k s) → T (repeated m k (b ∷ s))
  repeated_later m k b s h t = or_right (k (b ∷ s)) (m b && repeated m k s) (both (m b) (repeated m k s) h t)

nothing_left : (meet : Atom → ℕ → Bool) (end : Bool) (s : List ℕ) → T (front meet end [] s) → Front meet end [] s
unfolding front
nothing_left meet true s h = record { part = []; after = s; cut = refl; fits = done; ends = λ t. empty_nil meet true s h }
nothing_left meet false s h = record { part = []; after = s; cut = refl; fits = done; ends = λ t. absurd t }

pub front_sound : (meet : Atom → ℕ → Bool) (end : Bool) (es : List Elem) (s : List ℕ) → T (front meet end es s) → Front meet end es s
unfolding front
front_sound meet end [] s h = nothing_left meet end s h
front_sound meet end (once a ∷ es) s h = single_sound meet end a es (front meet end es) (front_sound meet end es) s h
front_sound meet end (star a ∷ es) s h = repeated_sound meet end a es (front meet end es) (front_sound meet end es) s h

front_end : (meet : Atom → ℕ → Bool) (end : Bool) (after : List ℕ) → (T end → after ≡ []) → T (front meet end [] after)
unfolding front
front_end meet true after h = subst (λ (s : List ℕ). T (empty s)) (sym (h tt)) tt
front_end meet false after h = tt

pub front_complete : (meet : Atom → ℕ → Bool) (end : Bool) {es : List Elem} {part : List ℕ} (after : List ℕ) → (T end → after ≡ [])
    → Fits meet es part → T (front meet end es (part ++ after))
unfolding front
front_complete meet end after h done = front_end meet end after h
front_complete meet end after h (one {a = a} {es = es} {b = b} {s = s} m f) =
    both (meet a b) (front meet end es (s ++ after)) m (front_complete meet end after h f)
front_complete meet end after h (stop {a = a} {es = es} {s = s} f) =
    repeated_now meet end (meet a) (front meet end es) (s ++ after) (front_complete meet end after h f)
front_complete meet end after h (more {a = a} {es = es} {b = b} {s = s} m f) =
    repeated_later meet end (meet a) (front meet end es) b (s ++ after) m (front_complete meet end after h f)

-- ---- anywhere in the string

record Later (k : List ℕ → Bool) (s : List ℕ) : Type 0 where
  before : List ℕ
  rest : List ℕ
  cut : s ≡ before ++ rest
  holds : T (k rest)

somewhere_sound : (k : List ℕ → Bool) (s : List ℕ) → T (somewhere k s) → Later k s
somewhere_sound k [] h = record { before = []; rest = []; cut = refl; holds = h }
somewhere_sound k (b ∷ s) h =
    or_cases (k (b ∷ s)) (somewhere k s) h
    (λ t. record { before = []; rest = b ∷ s; cut = refl; holds = t })
    (λ t. let l = somewhere_sound k s t in
    record { before = b ∷ l.before; rest = l.rest; cut = ap (λ (r : List ℕ). b ∷ r) l.cut; holds = l.holds })

somewhere_here : (k : List ℕ → Bool) (s : List ℕ) → T (k s) → T (somewhere k s)
somewhere_here k [] h = h
somewhere_here k (b ∷ s) h = or_left (k (b ∷ s)) (somewhere k s) h

somewhere_complete : (k : List ℕ → Bool) (before rest : List ℕ) → T (k rest) → T (somewhere k (before ++ rest))
somewhere_complete k [] rest h = somewhere_here k rest h
somewhere_complete k (b ∷ before) rest h = or_right (k (b ∷ (before ++ rest))) (somewhere k (before ++ rest)) (somewhere_complete k before rest h)

-- ---- the two say the same

abbrev Anchored : (Atom → ℕ → Bool) → Bool → Bool → List Elem → List ℕ → Type 0
Anchored meet start end es s = Matches meet (record { at_start = start; elems = es; at_end = end }) s

sound : (meet : Atom → ℕ → Bool) (start end : Bool) (es : List Elem) (s : List ℕ)
    → T (pick start (front meet end es s) (somewhere (front meet end es) s)) → Anchored meet start end es s
sound meet true end es s h =
    let f = front_sound meet end es s h in
    record { before = []; part = f.part; after = f.after; cut = f.cut; fits = f.fits; start = λ t. refl; end = f.ends }
sound meet false end es s h =
    let l = somewhere_sound (front meet end es) s h in
    let f = front_sound meet end es l.rest l.holds in
    record {
      before = l.before;
      part = f.part;
      after = f.after;
      cut = subst (λ (r : List ℕ). s ≡ l.before ++ r) f.cut l.cut;
      fits = f.fits;
      start = λ t. absurd t;
      end = f.ends;
    }

complete : (meet : Atom → ℕ → Bool) (start end : Bool) (es : List Elem) (s : List ℕ) → Anchored meet start end es s
    → T (pick start (front meet end es s) (somewhere (front meet end es) s))
complete meet true end es s m =
    let whole : s ≡ m.part ++ m.after = subst (λ (r : List ℕ). s ≡ r ++ (m.part ++ m.after)) (m.start tt) m.cut in
    subst (λ (r : List ℕ). T (front meet end es r)) (sym whole) (front_complete meet end m.after m.end m.fits)
complete meet false end es s m =
    subst (λ (r : List ℕ). T (somewhere (front meet end es) r)) (sym m.cut)
    (somewhere_complete (front meet end es) m.before (m.part ++ m.after) (front_complete meet end m.after m.end m.fits))

-- "A pattern matches if some part of the string, empty parts too, fits it."
pub matches_iff : (meet : Atom → ℕ → Bool) (p : Pattern) (s : List ℕ) → T (matches meet p s) ↔ Matches meet p s
unfolding matches
matches_iff meet p s = (sound meet p.at_start p.at_end p.elems s, complete meet p.at_start p.at_end p.elems s)

-- as written, and on names
pub written_iff : (p : Pattern) (s : List ℕ) → T (written_matches p s) ↔ Matches meets p s
unfolding written_matches
written_iff p s = matches_iff meets p s

pub name_iff : (p : Pattern) (s : List ℕ) → T (name_matches p s) ↔ Matches meets_name p s
unfolding name_matches
name_iff p s = matches_iff meets_name p s

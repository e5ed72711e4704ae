-- The machine of a pattern: a part that it takes begins where the pattern's elements fit.
use mathlib.Core.Path.{◌≡◌, refl, subst, subst⁻¹}
use mathlib.Core.Bool.{Bool, true, false, not, ◌&&◌, ◌||◌}
use mathlib.Core.List.{List, [], ◌∷◌}
use mathlib.Core.Logic.{◌↔◌, ◌⊎◌, inl, inr}
use Prim.Native.Nat.{ℕ, zero, suc}
use lib.Dec.{T}
use Rattle.octets.specs.Lists.{empty}
use Rattle.octets.proofs.Tests.{both, left, right, or_left, or_right, or_cases}
use Rattle.machine.specs.Inner.Machine.{Machine, Live, live_end, live_on, Starts, starts_none, starts_live}
use Rattle.machine.proofs.Scan.{dead}
use Rattle.basic.specs.Pattern.{Atom, Elem, once, star, Pattern}
use Rattle.pattern.specs.Matching.{front}
use Rattle.pattern.specs.Inner.Prepared.{atom_of}
use Rattle.pattern.proofs.Positions.{free, leads, ends, follows}

-- p meets b
abbrev pub met_at : (Atom → ℕ → Bool) → List Elem → ℕ → ℕ → Bool
met_at meet [] p b = false
met_at meet (e ∷ es) zero b = meet (atom_of e) b
met_at meet (e ∷ es) (suc p) b = met_at meet es p b

abbrev pub compiled : (Atom → ℕ → Bool) → Pattern → Machine
compiled meet p = record {
  first = λ a q. (not p.at_start || a) && leads p.elems q;
  last = λ e q. ends p.elems q && (not p.at_end || e);
  follow = follows p.elems;
  meets = met_at meet p.elems;
  null = λ a e. (not p.at_start || a) && (free p.elems && (not p.at_end || e));
}

-- what is left of the elements once the position p has met a byte
abbrev rest : List Elem → ℕ → List Elem
rest [] p = []
rest (once a ∷ es) zero = es
rest (star a ∷ es) zero = star a ∷ es
rest (e ∷ es) (suc p) = rest es p

front_nil : (meet : Atom → ℕ → Bool) (end : Bool) (s : List ℕ) → front meet end [] s ≡ (not end || empty s)
unfolding front
front_nil meet true s = refl
front_nil meet false s = refl

or_no : (a : Bool) → T (a || false) → T a
or_no true t = tt
or_no false t = t

module _ (meet : Atom → ℕ → Bool) (end : Bool) where
  -- a position meets b, and the elements left behind it fit at the front of s
  abbrev Meeting : List Elem → (ℕ → Bool) → ℕ → List ℕ → Type 0
  Meeting es at b s = (q : ℕ) × T (at q) × T (met_at meet es q b) × T (front meet end (rest es q) s)

  -- the elements fit: they may be left out, or one that may come first meets the first byte
  abbrev Go : List Elem → List ℕ → Type 0
  Go es [] = T (free es)
  Go es (b ∷ s) = T (free es && not end) ⊎ Meeting es (leads es) b s

  front_go : (es : List Elem) (s : List ℕ) → T (front meet end es s) → Go es s
  unfolding front
  front_go [] [] t = tt
  front_go [] (b ∷ s) t = inl (or_no (not end) (subst T (front_nil meet end (b ∷ s)) t))
  front_go (once a ∷ es) [] t = absurd t
  front_go (once a ∷ es) (b ∷ s) t = inr (zero, tt, left (meet a b) (front meet end es s) t, right (meet a b) (front meet end es s) t)
  front_go (star a ∷ es) [] t = front_go es [] t
  front_go (star a ∷ es) (b ∷ s) t =
      or_cases (front meet end es (b ∷ s)) (meet a b && front meet end (star a ∷ es) s) t
      (λ u. later (front_go es (b ∷ s) u))
      (λ u. inr (zero, tt, left (meet a b) (front meet end (star a ∷ es) s) u, right (meet a b) (front meet end (star a ∷ es) s) u))
    where
      later : Go es (b ∷ s) → Go (star a ∷ es) (b ∷ s)
      later (inl x) = inl x
      later (inr (q, l, m, h)) = inr (suc q, l, m, h)

  go_front : (es : List Elem) (s : List ℕ) → Go es s → T (front meet end es s)
  unfolding front
  go_front [] [] g = subst⁻¹ T (front_nil meet end []) (or_right (not end) true tt)
  go_front [] (b ∷ s) (inl x) = subst⁻¹ T (front_nil meet end (b ∷ s)) (or_left (not end) false x)
  go_front [] (b ∷ s) (inr x) = absurd x.1
  go_front (once a ∷ es) [] g = absurd g
  go_front (once a ∷ es) (b ∷ s) (inl x) = absurd x
  go_front (once a ∷ es) (b ∷ s) (inr (zero, l, m, h)) = both (meet a b) (front meet end es s) m h
  go_front (once a ∷ es) (b ∷ s) (inr (suc q, l, m, h)) = absurd l
  go_front (star a ∷ es) [] g = go_front es [] g
  go_front (star a ∷ es) (b ∷ s) (inl x) =
      or_left (front meet end es (b ∷ s)) (meet a b && front meet end (star a ∷ es) s) (go_front es (b ∷ s) (inl x))
  go_front (star a ∷ es) (b ∷ s) (inr (zero, l, m, h)) =
      or_right (front meet end es (b ∷ s)) (meet a b && front meet end (star a ∷ es) s) (both (meet a b) (front meet end (star a ∷ es) s) m h)
  go_front (star a ∷ es) (b ∷ s) (inr (suc q, l, m, h)) =
      or_left (front meet end es (b ∷ s)) (meet a b && front meet end (star a ∷ es) s) (go_front es (b ∷ s) (inr (q, l, m, h)))

  -- the same behind the position p
  abbrev On : List Elem → ℕ → List ℕ → Type 0
  On es p [] = T (ends es p)
  On es p (b ∷ s) = T (ends es p && not end) ⊎ Meeting es (follows es p) b s

  go_on : (e : Elem) (es : List Elem) (s : List ℕ) → Go (rest (e ∷ es) zero) s → On (e ∷ es) zero s
  go_on (once a) es [] g = g
  go_on (once a) es (b ∷ s) (inl x) = inl x
  go_on (once a) es (b ∷ s) (inr (q, l, m, h)) = inr (suc q, l, m, h)
  go_on (star a) es [] g = g
  go_on (star a) es (b ∷ s) (inl x) = inl x
  go_on (star a) es (b ∷ s) (inr (zero, l, m, h)) = inr (zero, tt, m, h)
  go_on (star a) es (b ∷ s) (inr (suc q, l, m, h)) = inr (suc q, l, m, h)

  on_go : (e : Elem) (es : List Elem) (s : List ℕ) → On (e ∷ es) zero s → Go (rest (e ∷ es) zero) s
  on_go (once a) es [] g = g
  on_go (once a) es (b ∷ s) (inl x) = inl x
  on_go (once a) es (b ∷ s) (inr (zero, f, m, h)) = absurd f
  on_go (once a) es (b ∷ s) (inr (suc q, f, m, h)) = inr (q, f, m, h)
  on_go (star a) es [] g = g
  on_go (star a) es (b ∷ s) (inl x) = inl x
  on_go (star a) es (b ∷ s) (inr (zero, f, m, h)) = inr (zero, tt, m, h)
  on_go (star a) es (b ∷ s) (inr (suc q, f, m, h)) = inr (suc q, f, m, h)

  on_up : (e : Elem) (es : List Elem) (p : ℕ) (s : List ℕ) → On es p s → On (e ∷ es) (suc p) s
  on_up e es p [] g = g
  on_up e es p (b ∷ s) (inl x) = inl x
  on_up (once a) es p (b ∷ s) (inr (q, f, m, h)) = inr (suc q, f, m, h)
  on_up (star a) es p (b ∷ s) (inr (q, f, m, h)) = inr (suc q, f, m, h)

  on_down : (e : Elem) (es : List Elem) (p : ℕ) (s : List ℕ) → On (e ∷ es) (suc p) s → On es p s
  on_down e es p [] g = g
  on_down e es p (b ∷ s) (inl x) = inl x
  on_down e es p (b ∷ s) (inr (zero, f, m, h)) = absurd f
  on_down (once a) es p (b ∷ s) (inr (suc q, f, m, h)) = inr (q, f, m, h)
  on_down (star a) es p (b ∷ s) (inr (suc q, f, m, h)) = inr (q, f, m, h)

  front_on : (es : List Elem) (p b : ℕ) (s : List ℕ) → T (met_at meet es p b) → T (front meet end (rest es p) s) → On es p s
  front_on [] p b s m h = absurd m
  front_on (e ∷ es) zero b s m h = go_on e es s (front_go (rest (e ∷ es) zero) s h)
  front_on (once a ∷ es) (suc p) b s m h = on_up (once a) es p s (front_on es p b s m h)
  front_on (star a ∷ es) (suc p) b s m h = on_up (star a) es p s (front_on es p b s m h)

  on_front : (es : List Elem) (p b : ℕ) (s : List ℕ) → T (met_at meet es p b) → On es p s → T (front meet end (rest es p) s)
  on_front [] p b s m g = absurd m
  on_front (e ∷ es) zero b s m g = go_front (rest (e ∷ es) zero) s (on_go e es s g)
  on_front (once a ∷ es) (suc p) b s m g = on_front es p b s m (on_down (once a) es p s g)
  on_front (star a ∷ es) (suc p) b s m g = on_front es p b s m (on_down (star a) es p s g)

-- ---- the machine

module _ (meet : Atom → ℕ → Bool) (start end : Bool) (es : List Elem) where
  abbrev mach : Machine
  mach = compiled meet (record { at_start = start; elems = es; at_end = end })

  -- q meets the first byte, and the elements left behind it fit
  abbrev Good : ℕ → List ℕ → Type 0
  Good q [] = ⊥
  Good q (b ∷ s) = T (met_at meet es q b) × T (front meet end (rest es q) s)

  live_good : {q : ℕ} {l : List ℕ} → Live mach q l → Good q l
  live_good (live_end {p = q} {b = b} {s = []} m z) = (m, on_front meet end es q b [] m (left (ends es q) (not end || true) z))
  live_good (live_end {p = q} {b = b} {s = c ∷ s} m z) = (
    m,
    on_front meet end es q b (c ∷ s) m
        (inl (both (ends es q) (not end) (left (ends es q) (not end || false) z) (or_no (not end) (right (ends es q) (not end || false) z)))),
  )
  live_good (live_on {s = []} m f v) = absurd (dead v)
  live_good (live_on {p = q} {q = q'} {b = b} {s = c ∷ s} m f v) =
      let g = live_good v in
      (m, on_front meet end es q b (c ∷ s) m (inr (q', f, g.0, g.1)))

  good_live : (l : List ℕ) (q : ℕ) → Good q l → Live mach q l
  good_live [] q g = absurd g
  good_live (b ∷ s) q g = on_live s q b g.0 (good_live s) (front_on meet end es q b s g.0 g.1)
    where
      on_live : (s : List ℕ) (q b : ℕ) → T (met_at meet es q b) → ((q' : ℕ) → Good q' s → Live mach q' s) → On meet end es q s → Live mach q (b ∷ s)
      on_live [] q b m ih o = live_end m (both (ends es q) (not end || true) o (or_right (not end) true tt))
      on_live (c ∷ s) q b m ih (inl o) =
          live_end m (both (ends es q) (not end || false) (left (ends es q) (not end) o) (or_left (not end) false (right (ends es q) (not end) o)))
      on_live (c ∷ s) q b m ih (inr (q', f, m', h)) = live_on m f (ih q' (m', h))

  abbrev at_front : Bool → Bool
  at_front a = not start || a

  starts_front : (a : Bool) (l : List ℕ) → Starts mach a l → T (at_front a) × T (front meet end es l)
  starts_front a [] (starts_none z) =
      let x = right (at_front a) (free es && (not end || true)) z in
      (left (at_front a) (free es && (not end || true)) z, go_front meet end es [] (left (free es) (not end || true) x))
  starts_front a (b ∷ s) (starts_none z) =
      let x = right (at_front a) (free es && (not end || false)) z in (
        left (at_front a) (free es && (not end || false)) z,
        go_front meet end es (b ∷ s)
            (inl (both (free es) (not end) (left (free es) (not end || false) x) (or_no (not end) (right (free es) (not end || false) x)))),
      )
  starts_front a [] (starts_live f v) = absurd (dead v)
  starts_front a (b ∷ s) (starts_live {p = q} f v) =
      let g = live_good v in
      (left (at_front a) (leads es q) f, go_front meet end es (b ∷ s) (inr (q, right (at_front a) (leads es q) f, g.0, g.1)))

  starts_go : (a : Bool) (l : List ℕ) → T (at_front a) → Go meet end es l → Starts mach a l
  starts_go a [] f g =
      starts_none (both (at_front a) (free es && (not end || true)) f (both (free es) (not end || true) g (or_right (not end) true tt)))
  starts_go a (b ∷ s) f (inl g) =
      starts_none (both (at_front a) (free es && (not end || false)) f
      (both (free es) (not end || false) (left (free es) (not end) g) (or_left (not end) false (right (free es) (not end) g))))
  starts_go a (b ∷ s) f (inr (q, l, m, h)) = starts_live (both (at_front a) (leads es q) f l) (good_live (b ∷ s) q (m, h))

  pub starts_iff : (a : Bool) (l : List ℕ) → Starts mach a l ↔ T (at_front a && front meet end es l)
  starts_iff a l = (
    λ v. let f = starts_front a l v in both (at_front a) (front meet end es l) f.0 f.1,
    λ t. starts_go a l (left (at_front a) (front meet end es l) t) (front_go meet end es l (right (at_front a) (front meet end es l) t)),
  )

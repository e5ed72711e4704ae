-- `place_of` answers the place that `IsPlace` names, and nowhere exactly if no part fits.
use mathlib.Core.Path.{◌≡◌, refl, sym, ap, ap₂, ◌∙◌, subst, subst⁻¹}
use mathlib.Core.Bool.{Bool, true, false, true≢false}
use mathlib.Core.Option.{Option, none, some}
use mathlib.Core.List.{List, [], ◌∷◌}
use Prim.Native.Nat.{ℕ, zero, suc, ◌+◌, ◌≤◌}
use native.Mathlib.Omega.{arith}
use lib.Dec.{T}
use lib.ListN.{length, drop, length-drop}
use Rattle.octets.specs.Lists.{pick}
use Rattle.basic.specs.Pattern.{Atom, Elem, Pattern}
use Rattle.pattern.specs.Parts.{FitsAt}
use Rattle.place.specs.Place.{IsPlace, furthest, nowhere, here_or, first_place, place_of}
use Rattle.place.specs.declared.Place.{Place}
use Rattle.pattern.proofs.Taken.{Fore}
use Rattle.place.proofs.Far.{Far, furthest_is}

-- ---- the first of a kind, and of those the longest

-- the answer in words: nothing of the kind, or the first of it and the longest of those
pub record Best (P : ℕ → ℕ → Type 0) (r : Place) : Type 0 where
  pub none : r.found ≡ false → (j n : ℕ) → P j n → ⊥
  pub is : r.found ≡ true → P r.start r.size
  pub first : r.found ≡ true → (j n : ℕ) → P j n → r.start ≤ j
  pub longest : r.found ≡ true → (n : ℕ) → P r.start n → n ≤ r.size
  pub quiet : r.found ≡ false → r ≡ nowhere

pub best_same : (P Q : ℕ → ℕ → Type 0) (r : Place) → ((j n : ℕ) → P j n → Q j n) → ((j n : ℕ) → Q j n → P j n) → Best P r → Best Q r
best_same P Q r f g b = record {
  none = λ e j n q. b.none e j n (g j n q);
  is = λ e. f r.start r.size (b.is e);
  first = λ e j n q. b.first e j n (g j n q);
  longest = λ e n q. b.longest e n (g r.start n q);
  quiet = b.quiet;
}

module _ (Q : List ℕ → ℕ → Type 0) (k : List ℕ → Option ℕ) (ks : (s : List ℕ) → Far (Q s) (k s)) where
  -- at j
  abbrev On : List ℕ → ℕ → ℕ → Type 0
  On s j n = (j ≤ length s) × Q (drop j s) n

  -- the front alone
  pub front_best : (s : List ℕ) → Best (λ (j n : ℕ). (j ≡ 0) × Q s n) (here_or (k s) nowhere)
  front_best s = go (k s) (ks s)
    where
      go : (o : Option ℕ) → Far (Q s) o → Best (λ (j n : ℕ). (j ≡ 0) × Q s n) (here_or o nowhere)
      go none x = record {
        none = λ e j n q. x n q.1;
        is = λ e. absurd (true≢false (sym e));
        first = λ e. absurd (true≢false (sym e));
        longest = λ e. absurd (true≢false (sym e));
        quiet = λ e. refl;
      }
      go (some r) x = record {
        none = λ e. absurd (true≢false e);
        is = λ e. (refl, x.0);
        first = λ e j n q. omega arith;
        longest = λ e n q. x.1 n q.1;
        quiet = λ e. absurd (true≢false e);
      }

  here_best : (s : List ℕ) (r : ℕ) → Far (Q s) (some r) → Best (On s) (record { found = true; start = 0; size = r })
  here_best s r x = record {
    none = λ e. absurd (true≢false e);
    is = λ e. (omega arith, x.0);
    first = λ e j n q. omega arith;
    longest = λ e n q. x.1 n q.1;
    quiet = λ e. absurd (true≢false e);
  }

  nowhere_best : (P : ℕ → ℕ → Type 0) → ((j n : ℕ) → P j n → ⊥) → Best P nowhere
  nowhere_best P x = record {
    none = λ e. x;
    is = λ e. absurd (true≢false (sym e));
    first = λ e. absurd (true≢false (sym e));
    longest = λ e. absurd (true≢false (sym e));
    quiet = λ e. refl;
  }

  later_best : (b : ℕ) (s : List ℕ) (start len : ℕ) → ((n : ℕ) → Q (b ∷ s) n → ⊥) → Best (On s) (record { found = true; start = start; size = len })
      → Best (On (b ∷ s)) (record { found = true; start = suc start; size = len })
  later_best b s start len x y = record {
    none = λ e. absurd (true≢false e);
    is = λ e. let q = y.is refl in let l : start ≤ length s = q.0 in (omega arith, q.1);
    first = λ e. first_at;
    longest = λ e n q. let l : suc start ≤ suc (length s) = q.0 in y.longest refl n (omega arith, q.1);
    quiet = λ e. absurd (true≢false e);
  }
    where
      first_at : (j n : ℕ) → On (b ∷ s) j n → suc start ≤ j
      first_at zero n q = absurd (x n q.1)
      first_at (suc j) n q =
          let l : suc j ≤ suc (length s) = q.0 in
          let m : start ≤ j = y.first refl j n (omega arith, q.1) in omega arith

  pub first_best : (s : List ℕ) → Best (On s) (first_place k s)
  first_best [] = go (k []) (ks [])
    where
      go : (o : Option ℕ) → Far (Q []) o → Best (On []) (here_or o nowhere)
      go none x = nowhere_best (On []) at
        where
          at : (j n : ℕ) → On [] j n → ⊥
          at zero n q = x n q.1
          at (suc j) n q = let l : suc j ≤ 0 = q.0 in omega arith
      go (some r) x = here_best [] r x
  first_best (b ∷ s) = go (k (b ∷ s)) (ks (b ∷ s)) (first_place k s) (first_best s)
    where
      go : (o : Option ℕ) → Far (Q (b ∷ s)) o → (later : Place) → Best (On s) later → Best (On (b ∷ s)) (here_or o later)
      go (some r) x later y = here_best (b ∷ s) r x
      go none x later y = at later.found refl
        where
          none_at : later.found ≡ false → (j n : ℕ) → On (b ∷ s) j n → ⊥
          none_at e zero n q = x n q.1
          none_at e (suc j) n q = let l : suc j ≤ suc (length s) = q.0 in y.none e j n (omega arith, q.1)

          at : (t : Bool) → later.found ≡ t → Best (On (b ∷ s)) (pick t (record { found = true; start = suc later.start; size = later.size }) nowhere)
          at true e =
              later_best b s later.start later.size x
              (subst (λ (t : Bool). Best (On s) (record { found = t; start = later.start; size = later.size })) e y)
          at false e = nowhere_best (On (b ∷ s)) (none_at e)

-- ---- a pattern

module _ (meet : Atom → ℕ → Bool) (end : Bool) (es : List Elem) (s : List ℕ) where
  abbrev pat : Bool → Pattern
  pat start = record { at_start = start; elems = es; at_end = end }

  abbrev Here : List ℕ → ℕ → Type 0
  Here l n = Fore meet end es l n

  pub fore_fits : (start : Bool) (j n : ℕ) → j ≤ length s → Here (drop j s) n → (T start → j ≡ 0) → FitsAt meet (pat start) s j n
  fore_fits start j n l f z =
      let w : n ≤ length (drop j s) = f.within in
      let d = length-drop j s in
      record { within = omega arith; fits = f.fits; start = z; end = λ t. let e : n ≡ length (drop j s) = f.ends t in omega arith }

  pub fits_fore : (start : Bool) (j n : ℕ) → FitsAt meet (pat start) s j n → (j ≤ length s) × Here (drop j s) n
  fits_fore start j n f =
      let w : j + n ≤ length s = f.within in
      let d = length-drop j s in
      (omega arith, record { within = omega arith; fits = f.fits; ends = λ t. let e : j + n ≡ length s = f.end t in omega arith })

  place_best : (start : Bool) → Best (FitsAt meet (pat start) s) (place_of meet (pat start) s)
  unfolding place_of
  place_best true =
      best_same (λ (j n : ℕ). (j ≡ 0) × Here s n) (FitsAt meet (pat true) s) (place_of meet (pat true) s)
      (λ j n q. subst⁻¹ (λ (i : ℕ). FitsAt meet (pat true) s i n) q.0 (fore_fits true 0 n (omega arith) q.1 (λ t. refl)))
      (λ j n f. (f.start tt, subst (λ (i : ℕ). Here (drop i s) n) (f.start tt) (fits_fore true j n f).1))
      (front_best Here (furthest meet end es) (furthest_is meet end es) s)
  place_best false =
      best_same (λ (j n : ℕ). (j ≤ length s) × Here (drop j s) n) (FitsAt meet (pat false) s) (place_of meet (pat false) s)
      (λ j n q. fore_fits false j n q.0 q.1 (λ t. absurd t))
      (λ j n f. fits_fore false j n f)
      (first_best Here (furthest meet end es) (furthest_is meet end es) s)

abbrev at : Bool → ℕ → ℕ → Place
at t j n = record { found = t; start = j; size = n }

same_place : (r : Place) (j n : ℕ) → r.found ≡ true → j ≡ r.start → n ≡ r.size → at true j n ≡ r
same_place r j n e a b = ap₂ (at true) a b ∙ ap (λ (t : Bool). at t r.start r.size) (sym e)

module _ (meet : Atom → ℕ → Bool) (p : Pattern) (s : List ℕ) where
  pub place_is_best : Best (FitsAt meet p s) (place_of meet p s)
  place_is_best = place_best meet p.at_end p.elems s p.at_start

  -- a place that is answered is one
  pub place_sound : (place_of meet p s).found ≡ true → IsPlace meet p s (place_of meet p s).start (place_of meet p s).size
  place_sound e =
      let b = place_is_best in
      record { fits = b.is e; smallest = b.first e; longest = b.longest e }

  -- none is answered only where no part fits
  pub place_none : (place_of meet p s).found ≡ false → (j n : ℕ) → FitsAt meet p s j n → ⊥
  place_none e = place_is_best.none e

  -- there is one place at most
  pub place_one : (j n i m : ℕ) → IsPlace meet p s j n → IsPlace meet p s i m → (j ≡ i) × (n ≡ m)
  place_one j n i m x y =
      let a : j ≤ i = x.smallest i m y.fits in
      let b : i ≤ j = y.smallest j n x.fits in
      let e : j ≡ i = omega arith in
      let c : n ≤ m = y.longest n (subst (λ (k : ℕ). FitsAt meet p s k n) e x.fits) in
      let d : m ≤ n = x.longest m (subst⁻¹ (λ (k : ℕ). FitsAt meet p s k m) e y.fits) in
      (e, omega arith)

  -- and it is answered
  pub place_complete : (j n : ℕ) → IsPlace meet p s j n → record { found = true; start = j; size = n } ≡ place_of meet p s
  place_complete j n x = go (place_of meet p s).found refl
    where
      go : (t : Bool) → (place_of meet p s).found ≡ t → record { found = true; start = j; size = n } ≡ place_of meet p s
      go true e =
          let q = place_one j n (place_of meet p s).start (place_of meet p s).size x (place_sound e) in
          same_place (place_of meet p s) j n e q.0 q.1
      go false e = absurd (place_none e j n x.fits)

  pub nowhere_complete : ((j n : ℕ) → FitsAt meet p s j n → ⊥) → nowhere ≡ place_of meet p s
  nowhere_complete x = go (place_of meet p s).found refl
    where
      go : (t : Bool) → (place_of meet p s).found ≡ t → nowhere ≡ place_of meet p s
      go true e = absurd (x (place_of meet p s).start (place_of meet p s).size (place_is_best.is e))
      go false e = sym (place_is_best.quiet e)

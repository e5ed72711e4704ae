-- `furthest` is the largest length at which the elements fit at the front.
use mathlib.Core.Path.{◌≡◌, refl, sym, subst}
use mathlib.Core.Bool.{Bool, true, false}
use mathlib.Core.Option.{Option, none, some}
use mathlib.Core.Logic.{◌⊎◌, inl, inr}
use mathlib.Core.List.{List, [], ◌∷◌}
use Prim.Native.Nat.{ℕ, zero, suc, ◌≤◌, ◌<◌}
use native.Mathlib.Omega.{arith}
use lib.Dec.{T, leb}
use lib.ListN.{length, take}
use borrow.Author.Tests.{leb-true, leb-false}
use Rattle.octets.specs.Lists.{pick, empty}
use Rattle.octets.proofs.Tests.{T_of, not_T_of}
use Rattle.basic.specs.Pattern.{Atom, Elem, once, star, Fits, done, one, stop, more}
use Rattle.pattern.proofs.Taken.{Fore}
use Rattle.place.specs.Place.{longer, one_more, single_far, repeated_far, furthest}

-- ---- the largest number of a kind, or none

abbrev pub Far : (ℕ → Type 0) → Option ℕ → Type 0
Far P none = (n : ℕ) → P n → ⊥
Far P (some r) = P r × ((n : ℕ) → P n → n ≤ r)

pub far_same : (P Q : ℕ → Type 0) (o : Option ℕ) → ((n : ℕ) → P n → Q n) → ((n : ℕ) → Q n → P n) → Far P o → Far Q o
far_same P Q none f g x = λ n q. x n (g n q)
far_same P Q (some r) f g x = (f r x.0, λ n q. x.1 n (g n q))

far_more : (P Q : ℕ → Type 0) (o : Option ℕ) → ((n : ℕ) → P n → Q (suc n)) → ((n : ℕ) → Q n → (m : ℕ) × (n ≡ suc m) × P m) → Far P o → Far Q (one_more o)
far_more P Q none f g x = λ n q. let h = g n q in x h.0 h.2
far_more P Q (some r) f g x = (f r x.0, λ n q. at n (g n q))
  where
    at : (n : ℕ) → (m : ℕ) × (n ≡ suc m) × P m → n ≤ suc r
    at n (m, e, p) = let l : m ≤ r = x.1 m p in omega arith

far_longer : (P Q R : ℕ → Type 0) (o u : Option ℕ) → ((n : ℕ) → P n → R n) → ((n : ℕ) → Q n → R n) → ((n : ℕ) → R n → P n ⊎ Q n) → Far P o → Far Q u → Far R (longer o u)
far_longer P Q R none none f g s x y = λ n r. neither (s n r)
  where
    neither : {n : ℕ} → P n ⊎ Q n → ⊥
    neither {n} (inl p) = x n p
    neither {n} (inr q) = y n q
far_longer P Q R none (some v) f g s x y = (g v y.0, λ n r. at n (s n r))
  where
    at : (n : ℕ) → P n ⊎ Q n → n ≤ v
    at n (inl p) = absurd (x n p)
    at n (inr q) = y.1 n q
far_longer P Q R (some w) none f g s x y = (f w x.0, λ n r. at n (s n r))
  where
    at : (n : ℕ) → P n ⊎ Q n → n ≤ w
    at n (inl p) = x.1 n p
    at n (inr q) = absurd (y n q)
far_longer P Q R (some w) (some v) f g s x y = go (leb w v) refl
  where
    go : (t : Bool) → leb w v ≡ t → Far R (some (pick t v w))
    go true e = (g v y.0, λ n r. at n (s n r))
      where
        at : (n : ℕ) → P n ⊎ Q n → n ≤ v
        at n (inl p) = let l : w ≤ v = leb-true w v e in let k : n ≤ w = x.1 n p in omega arith
        at n (inr q) = y.1 n q
    go false e = (f w x.0, λ n r. at n (s n r))
      where
        at : (n : ℕ) → P n ⊎ Q n → n ≤ w
        at n (inl p) = x.1 n p
        at n (inr q) = let l : v < w = leb-false w v e in let k : n ≤ v = y.1 n q in omega arith

-- ---- elements at the front

module _ (meet : Atom → ℕ → Bool) (end : Bool) where
  -- what fits no element is empty
  fits_none : {l : List ℕ} → Fits meet [] l → l ≡ []
  fits_none done = refl

  no_bytes : (s : List ℕ) (n : ℕ) → n ≤ length s → take n s ≡ [] → n ≡ 0
  no_bytes s zero l e = refl
  no_bytes [] (suc n) l e = absurd (omega arith)
  no_bytes (b ∷ s) (suc n) l e = absurd (subst (λ (t : List ℕ). T (empty t)) (sym e) tt)

  fore_none : (s : List ℕ) (n : ℕ) → Fore meet end [] s n → n ≡ 0
  fore_none s n f = no_bytes s n f.within (fits_none f.fits)

  -- one element
  once_more : (a : Atom) (es : List Elem) (b : ℕ) (s : List ℕ) → T (meet a b) → (n : ℕ) → Fore meet end es s n → Fore meet end (once a ∷ es) (b ∷ s) (suc n)
  once_more a es b s m n f =
      let l : n ≤ length s = f.within in
      record { within = omega arith; fits = one m f.fits; ends = λ t. let e : n ≡ length s = f.ends t in omega arith }

  once_split : {a : Atom} {es : List Elem} {b : ℕ} {s : List ℕ} → Fits meet (once a ∷ es) (b ∷ s) → T (meet a b) × Fits meet es s
  once_split (one m f) = (m, f)

  once_empty : {a : Atom} {es : List Elem} → Fits meet (once a ∷ es) [] → ⊥
  once_empty f = go f refl
    where
      go : {a : Atom} {es : List Elem} {l : List ℕ} → Fits meet (once a ∷ es) l → l ≡ [] → ⊥
      go (one m f) e = subst (λ (t : List ℕ). T (empty t)) (sym e) tt

  once_none : (a : Atom) (es : List Elem) (n : ℕ) → Fore meet end (once a ∷ es) [] n → ⊥
  once_none a es zero f = once_empty f.fits
  once_none a es (suc n) f = once_empty f.fits

  once_less : (a : Atom) (es : List Elem) (b : ℕ) (s : List ℕ) (n : ℕ) → Fore meet end (once a ∷ es) (b ∷ s) n → T (meet a b) × ((m : ℕ) × (n ≡ suc m) × Fore meet end es s m)
  once_less a es b s zero f = absurd (once_empty f.fits)
  once_less a es b s (suc n) f =
      let l : suc n ≤ suc (length s) = f.within in
      let h = once_split f.fits in
      (h.0, (n, refl, record { within = omega arith; fits = h.1; ends = λ t. let e : suc n ≡ suc (length s) = f.ends t in omega arith }))

  single_is : (a : Atom) (es : List Elem) (k : List ℕ → Option ℕ) → ((s : List ℕ) → Far (Fore meet end es s) (k s))
      → (s : List ℕ) → Far (Fore meet end (once a ∷ es) s) (single_far (meet a) k s)
  single_is a es k ks [] = once_none a es
  single_is a es k ks (b ∷ s) = go (meet a b) refl
    where
      go : (t : Bool) → meet a b ≡ t → Far (Fore meet end (once a ∷ es) (b ∷ s)) (pick t (one_more (k s)) none)
      go true e = far_more (Fore meet end es s) (Fore meet end (once a ∷ es) (b ∷ s)) (k s) (once_more a es b s (T_of e)) (λ n f. (once_less a es b s n f).1) (ks s)
      go false e = λ n f. not_T_of e (once_less a es b s n f).0

  -- a repeated one
  star_none : (a : Atom) (es : List Elem) (s : List ℕ) (n : ℕ) → Fore meet end es s n → Fore meet end (star a ∷ es) s n
  star_none a es s n f = record { within = f.within; fits = stop f.fits; ends = f.ends }

  star_more : (a : Atom) (es : List Elem) (b : ℕ) (s : List ℕ) → T (meet a b) → (n : ℕ) → Fore meet end (star a ∷ es) s n → Fore meet end (star a ∷ es) (b ∷ s) (suc n)
  star_more a es b s m n f =
      let l : n ≤ length s = f.within in
      record { within = omega arith; fits = more m f.fits; ends = λ t. let e : n ≡ length s = f.ends t in omega arith }

  star_split : {a : Atom} {es : List Elem} {b : ℕ} {s : List ℕ} → Fits meet (star a ∷ es) (b ∷ s) → Fits meet es (b ∷ s) ⊎ (T (meet a b) × Fits meet (star a ∷ es) s)
  star_split (stop f) = inl f
  star_split (more m f) = inr (m, f)

  star_empty : {a : Atom} {es : List Elem} → Fits meet (star a ∷ es) [] → Fits meet es []
  star_empty f = go f refl
    where
      go : {a : Atom} {es : List Elem} {l : List ℕ} → Fits meet (star a ∷ es) l → l ≡ [] → Fits meet es []
      go {es = es} (stop f) e = subst (λ (l : List ℕ). Fits meet es l) e f
      go (more m f) e = absurd (subst (λ (t : List ℕ). T (empty t)) (sym e) tt)

  star_last : (a : Atom) (es : List Elem) (n : ℕ) → Fore meet end (star a ∷ es) [] n → Fore meet end es [] n
  star_last a es zero f = record { within = f.within; fits = star_empty f.fits; ends = f.ends }
  star_last a es (suc n) f = let l : suc n ≤ 0 = f.within in absurd (omega arith)

  abbrev Again : Atom → List Elem → ℕ → List ℕ → ℕ → Type 0
  Again a es b s n = T (meet a b) × ((m : ℕ) × (n ≡ suc m) × Fore meet end (star a ∷ es) s m)

  star_less : (a : Atom) (es : List Elem) (b : ℕ) (s : List ℕ) (n : ℕ) → Fore meet end (star a ∷ es) (b ∷ s) n → Fore meet end es (b ∷ s) n ⊎ Again a es b s n
  star_less a es b s zero f = inl (record { within = f.within; fits = star_empty f.fits; ends = f.ends })
  star_less a es b s (suc n) f = go (star_split f.fits)
    where
      go : Fits meet es (b ∷ take n s) ⊎ (T (meet a b) × Fits meet (star a ∷ es) (take n s)) → Fore meet end es (b ∷ s) (suc n) ⊎ Again a es b s (suc n)
      go (inl h) = inl (record { within = f.within; fits = h; ends = f.ends })
      go (inr (m, h)) =
          let l : suc n ≤ suc (length s) = f.within in
          inr (m, (n, refl, record { within = omega arith; fits = h; ends = λ t. let e : suc n ≡ suc (length s) = f.ends t in omega arith }))

  repeated_is : (a : Atom) (es : List Elem) (k : List ℕ → Option ℕ) → ((s : List ℕ) → Far (Fore meet end es s) (k s))
      → (s : List ℕ) → Far (Fore meet end (star a ∷ es) s) (repeated_far (meet a) k s)
  repeated_is a es k ks [] = far_same (Fore meet end es []) (Fore meet end (star a ∷ es) []) (k []) (star_none a es []) (star_last a es) (ks [])
  repeated_is a es k ks (b ∷ s) = go (meet a b) refl (repeated_is a es k ks s)
    where
      again : (t : Bool) → meet a b ≡ t → Far (Fore meet end (star a ∷ es) s) (repeated_far (meet a) k s) → Far (Again a es b s) (pick t (one_more (repeated_far (meet a) k s)) none)
      again true e ih = far_more (Fore meet end (star a ∷ es) s) (Again a es b s) (repeated_far (meet a) k s) (λ n f. (T_of e, (n, refl, f))) (λ n q. q.1) ih
      again false e ih = λ n q. not_T_of e q.0

      back : (n : ℕ) → Again a es b s n → Fore meet end (star a ∷ es) (b ∷ s) n
      back n (m, (i, e, f)) = subst (λ (x : ℕ). Fore meet end (star a ∷ es) (b ∷ s) x) (sym e) (star_more a es b s m i f)

      go : (t : Bool) → meet a b ≡ t → Far (Fore meet end (star a ∷ es) s) (repeated_far (meet a) k s)
          → Far (Fore meet end (star a ∷ es) (b ∷ s)) (longer (k (b ∷ s)) (pick t (one_more (repeated_far (meet a) k s)) none))
      go t e ih =
          far_longer (Fore meet end es (b ∷ s)) (Again a es b s) (Fore meet end (star a ∷ es) (b ∷ s)) (k (b ∷ s)) (pick t (one_more (repeated_far (meet a) k s)) none)
          (star_none a es (b ∷ s)) back (star_less a es b s) (ks (b ∷ s)) (again t e ih)

none_is : (meet : Atom → ℕ → Bool) (end : Bool) (s : List ℕ) → Far (Fore meet end [] s) (furthest meet end [] s)
unfolding furthest
none_is meet true [] = (record { within = omega arith; fits = done; ends = λ t. refl }, λ n f. f.within)
none_is meet true (b ∷ s) = λ n f. let e : n ≡ suc (length s) = f.ends tt in let z : n ≡ 0 = fore_none meet true (b ∷ s) n f in absurd (omega arith)
none_is meet false s = (record { within = omega arith; fits = done; ends = λ t. absurd t }, λ n f. let z : n ≡ 0 = fore_none meet false s n f in omega arith)

pub furthest_is : (meet : Atom → ℕ → Bool) (end : Bool) (es : List Elem) (s : List ℕ) → Far (Fore meet end es s) (furthest meet end es s)
unfolding furthest
furthest_is meet end [] s = none_is meet end s
furthest_is meet end (once a ∷ es) s = single_is meet end a es (furthest meet end es) (furthest_is meet end es) s
furthest_is meet end (star a ∷ es) s = repeated_is meet end a es (furthest meet end es) (furthest_is meet end es) s

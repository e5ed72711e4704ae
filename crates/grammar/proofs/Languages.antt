-- Languages: which texts there are and what is read from each, and when a reading is right.
use mathlib.Core.Path.{◌≡◌}
use mathlib.Core.Logic.{◌⊎◌, inl, inr, ⊎_elim}
use Prim.Native.Nat.{ℕ, zero, suc, ◌≤◌, ◌<◌}
use native.Mathlib.Omega.{arith}
use mathlib.Core.List.{List, [], ◌∷◌, ◌++◌}
use lib.ListN.{length, take}
use Rattle.grammar.specs.Reading.{Read, read_as, wrong, twice, later, larger, better}

abbrev pub Lang : Type 0 → Type 1
Lang R = List ℕ → R → Type 0

-- what may follow the byte b
abbrev pub after : {R : Type 0} → ℕ → Lang R → Lang R
after b L = λ t r. L (b ∷ t) r

-- some text is there; none is
abbrev pub Alive : {R : Type 0} → Lang R → Type 0
Alive {R} L = (t : List ℕ) × (r : R) × L t r

abbrev pub Dead : {R : Type 0} → Lang R → Type 0
Dead {R} L = (t : List ℕ) (r : R) → L t r → ⊥

-- s is no text, n bytes of it begin one, and no more do
abbrev pub Stops : {R : Type 0} → Lang R → List ℕ → ℕ → Type 0
Stops {R} L [] zero = Alive L × ((r : R) → L [] r → ⊥)
Stops L [] (suc n) = ⊥
Stops L (b ∷ s) zero = Alive L × Dead (after b L)
Stops L (b ∷ s) (suc n) = Stops (after b L) s n

-- a reading of s says what the language says
abbrev pub Right : {R : Type 0} → Lang R → List ℕ → Read R → Type 0
Right {R} L s (read_as r) = L s r × ((q : R) → L s q → q ≡ r)
Right L s (wrong n) = Stops L s n
Right L s twice = Unit {0}

abbrev pub Within : {R : Type 0} → Lang R → Lang R → Type 0
Within {R} L M = (t : List ℕ) (r : R) → L t r → M t r

alive_in : {R : Type 0} (L M : Lang R) → Within L M → Alive L → Alive M
alive_in L M f a = (a.0, a.1, f a.0 a.1 a.2)

-- ---- one language for another

stops_same : {R : Type 0} (L M : Lang R) → Within L M → Within M L → (s : List ℕ) (n : ℕ) → Stops L s n → Stops M s n
stops_same L M f g [] zero h = (alive_in L M f h.0, λ r m. h.1 r (g [] r m))
stops_same L M f g [] (suc n) h = h
stops_same L M f g (b ∷ s) zero h = (alive_in L M f h.0, λ t r m. h.1 t r (g (b ∷ t) r m))
stops_same L M f g (b ∷ s) (suc n) h = stops_same (after b L) (after b M) (λ t r. f (b ∷ t) r) (λ t r. g (b ∷ t) r) s n h

pub right_same : {R : Type 0} (L M : Lang R) → Within L M → Within M L → (s : List ℕ) (x : Read R) → Right L s x → Right M s x
right_same L M f g s (read_as r) h = (f s r h.0, λ q m. h.1 q (g s q m))
right_same L M f g s (wrong n) h = stops_same L M f g s n h
right_same L M f g s twice h = tt

-- ---- one byte more

pub right_later : {R : Type 0} (L : Lang R) (b : ℕ) (s : List ℕ) (x : Read R) → Right (after b L) s x → Right L (b ∷ s) (later x)
right_later L b s (read_as r) h = h
right_later L b s (wrong n) h = h
right_later L b s twice h = tt

-- ---- two ways to go on

abbrev pub Either : {R : Type 0} → Lang R → Lang R → Lang R
Either L M = λ t r. L t r ⊎ M t r

stops_right : {R : Type 0} (L M : Lang R) → Dead L → (s : List ℕ) (n : ℕ) → Stops M s n → Stops (Either L M) s n
stops_right L M d s n h = stops_same M (Either L M) (λ t r m. inr m) (λ t r e. ⊎_elim (λ l. absurd (d t r l)) (λ m. m) e) s n h

stops_left : {R : Type 0} (L M : Lang R) → Dead M → (s : List ℕ) (n : ℕ) → Stops L s n → Stops (Either L M) s n
stops_left L M d s n h = stops_same L (Either L M) (λ t r m. inl m) (λ t r e. ⊎_elim (λ l. l) (λ m. absurd (d t r m)) e) s n h

alive_left : {R : Type 0} (L M : Lang R) → Alive L → Alive (Either L M)
alive_left L M a = alive_in L (Either L M) (λ t r l. inl l) a

stops_both : {R : Type 0} (L M : Lang R) (s : List ℕ) (m n : ℕ) → Stops L s m → Stops M s n → Stops (Either L M) s (larger m n)
stops_both L M [] zero zero h k = (alive_left L M h.0, λ r e. ⊎_elim (h.1 r) (k.1 r) e)
stops_both L M [] zero (suc n) h k = k
stops_both L M [] (suc m) zero h k = h
stops_both L M [] (suc m) (suc n) h k = h
stops_both L M (b ∷ s) zero zero h k = (alive_left L M h.0, λ t r e. ⊎_elim (h.1 t r) (k.1 t r) e)
stops_both L M (b ∷ s) zero (suc n) h k = stops_right (after b L) (after b M) h.1 s n k
stops_both L M (b ∷ s) (suc m) zero h k = stops_left (after b L) (after b M) k.1 s m h
stops_both L M (b ∷ s) (suc m) (suc n) h k = stops_both (after b L) (after b M) s m n h k

-- where a text stops, it is none
stops_none : {R : Type 0} (L : Lang R) (s : List ℕ) (n : ℕ) → Stops L s n → (r : R) → L s r → ⊥
stops_none L [] zero h r l = h.1 r l
stops_none L [] (suc n) h r l = h
stops_none L (b ∷ s) zero h r l = h.1 s r l
stops_none L (b ∷ s) (suc n) h r l = stops_none (after b L) s n h r l

pub right_better : {R : Type 0} (L M : Lang R) (s : List ℕ) (x y : Read R) → Right L s x → Right M s y → Right (Either L M) s (better x y)
right_better L M s (read_as r) (read_as q) h k = tt
right_better L M s (read_as r) (wrong n) h k = (inl h.0, λ q e. ⊎_elim (λ l. h.1 q l) (λ m. absurd (stops_none M s n k q m)) e)
right_better L M s (read_as r) twice h k = tt
right_better L M s (wrong m) (read_as r) h k = (inr k.0, λ q e. ⊎_elim (λ l. absurd (stops_none L s m h q l)) (λ n. k.1 q n) e)
right_better L M s (wrong m) (wrong n) h k = stops_both L M s m n h k
right_better L M s (wrong m) twice h k = tt
right_better L M s twice y h k = tt

-- ---- by prefixes

pub record Prefixes {R : Type 0} (L : Lang R) (s : List ℕ) (n : ℕ) : Type 0 where
  pub no_text : (r : R) → L s r → ⊥
  pub within : n ≤ length s
  pub before : (t : List ℕ) × (r : R) × L (take n s ++ t) r
  pub here : n < length s → (t : List ℕ) (r : R) → L (take (suc n) s ++ t) r → ⊥

pub prefixes : {R : Type 0} (L : Lang R) (s : List ℕ) (n : ℕ) → Stops L s n → Prefixes L s n
prefixes L [] zero h = record { no_text = h.1; within = omega arith; before = h.0; here = λ l. absurd (omega arith) }
prefixes L [] (suc n) h = absurd h
prefixes L (b ∷ s) zero h = record { no_text = λ r l. h.1 s r l; within = omega arith; before = h.0; here = λ i t r l. h.1 t r l }
prefixes L (b ∷ s) (suc n) h =
    let p : Prefixes (after b L) s n = prefixes (after b L) s n h in
    record { no_text = p.no_text; within = omega (arith, p.within); before = p.before; here = λ i. p.here (omega (arith, i)) }

-- A part of n bytes that the pattern's machine takes is one that fits: the machine whose parts run to the end of the text takes the first n
-- bytes as a whole.
use mathlib.Core.Path.{◌≡◌, refl, sym, ◌∙◌, subst, subst⁻¹}
use mathlib.Core.Bool.{Bool, true, false, not, ◌&&◌, ◌||◌}
use mathlib.Core.Logic.{◌↔◌}
use mathlib.Core.List.{List, [], ◌∷◌, ◌++◌, append-nil}
use Prim.Native.Nat.{ℕ, zero, suc, ◌-◌, ◌≤◌}
use native.Mathlib.Omega.{arith}
use lib.Dec.{T, eqb, eqb→eq}
use lib.ListN.{length, take, drop, length-drop}
use Rattle.octets.specs.Lists.{empty}
use Rattle.octets.proofs.Tests.{both, left, right}
use Rattle.machine.specs.Inner.Machine.{Machine, Live, live_end, live_on, Starts, starts_none, starts_live}
use Rattle.machine.proofs.Scan.{dead}
use Rattle.part.specs.Inner.Part.{Runs, runs_end, runs_on, Part, part_none, part_some, PartAt}
use Rattle.part.proofs.Lengths.{part_within}
use Rattle.pattern.specs.Matching.{front}
use Rattle.basic.specs.Pattern.{Atom, Elem, Pattern, Fits}
use Rattle.pattern.specs.Parts.{FitsAt}
use Rattle.pattern.proofs.Compiled.{compiled, starts_iff}
use Rattle.pattern.proofs.Meaning.{front_sound, front_complete}
use Rattle.pattern.proofs.Positions.{free, ends}

-- the first n bytes of s fit the elements, and nothing is left where the end is anchored
pub record Fore (meet : Atom → ℕ → Bool) (end : Bool) (es : List Elem) (s : List ℕ) (n : ℕ) : Type 0 where
  pub within : n ≤ length s
  pub fits : Fits meet es (take n s)
  pub ends : T end → n ≡ length s

-- nothing of a text that has n bytes is the first n only for 0
none_taken : (n : ℕ) (s : List ℕ) → n ≤ length s → T (empty (take n s)) → n ≡ zero
none_taken zero s l t = refl
none_taken (suc n) [] l t = absurd (omega arith)
none_taken (suc n) (b ∷ s) l t = absurd t

module _ (meet : Atom → ℕ → Bool) (start end : Bool) (es : List Elem) where
  abbrev M : Machine
  M = compiled meet (record { at_start = start; elems = es; at_end = end })

  -- the same, with every part to the end
  abbrev N : Machine
  N = compiled meet (record { at_start = start; elems = es; at_end = true })

  abbrev open_end : List ℕ → Bool
  open_end l = not end || empty l

  runs_whole : {p n : ℕ} {s : List ℕ} → Runs M p n s → Live N p (take n s) × T (open_end (drop n s))
  runs_whole (runs_end {p = p} {s = s} m z) =
      (live_end m (both (ends es p) true (left (ends es p) (open_end s) z) tt), right (ends es p) (open_end s) z)
  runs_whole (runs_on m f v) = let r = runs_whole v in (live_on m f r.0, r.1)

  whole_runs : (n : ℕ) (s : List ℕ) (p : ℕ) → Live N p (take n s) → n ≤ length s → T (open_end (drop n s)) → Runs M p n s
  whole_runs zero s p v l t = absurd (dead v)
  whole_runs (suc n) [] p v l t = absurd (omega arith)
  whole_runs (suc n) (b ∷ s) p v l t = go v (λ q w. whole_runs n s q w (omega arith) t)
    where
      go : Live N p (b ∷ take n s) → ((q : ℕ) → Live N q (take n s) → Runs M q n s) → Runs M p (suc n) (b ∷ s)
      go (live_end m z) ih =
          let e : n ≡ zero = none_taken n s (omega arith) (right (ends es p) (empty (take n s)) z) in
          subst⁻¹ (λ (k : ℕ). Runs M p (suc k) (b ∷ s)) e
          (runs_end m (both (ends es p) (open_end s) (left (ends es p) (empty (take n s)) z) (subst (λ (k : ℕ). T (open_end (drop k s))) e t)))
      go (live_on {q = q} m f v) ih = runs_on m f (ih q v)

  abbrev at_front : Bool → Bool
  at_front a = not start || a

  part_whole : (a : Bool) {n : ℕ} {s : List ℕ} → Part M a n s → Starts N a (take n s) × T (open_end (drop n s))
  part_whole a (part_none {s = s} z) =
      let x = right (at_front a) (free es && open_end s) z in
      (starts_none (both (at_front a) (free es && true) (left (at_front a) (free es && open_end s) z) (both (free es) true (left (free es) (open_end s) x) tt)), right (free es) (open_end s) x)
  part_whole a (part_some f v) = let r = runs_whole v in (starts_live f r.0, r.1)

  whole_part : (a : Bool) (n : ℕ) (s : List ℕ) → n ≤ length s → T (open_end (drop n s)) → Starts N a (take n s) → Part M a n s
  whole_part a n s l t (starts_none z) =
      let x = right (at_front a) (free es && empty (take n s)) z in
      let e : n ≡ zero = none_taken n s l (right (free es) (empty (take n s)) x) in
      subst⁻¹ (λ (k : ℕ). Part M a k s) e
      (part_none (both (at_front a) (free es && open_end s) (left (at_front a) (free es && empty (take n s)) z)
      (both (free es) (open_end s) (left (free es) (empty (take n s)) x) (subst (λ (k : ℕ). T (open_end (drop k s))) e t))))
  whole_part a n s l t (starts_live {p = p} f v) = part_some f (whole_runs n s p v l t)

  -- ---- what fits

  front_fits : (l : List ℕ) → T (front meet true es l) → Fits meet es l
  front_fits l t =
      let f = front_sound meet true es l t in
      let e : f.part ≡ l = sym (subst (λ (r : List ℕ). l ≡ f.part ++ r) (f.ends tt) f.cut ∙ append-nil f.part) in
      subst (λ (r : List ℕ). Fits meet es r) e f.fits

  fits_front : (l : List ℕ) → Fits meet es l → T (front meet true es l)
  fits_front l f = subst (λ (r : List ℕ). T (front meet true es r)) (append-nil l) (front_complete meet true [] (λ t. refl) f)

  ended : (e : Bool) (n : ℕ) (s : List ℕ) → n ≤ length s → T (not e || empty (drop n s)) → T e → n ≡ length s
  ended true n s l t x = at n s l t
    where
      at : (n : ℕ) (s : List ℕ) → n ≤ length s → T (empty (drop n s)) → n ≡ length s
      at zero [] l t = refl
      at zero (b ∷ s) l t = absurd t
      at (suc n) [] l t = absurd (omega arith)
      at (suc n) (b ∷ s) l t = let e : n ≡ length s = at n s (omega arith) t in omega arith
  ended false n s l t x = absurd x

  open_when : (e : Bool) (n : ℕ) (s : List ℕ) → (T e → n ≡ length s) → T (not e || empty (drop n s))
  open_when true n s f = at n s (f tt)
    where
      at : (n : ℕ) (s : List ℕ) → n ≡ length s → T (empty (drop n s))
      at zero [] e = tt
      at zero (b ∷ s) e = absurd (omega arith)
      at (suc n) [] e = absurd (omega arith)
      at (suc n) (b ∷ s) e = at n s (omega arith)
  open_when false n s f = tt

  pub part_fore : (a : Bool) (n : ℕ) (s : List ℕ) → Part M a n s → T (at_front a) × Fore meet end es s n
  part_fore a n s v =
      let w = part_whole a v in
      let t = (starts_iff meet start true es a (take n s)).0 w.0 in
      let l : n ≤ length s = part_within v in (
        left (at_front a) (front meet true es (take n s)) t,
        record { within = l; fits = front_fits (take n s) (right (at_front a) (front meet true es (take n s)) t); ends = ended end n s l w.1 },
      )

  pub fore_part : (a : Bool) (n : ℕ) (s : List ℕ) → T (at_front a) → Fore meet end es s n → Part M a n s
  fore_part a n s t f =
      whole_part a n s f.within (open_when end n s f.ends)
      ((starts_iff meet start true es a (take n s)).1 (both (at_front a) (front meet true es (take n s)) t (fits_front (take n s) f.fits)))

-- ---- at a place of a text

module _ (meet : Atom → ℕ → Bool) (x : Pattern) (t : List ℕ) (j n : ℕ) (inside : j ≤ length t) where
  long : length (drop j t) ≡ length t - j
  long = length-drop j t

  here : (b : Bool) → T (not b || eqb j 0) → T b → j ≡ 0
  here true a u = eqb→eq j 0 a
  here false a u = absurd u

  there : (b : Bool) → (T b → j ≡ 0) → T (not b || eqb j 0)
  there true f = subst⁻¹ (λ (k : ℕ). T (eqb k 0)) (f tt) tt
  there false f = tt

  pub fore_at : T (not x.at_start || eqb j 0) × Fore meet x.at_end x.elems (drop j t) n → FitsAt meet x t j n
  fore_at (a, f) = record {
    within = omega (arith, long, f.within);
    fits = f.fits;
    start = here x.at_start a;
    end = λ u. omega (arith, long, f.ends u);
  }

  pub at_fore : FitsAt meet x t j n → T (not x.at_start || eqb j 0) × Fore meet x.at_end x.elems (drop j t) n
  at_fore f = (
    there x.at_start f.start,
    record {
      within = omega (arith, long, f.within);
      fits = f.fits;
      ends = λ u. omega (arith, long, f.end u);
    },
  )

  -- the machine of a pattern takes the parts that fit
  pub taken : PartAt (compiled meet x) t j n ↔ FitsAt meet x t j n
  taken = (
    λ v. fore_at (part_fore meet x.at_start x.at_end x.elems (eqb j 0) n (drop j t) v),
    λ f. let g = at_fore f in fore_part meet x.at_start x.at_end x.elems (eqb j 0) n (drop j t) g.0 g.1,
  )

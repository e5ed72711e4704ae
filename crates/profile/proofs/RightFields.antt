-- What was written and is read has the value that it must have, field by field: the converse of `WrittenFields`. f is the reading that follows.
use mathlib.Core.Bool.{Bool, true, false, ◌&&◌, ◌||◌}
use mathlib.Core.Path.{◌≡◌, refl, subst}
use Prim.Native.Nat.{ℕ, ◌≤◌, ◌<◌}
use mathlib.Core.List.{List, [], ◌∷◌, ◌++◌}
use lib.ListN.{length, get_or}
use lib.Dec.{T, leb, ltb, eqb, leb→le}
use Rattle.octets.proofs.Tests.{both}
use Rattle.cells.specs.Inner.Out.{Out, good, bad, ◌>>=◌, ◌>>◌, must}
use Rattle.cells.specs.Inner.Places.{u8, u16, u32, limited, counted, exactly, absent, usable, named, named_or_absent}
use Rattle.cells.proofs.Laws.{bad_good}
use Rattle.profile.specs.Written.{two, four}
use Rattle.profile.specs.Inner.Writable.{names, names_or_none}
use Rattle.profile.proofs.WrittenFields.{Rest, u8_back, u16_back, u32_back}

-- ---- taking a reading apart

-- the value read is known
pub read_on : {A B : Type 0} (o : Out A) (a : A) (f : A → Out B) (b : B) → o ≡ good a → (o >>= f) ≡ good b → f a ≡ good b
read_on o a f b e h = subst (λ (x : Out _). (x >>= f) ≡ good b) e h

-- a test was passed
pub must_on : {B : Type 0} (t : Bool) (n p : ℕ) (r : Out B) (b : B) → (must t n p >> r) ≡ good b → T t × (r ≡ good b)
must_on true n p r b h = (tt, h)
must_on false n p r b h = bad_good h

-- a check was passed
pub done_on : {B : Type 0} (o : Out (Unit {0})) (r : Out B) (b : B) → (o >> r) ≡ good b → (u : Unit {0}) × (o ≡ good u) × (r ≡ good b)
done_on (good u) r b h = (u, refl, h)
done_on (bad n p) r b h = bad_good h

-- a number that is read and must pass a test, and one that must pass two
pub tested_on : {B : Type 0} (o : Out ℕ) (v : ℕ) (ok : ℕ → Bool) (n p : ℕ) (f : ℕ → Out B) (b : B)
    → o ≡ good v → ((o >>= λ w. must (ok w) n p >> good w) >>= f) ≡ good b → T (ok v) × (f v ≡ good b)
tested_on o v ok n p f b e h = by (ok v) (subst (λ (x : Out ℕ). ((x >>= λ w. must (ok w) n p >> good w) >>= f) ≡ good b) e h)
  where
    by : (t : Bool) → ((must t n p >> good v) >>= f) ≡ good b → T t × (f v ≡ good b)
    by true h = (tt, h)
    by false h = bad_good h

tested_twice : {B : Type 0} (o : Out ℕ) (v : ℕ) (ok fine : ℕ → Bool) (n m p : ℕ) (f : ℕ → Out B) (b : B) → o ≡ good v
    → ((o >>= λ w. must (ok w) n p >> (must (fine w) m p >> good w)) >>= f) ≡ good b → T (ok v) × T (fine v) × (f v ≡ good b)
tested_twice o v ok fine n m p f b e h = by (ok v) (fine v) (subst (λ (x : Out ℕ). ((x >>= λ w. must (ok w) n p >> (must (fine w) m p >> good w)) >>= f) ≡ good b) e h)
  where
    by : (t u : Bool) → ((must t n p >> (must u m p >> good v)) >>= f) ≡ good b → T t × T u × (f v ≡ good b)
    by true true h = (tt, tt, h)
    by true false h = bad_good h
    by false u h = bad_good h

-- ---- numbers

module _ {B : Type 0} (s : List ℕ) (at : ℕ) (t : List ℕ) (f : ℕ → Out B) (b : B) where
  pub limited_on : (most v : ℕ) → Rest s at (v ∷ t) → (limited s at most >>= f) ≡ good b → (v ≤ most) × (f v ≡ good b)
  unfolding limited
  limited_on most v r h =
      let w = tested_on (u8 s at) v (λ n. leb n most) 4 at f b (u8_back s at t v r) h in
      (leb→le v most w.0, w.1)

  module _ (n : ℕ) (low : n < 65536) (r : Rest s at (two n ++ t)) where
    pub word_on : (u16 s at >>= f) ≡ good b → f n ≡ good b
    word_on h = read_on (u16 s at) n f b (u16_back s at t n low r) h

    pub counted_on : (most : ℕ) → (counted s at most >>= f) ≡ good b → (n ≤ most) × (f n ≡ good b)
    unfolding counted
    counted_on most h =
        let w = tested_on (u16 s at) n (λ m. leb m most) 4 at f b (u16_back s at t n low r) h in
        (leb→le n most w.0, w.1)

    pub exactly_on : (v : ℕ) → (exactly s v at >>= f) ≡ good b → T (eqb n v) × (f n ≡ good b)
    unfolding exactly
    exactly_on v h = tested_on (u16 s at) n (λ m. eqb m v) 4 at f b (u16_back s at t n low r) h

    -- ---- strings that are named

    module _ (strs : List (List ℕ)) (purpose : ℕ) where
      pub named_on : (named s strs purpose at >>= f) ≡ good b → T (names strs purpose n) × (f n ≡ good b)
      unfolding named
      named_on h =
          let w = tested_twice (u16 s at) n (λ i. ltb i (length strs)) (λ i. usable purpose (get_or strs i [])) 4 5 at f b (u16_back s at t n low r) h in
          (both (ltb n (length strs)) (usable purpose (get_or strs n [])) w.0 w.1, w.2)

      pub named_or_absent_on : (named_or_absent s strs purpose at >>= f) ≡ good b → T (names_or_none strs purpose n) × (f n ≡ good b)
      unfolding named_or_absent
      named_or_absent_on h =
          let w = tested_twice (u16 s at) n (λ i. eqb i absent || ltb i (length strs)) (λ i. eqb i absent || usable purpose (get_or strs i [])) 4 5 at f b
          (u16_back s at t n low r) h in
          (either (eqb n absent) (ltb n (length strs)) (usable purpose (get_or strs n [])) w.0 w.1, w.2)
        where
          either : (a c d : Bool) → T (a || c) → T (a || d) → T (a || (c && d))
          either true c d p q = tt
          either false c d p q = both c d p q

  pub long_on : (n : ℕ) → n < 4294967296 → Rest s at (four n ++ t) → (u32 s at >>= f) ≡ good b → f n ≡ good b
  long_on n low r h = read_on (u32 s at) n f b (u32_back s at n t low r) h

-- The two readings of an image agree, field by field: Judging's, which carries the place, and that by places.
use mathlib.Core.Bool.{Bool, true, false, not, ◌||◌}
use mathlib.Core.Option.{Option, none, some}
use mathlib.Core.Path.{◌≡◌, refl, sym, ap, ◌∙◌, subst}
use Prim.Native.Nat.{ℕ, zero, suc, ◌+◌}
use native.Mathlib.Omega.{arith}
use mathlib.Core.List.{List, [], ◌∷◌, map}
use lib.ListN.{length, get_or, get_elem?, length-map, get_or-map}
use lib.Dec.{T, leb, ltb, eqb, leb-zero, leb-suc-suc, leb-suc-zero}
use Rattle.octets.specs.Lists.{pick, empty}
use Rattle.basic.specs.Pattern.{Pattern}
use Rattle.basic.specs.Reading.{read_pattern}
use Rattle.basic.specs.Inner.Judged.{was_read, is_pattern}
use Rattle.profile.specs.Reader.{Got, got, fault, Reader, and_then, number, integer, field}
use Rattle.profile.specs.Image.{Stored}
use Rattle.profile.specs.Judging as judging
use Rattle.profile.specs.Judging.{as_uri, as_method, as_pattern, as_server, as_information, from_option, naming, naming_or_absent}
use Rattle.cells.specs.Inner.Out.{Out, good, bad, must, ◌>>=◌, ◌>>◌}
use Rattle.cells.specs.Inner.Places.{byte, word, long, whole, u8, u16, u32, limited, counted, exactly, usable, named, named_or_absent}
use Rattle.profile.specs.Inner.Decoded.{nothing, string_of, or_empty, or_absent}

-- ---- two readings that agree

-- both give something, so related; or both have the same fault
pub data Same {A B : Type 0} (R : A → ℕ → B → Type 0) : Got A → Out B → Type 0 where
  same_got : {a : A} {k : ℕ} {b : B} → R a k b → Same R (got a k) (good b)
  same_fault : {n p : ℕ} → Same R (fault n p) (bad n p)

-- a is read and the next place is k; by places b is read
pub data Is {A B : Type 0} (a : A) (k : ℕ) (b : B) : A → ℕ → B → Type 0 where
  is : Is a k b a k b

-- one after the other
pub then_is : {A B C D : Type 0} (R : C → ℕ → D → Type 0) {a : A} {k : ℕ} {b : B} {x : Got A} {o : Out B} (f : A → ℕ → Got C) (g : B → Out D) → Same (Is a k b) x o
    → Same R (f a k) (g b) → Same R (and_then x f) (o >>= g)
then_is R f g (same_got is) h = h
then_is R f g same_fault h = same_fault

-- a test, and the rest
pub then_must : {C D : Type 0} (R : C → ℕ → D → Type 0) (t : Bool) (n p k : ℕ) (f : Unit {0} → ℕ → Got C) (r : Out D) → (T t → Same R (f tt k) r)
    → Same R (and_then (pick t (got tt k) (fault n p)) f) (must t n p >> r)
then_must R true n p k f r h = h tt
then_must R false n p k f r h = same_fault

-- a test, as a check of its own
pub must_same : (t : Bool) (n p k : ℕ) → Same (Is (tt {0}) k (tt {0})) (pick t (got tt k) (fault n p)) (must t n p)
must_same true n p k = same_got is
must_same false n p k = same_fault

-- a check, and the rest
pub then_done : {C D : Type 0} (R : C → ℕ → D → Type 0) {k : ℕ} {x : Got (Unit {0})} {o : Out (Unit {0})} (f : Unit {0} → ℕ → Got C) (r : Out D)
    → Same (Is (tt {0}) k (tt {0})) x o → Same R (f tt k) r → Same R (and_then x f) (o >> r)
then_done R f r (same_got is) h = h
then_done R f r same_fault h = same_fault

-- a reading in parts
pub in_parts : {A B C D : Type 0} (R : C → ℕ → D → Type 0) (x : Got C) (o : Out A) (g : A → Out B) (h : B → Out D)
    → Same R x (o >>= (λ a. g a >>= h)) → Same R x ((o >>= g) >>= h)
in_parts R x (good a) g h r = r
in_parts R x (bad n p) g h r = r

-- what is made of a value that is read
pub then_give : {A B C : Type 0} {a : A} {k : ℕ} {b : B} {x : Got A} {o : Out B} (f : A → C)
    → Same (Is a k b) x o → Same (Is (f a) k b) (and_then x (λ v next. got (f v) next)) o
then_give f (same_got is) = same_got is
then_give f same_fault = same_fault

-- the same place, written another way
pub up_to : {A B : Type 0} {a : A} {k : ℕ} {b : B} {x : Got A} {o : Out B} (j : ℕ) → k ≡ j → Same (Is a k b) x o → Same (Is a j b) x o
up_to {a = a} {b = b} {x = x} {o = o} j e = subst (λ (i : ℕ). Same (Is a i b) x o) e

-- ---- numbers

-- four bytes are two numbers of two
four_bytes : (s : List ℕ) (at : ℕ) → number 4 s at 0 ≡ long s at
four_bytes s at =
    let e : at + 1 + 1 ≡ at + 2 = omega arith in
    let f : get_or s (at + 1 + 1) 0 ≡ get_or s (at + 2) 0 = ap (λ (k : ℕ). get_or s k 0) e in
    let g : get_or s (at + 1 + 1 + 1) 0 ≡ get_or s (at + 2 + 1) 0 = ap (λ (k : ℕ). get_or s (k + 1) 0) e in
    omega arith

-- a number that must pass a test, as Judging has it
abbrev pub tested : (ℕ → Bool) → ℕ → Got ℕ → Got ℕ
tested ok at x = and_then x (λ v next. and_then (pick (ok v) (got (tt {0}) next) (fault 4 at)) (λ u after. got v after))

-- it passes, or has number 4 at its place
pub field_same : {k w : ℕ} {x : Got ℕ} {o : Out ℕ} (ok : ℕ → Bool) (at : ℕ) → Same (Is w k w) x o
    → Same (Is w k w) (tested ok at x) (o >>= (λ v. must (ok v) 4 at >> good v))
field_same {k} {w} ok at h = then_is (Is w k w) _ _ h (then_must (Is w k w) (ok w) 4 at k _ _ (λ t. same_got is))

-- the same, and the rest may use that it passed
pub then_tested : {C D : Type 0} (R : C → ℕ → D → Type 0) {k w : ℕ} {x : Got ℕ} {o : Out ℕ} (ok : ℕ → Bool) (at : ℕ) (f : ℕ → ℕ → Got C) (g : ℕ → Out D)
    → Same (Is w k w) x o → (T (ok w) → Same R (f w k) (g w)) → Same R (and_then (tested ok at x) f) (o >>= (λ v. must (ok v) 4 at >> g v))
then_tested {C} {D} R {k} {w} ok at f g (same_got is) h = by (ok w) h
  where
    by : (t : Bool) → (T t → Same R (f w k) (g w))
        → Same R (and_then (and_then (pick t (got (tt {0}) k) (fault 4 at)) (λ u after. got w after)) f) (must t 4 at >> g w)
    by true h = h tt
    by false h = same_fault
then_tested R ok at f g same_fault h = same_fault

-- the same, where the number is a part of its own
pub then_passed : {C D : Type 0} (R : C → ℕ → D → Type 0) {k w : ℕ} {x : Got ℕ} {o : Out ℕ} (ok : ℕ → Bool) (at : ℕ) (f : ℕ → ℕ → Got C) (g : ℕ → Out D)
    → Same (Is w k w) x o → (T (ok w) → Same R (f w k) (g w)) → Same R (and_then (tested ok at x) f) ((o >>= (λ v. must (ok v) 4 at >> good v)) >>= g)
then_passed {C} {D} R {k} {w} {x} {o} ok at f g h next = subst (λ (r : Out D). Same R (and_then (tested ok at x) f) r) (sym (one_part o)) (then_tested R ok at f g h next)
  where
    by : (t : Bool) (v : ℕ) → ((must t 4 at >> good v) >>= g) ≡ (must t 4 at >> g v)
    by true v = refl
    by false v = refl

    one_part : (o : Out ℕ) → ((o >>= (λ v. must (ok v) 4 at >> good v)) >>= g) ≡ (o >>= (λ v. must (ok v) 4 at >> g v))
    one_part (good v) = by (ok v) v
    one_part (bad n p) = refl

module _ (s : List ℕ) (at : ℕ) where
  -- n bytes that are the number w
  whole_same : (n w : ℕ) → number n s at 0 ≡ w → Same (Is w (at + n) w) (integer n s at) (whole s at n >> good w)
  unfolding whole
  whole_same n w e = then_must (Is w (at + n) w) (leb (at + n) (length s)) 2 (length s) at _ _ (λ t. subst (λ (v : ℕ). Same (Is w (at + n) w) (got v (at + n)) (good w)) (sym e) (same_got is))

  pub u8_same : Same (Is (byte s at) (at + 1) (byte s at)) (integer 1 s at) (u8 s at)
  unfolding u8
  u8_same = whole_same 1 (byte s at) (omega arith)

  pub u16_same : Same (Is (word s at) (at + 2) (word s at)) (integer 2 s at) (u16 s at)
  unfolding u16
  u16_same = whole_same 2 (word s at) (omega arith)

  pub u32_same : Same (Is (long s at) (at + 4) (long s at)) (integer 4 s at) (u32 s at)
  unfolding u32
  u32_same = whole_same 4 (long s at) (four_bytes s at)

  pub limited_same : (most : ℕ) → Same (Is (byte s at) (at + 1) (byte s at)) (field 1 (λ v. leb v most) s at) (limited s at most)
  unfolding limited
  limited_same most = field_same (λ v. leb v most) at u8_same

  pub counted_same : (most : ℕ) → Same (Is (word s at) (at + 2) (word s at)) (field 2 (λ v. leb v most) s at) (counted s at most)
  unfolding counted
  counted_same most = field_same (λ v. leb v most) at u16_same

  pub exactly_same : (n : ℕ) → Same (Is (word s at) (at + 2) (word s at)) (field 2 (λ v. eqb v n) s at) (exactly s n at)
  unfolding exactly
  exactly_same n = field_same (λ v. eqb v n) at u16_same

-- ---- strings that are named

-- the element of a place that the list has
elem_is : {A : Type 0} (l : List A) (i : ℕ) (d : A) → get_elem? l i ≡ pick (ltb i (length l)) (some (get_or l i d)) none
elem_is [] i d = rw (leb-suc-zero i)
elem_is (a ∷ l) zero d = rw (leb-suc-suc zero (length l), leb-zero (length l))
elem_is (a ∷ l) (suc i) d = elem_is l i d ∙ rw (leb-suc-suc (suc i) (length l))

-- the strings' bytes
abbrev pub texts_of : List Stored → List (List ℕ)
texts_of = map (λ (x : Stored). x.bytes)

-- what a string is by its use: val of it, where it is usable for the purpose p
abbrev pub Used : {A : Type 0} → (Stored → Option A) → ℕ → (Stored → A) → Type 0
Used {A} as_used p val = (x : Stored) → ◌≡◌ {A = Option A} (as_used x) (pick (usable p x.bytes) (some (val x)) none)

module _ {A : Type 0} (strings : List Stored) (as_used : Stored → Option A) (p : ℕ) (val : Stored → A) (used : Used as_used p val) (s : List ℕ) (at : ℕ) where
  -- string i by its use
  used_same : (i k : ℕ) → Same (Is (val (string_of strings i)) k i) (judging.named strings as_used i at s k)
      (must (ltb i (length (texts_of strings))) 4 at >> (must (usable p (get_or (texts_of strings) i [])) 5 at >> good i))
  used_same i k =
      rw (elem_is strings i nothing, length-map strings (λ (x : Stored). x.bytes), get_or-map (λ (x : Stored). x.bytes) strings i nothing)
      (by (ltb i (length strings)) (string_of strings i) (usable p (string_of strings i).bytes) (used (string_of strings i)))
    where
      by : (b : Bool) (x : Stored) (c : Bool) → ◌≡◌ {A = Option A} (as_used x) (pick c (some (val x)) none)
          → Same (Is (val x) k i) (and_then (from_option (pick b (some x) none) 4 at s k) (λ y next. from_option (as_used y) 5 at s next))
          (must b 4 at >> (must c 5 at >> good i))
      by false x c e = same_fault
      by true x true e = rw e (same_got is)
      by true x false e = rw e same_fault

  pub naming_same : Same (Is (val (string_of strings (word s at))) (at + 2) (word s at)) (naming strings as_used s at) (named s (texts_of strings) p at)
  unfolding named
  naming_same = then_is _ _ _ (u16_same s at) (used_same (word s at) (at + 2))

  pub naming_or_absent_same : Same (Is (or_absent (λ i. val (string_of strings i)) (word s at)) (at + 2) (word s at))
      (naming_or_absent strings as_used s at) (named_or_absent s (texts_of strings) p at)
  unfolding named_or_absent
  naming_or_absent_same = then_is _ _ _ (u16_same s at) (by (eqb (word s at) 65535))
    where
      i : ℕ
      i = word s at

      by : (b : Bool) → Same (Is (pick b none (some (val (string_of strings i)))) (at + 2) i)
          (pick {A = Reader (Option A)} b (λ s at. got none at) (λ s k. and_then (judging.named strings as_used i at s k) (λ a next. got (some a) next)) s (at + 2))
          (must (b || ltb i (length (texts_of strings))) 4 at >> (must (b || usable p (get_or (texts_of strings) i [])) 5 at >> good i))
      by true = same_got is
      by false = then_give some (used_same i (at + 2))

-- the uses

other_way : {A : Type 0} (b : Bool) (a : A) → ◌≡◌ {A = Option A} (pick b none (some a)) (pick (not b) (some a) none)
other_way true a = refl
other_way false a = refl

pub used_uri : Used as_uri 0 (λ x. x.bytes)
unfolding usable
used_uri x = other_way (empty x.bytes) x.bytes

pub used_server : Used as_server 0 (λ x. x)
unfolding usable
used_server x = other_way (empty x.bytes) x

pub used_method : Used as_method 1 (λ x. x.bytes)
unfolding usable
used_method x = refl

pub used_information : Used as_information 5 (λ x. x)
unfolding usable
used_information x = refl

-- a string is usable as a pattern just if one is read of it
read_is : (o : Option Pattern) → o ≡ pick (was_read o) (some (or_empty o)) none
read_is none = refl
read_is (some q) = refl

-- the pattern of a string
abbrev pub pattern_in : Stored → Pattern
pattern_in x = or_empty (read_pattern x.bytes)

pub used_header : Used as_pattern 2 pattern_in
unfolding usable is_pattern
used_header x = read_is (read_pattern x.bytes)

pub used_description : Used as_pattern 4 pattern_in
unfolding usable is_pattern
used_description x = read_is (read_pattern x.bytes)

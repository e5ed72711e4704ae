-- Every reading of an image is looked at together with that of its first p bytes: where it ends by p, the two are the same. And what faults
-- it can meet: 2 only at the image's length, 6 only at a criterion whose priority stands earlier too, 3 only behind the criteria.
use mathlib.Core.Bool.{Bool, true, false, not, ◌&&◌}
use mathlib.Core.Option.{Option, none, some}
use mathlib.Core.Path.{◌≡◌, refl, sym, ap, subst, ◌∙◌}
use mathlib.Core.Logic.{◌⊎◌, inl, inr}
use Prim.Native.Nat.{ℕ, zero, suc, ◌+◌, ◌-◌, ◌*◌, ◌≤◌, ◌<◌}
use native.Mathlib.Nat.{le_refl}
use native.Mathlib.Omega.{arith}
use mathlib.Core.List.{List, [], ◌∷◌, ◌++◌}
use lib.ListN.{length, take, drop, get_or, get_elem?}
use lib.Seq.{take-take, length-take-le}
use lib.Dec.{T, leb, ltb, eqb, leb→le, nleb→lt, eqb→eq, eqb_refl}
use Rattle.octets.specs.Lists.{pick}
use Rattle.octets.proofs.Tests.{T_of, or_cases}
use Rattle.octets.proofs.Each.{Each, each_snoc}
use Rattle.profile.specs.Reader.{Got, got, fault, Reader, ◌>>=◌, and_then, give, unless, room, number, integer, field, plain, entries}
use Rattle.profile.specs.Image.{Stored, Test, header, description, Row, Member, Criterion, Profile}
use Rattle.profile.specs.Judging.{string, from_option, named, naming, naming_or_absent, as_uri, as_method, as_pattern, as_server, as_information, no_second, registration, uri_test, method_test, patterns_test, case_test, test_of, row, follows, last, member, memberships_of, all_rows_have, repeats, first_ok, count_ok, criterion, nothing_follows, profile}

-- the four bytes at a place are those of a criterion k criteria earlier
abbrev pub Earlier : List ℕ → ℕ → Type 0
Earlier s place = (k : ℕ) × (0 < k) × (15 * k ≤ place) × (number 4 s (place - 15 * k) 0 ≡ number 4 s place 0)

-- a fault before "bytes after the criteria": its number, by its place
pub data Kind (s : List ℕ) : ℕ → ℕ → Type 0 where
  too_early : Kind s 2 (length s)
  out_of_range : {place : ℕ} → Kind s 4 place
  wrong_string : {place : ℕ} → Kind s 5 place
  repeated : {place : ℕ} → Earlier s place → Kind s 6 place

pub kind_low : {s : List ℕ} {n place : ℕ} → Kind s n place → (1 < n) × (n ≤ 6)
kind_low too_early = (omega arith, omega arith)
kind_low out_of_range = (omega arith, omega arith)
kind_low wrong_string = (omega arith, omega arith)
kind_low (repeated e) = (omega arith, omega arith)

pub kind_not_3 : {s : List ℕ} {n place : ℕ} → Kind s n place → n ≡ 3 → ⊥
kind_not_3 too_early e = omega arith
kind_not_3 out_of_range e = omega arith
kind_not_3 wrong_string e = omega arith
kind_not_3 (repeated x) e = omega arith

pub kind_2 : {s : List ℕ} {n place : ℕ} → Kind s n place → n ≡ 2 → place ≡ length s
kind_2 too_early e = refl
kind_2 out_of_range e = absurd (omega arith)
kind_2 wrong_string e = absurd (omega arith)
kind_2 (repeated x) e = absurd (omega arith)

pub kind_6 : {s : List ℕ} {n place : ℕ} → Kind s n place → n ≡ 6 → Earlier s place
kind_6 too_early e = absurd (omega arith)
kind_6 out_of_range e = absurd (omega arith)
kind_6 wrong_string e = absurd (omega arith)
kind_6 (repeated x) e = x

-- ---- the first p bytes

front_byte : (p i : ℕ) (s : List ℕ) → i < p → get_or (take p s) i 0 ≡ get_or s i 0
front_byte zero i s h = absurd (omega arith)
front_byte (suc p) i [] h = refl
front_byte (suc p) zero (b ∷ s) h = refl
front_byte (suc p) (suc i) (b ∷ s) h = front_byte p i s (omega arith)

front_number : (p n i acc : ℕ) (s : List ℕ) → i + n ≤ p → number n (take p s) i acc ≡ number n s i acc
front_number p zero i acc s h = refl
front_number p (suc n) i acc s h =
    ap (λ (b : ℕ). number n (take p s) (i + 1) (acc * 256 + b)) (front_byte p i s (omega arith)) ∙ front_number p n (i + 1) (acc * 256 + get_or s i 0) s (omega arith)

front_part : (p n i : ℕ) (s : List ℕ) → i + n ≤ p → take n (drop i (take p s)) ≡ take n (drop i s)
front_part p n zero s h = take-take n p s (omega arith)
front_part zero zero (suc i) s h = refl
front_part zero (suc n) (suc i) s h = absurd (omega arith)
front_part (suc p) n (suc i) [] h = refl
front_part (suc p) n (suc i) (b ∷ s) h = front_part p n i s (omega arith)

-- ---- what a reading does

abbrev pub IsGot : Got Profile → Type 0
IsGot (got a k) = Unit {0}
IsGot (fault n place) = ⊥

fault_number : {n m place place' : ℕ} → ◌≡◌ {A = Got Profile} (fault n place) (fault m place') → n ≡ m
fault_number e = cc

fault_place : {n m place place' : ℕ} → ◌≡◌ {A = Got Profile} (fault n place) (fault m place') → place ≡ place'
fault_place e = cc

-- a reading of the image, and that of its first p bytes: the same where it ends by p; else the second meets a fault
data Both (p : ℕ) {A : Type 0} : Got A → Got A → Type 0 where
  same : {a : A} {k : ℕ} → k ≤ p → Both p (got a k) (got a k)
  past : {a : A} {k n place : ℕ} → p < k → Both p (got a k) (fault n place)
  lost : {n place m place' : ℕ} → Both p (fault n place) (fault m place')

module _ (s : List ℕ) (p : ℕ) (inside : p ≤ length s) where
  -- it goes on, stays within the image and gives what P says; or meets a fault
  abbrev Ends : {A : Type 0} → (A → ℕ → Type 0) → ℕ → Got A → Type 0
  Ends P at (got a k) = (at ≤ k) × (k ≤ length s) × P a k
  Ends P at (fault n place) = (place ≤ length s) × Kind s n place

  -- of the image and of its first p bytes, from one place on
  record Good {A : Type 0} (at : ℕ) (P : A → ℕ → Type 0) (x y : Got A) : Type 0 where
    ends : Ends P at x
    both : at ≤ p → Both p x y

  abbrev Any : {A : Type 0} → A → ℕ → Type 0
  Any a k = Unit {0}

  -- one after the other
  module _ {A B : Type 0} (P : A → ℕ → Type 0) (Q : B → ℕ → Type 0) (f g : A → ℕ → Got B) (at : ℕ)
      (next : (a : A) (k : ℕ) → at ≤ k → k ≤ length s → P a k → Good k Q (f a k) (g a k)) where
    on : (k : ℕ) → at ≤ k → (x : Got B) → Ends Q k x → Ends Q at x
    on k h (got b j) e = (omega (arith, h, e.0), e.1, e.2)
    on k h (fault n place) e = e

    then_ends : (x : Got A) → Ends P at x → Ends Q at (and_then x f)
    then_ends (got a k) e = on k e.0 (f a k) (next a k e.0 e.1 e.2).ends
    then_ends (fault n place) e = e

    behind : (k : ℕ) → p < k → (x : Got B) → Ends Q k x → (n place : ℕ) → Both p x (fault n place)
    behind k h (got b j) e n place = let far : p < j = omega (arith, h, e.0) in past far
    behind k h (fault m q) e n place = lost

    then_both : (x y : Got A) → Ends P at x → Both p x y → Both p (and_then x f) (and_then y g)
    then_both (got a k) y e (same h) = (next a k e.0 e.1 e.2).both h
    then_both (got a k) y e (past {n = n} {place = place} h) = behind k h (f a k) (next a k e.0 e.1 e.2).ends n place
    then_both (fault n place) y e lost = lost

  then_good : {A B : Type 0} (P : A → ℕ → Type 0) (Q : B → ℕ → Type 0) (at : ℕ) (x y : Got A) (f g : A → ℕ → Got B) → Good at P x y
      → ((a : A) (k : ℕ) → at ≤ k → k ≤ length s → P a k → Good k Q (f a k) (g a k)) → Good at Q (and_then x f) (and_then y g)
  then_good P Q at x y f g h next = record { ends = then_ends P Q f g at next x h.ends; both = λ l. then_both P Q f g at next x y h.ends (h.both l) }

  -- ---- fields

  -- n bytes that are there, read by v
  module _ {A : Type 0} (n : ℕ) (v : List ℕ → ℕ → A) (alike : (k : ℕ) → k + n ≤ p → v (take p s) k ≡ v s k) (at : ℕ) where
    abbrev Value : A → ℕ → Type 0
    Value a k = (a ≡ v s at) × (k ≡ at + n)

    bytes_good : Good at Value (and_then (room n s at) (λ u k. got (v s k) (k + n))) (and_then (room n (take p s) at) (λ u k. got (v (take p s) k) (k + n)))
    bytes_good = record { ends = ends_by (leb (at + n) (length s)) refl; both = λ h. both_by (leb (at + n) (length s)) refl (leb (at + n) (length (take p s))) refl }
      where
        ends_by : (b : Bool) → leb (at + n) (length s) ≡ b → Ends Value at (and_then (pick b (got (tt {0}) at) (fault 2 (length s))) (λ u k. got (v s k) (k + n)))
        ends_by true e = (omega arith, leb→le (at + n) (length s) (T_of e), (refl, refl))
        ends_by false e = (le_refl (length s), too_early)

        both_by : (b : Bool) → leb (at + n) (length s) ≡ b → (c : Bool) → leb (at + n) (length (take p s)) ≡ c
            → Both p (and_then (pick b (got (tt {0}) at) (fault 2 (length s))) (λ u k. got (v s k) (k + n)))
            (and_then (pick c (got (tt {0}) at) (fault 2 (length (take p s)))) (λ u k. got (v (take p s) k) (k + n)))
        both_by true e true f =
            let short : at + n ≤ p = omega (arith, leb→le (at + n) (length (take p s)) (T_of f), length-take-le p s inside) in
            subst (λ (a : A). Both p (got (v s at) (at + n)) (got a (at + n))) (sym (alike at short)) (same short)
        both_by true e false f =
            let far : p < at + n = omega (arith, nleb→lt (at + n) (length (take p s)) (subst (λ (c : Bool). T (not c)) (sym f) tt), length-take-le p s inside) in
            past far
        both_by false e true f =
            absurd (omega (arith, leb→le (at + n) (length (take p s)) (T_of f), length-take-le p s inside, nleb→lt (at + n) (length s) (subst (λ (c : Bool). T (not c)) (sym e) tt), inside))
        both_by false e false f = lost

  abbrev pub t : List ℕ
  t = take p s

  integer_good : (n at : ℕ) → Good at (λ v k. (v ≡ number n s at 0) × (k ≡ at + n)) (integer n s at) (integer n t at)
  integer_good n at = bytes_good n (λ l k. number n l k 0) (λ k h. front_number p n k 0 s h) at

  plain_good : (n at : ℕ) → Good at (λ v k. (v ≡ take n (drop at s)) × (k ≡ at + n)) (plain n s at) (plain n t at)
  plain_good n at = bytes_good n (λ l k. take n (drop k l)) (λ k h. front_part p n k s h) at

  give_good : {A : Type 0} (at : ℕ) → at ≤ length s → (a : A) (P : A → ℕ → Type 0) → P a at → Good at P (got a at) (got a at)
  give_good at h a P e = record { ends = (le_refl at, h, e); both = λ l. same l }

  unless_good : (at : ℕ) → at ≤ length s → (ok : Bool) (n place : ℕ) → place ≤ length s → (ok ≡ false → Kind s n place)
      → Good at (λ u k. k ≡ at) (unless ok n place s at) (unless ok n place t at)
  unless_good at h ok n place l z = record { ends = ends_by ok refl; both = λ w. both_by ok w }
    where
      ends_by : (b : Bool) → ok ≡ b → Ends (λ u k. k ≡ at) at (pick b (got (tt {0}) at) (fault n place))
      ends_by true e = (le_refl at, h, refl)
      ends_by false e = (l, z e)

      both_by : (b : Bool) → at ≤ p → Both p (pick b (got (tt {0}) at) (fault n place)) (pick b (got (tt {0}) at) (fault n place))
      both_by true w = same w
      both_by false w = lost

  option_good : {A : Type 0} (at : ℕ) → at ≤ length s → (o : Option A) (n place : ℕ) → place ≤ length s → Kind s n place
      → Good at (λ a k. k ≡ at) (from_option o n place s at) (from_option o n place t at)
  option_good at h none n place l z = record { ends = (l, z); both = λ w. lost }
  option_good at h (some a) n place l z = give_good at h a (λ x k. k ≡ at) refl

  -- of n bytes
  abbrev Of : {A : Type 0} → ℕ → ℕ → A → ℕ → Type 0
  Of at n a k = k ≡ at + n

  field_good : (at : ℕ) → at ≤ length s → (n : ℕ) (ok : ℕ → Bool) → Good at (Of at n) (field n ok s at) (field n ok t at)
  field_good at h n ok =
      then_good _ _ at (integer n s at) (integer n t at) _ _ (integer_good n at) (λ v k l m e.
      then_good _ _ k (unless (ok v) 4 at s k) (unless (ok v) 4 at t k) _ _ (unless_good k m (ok v) 4 at h (λ x. out_of_range)) (λ u j l1 m1 e1.
      give_good j m1 v (Of at n) (omega (arith, e1, e.1))))

  named_good : {A : Type 0} (at k : ℕ) → at ≤ length s → k ≤ length s → (strings : List Stored) (as_used : Stored → Option A) (i : ℕ)
      → Good k (λ a j. j ≡ k) (named strings as_used i at s k) (named strings as_used i at t k)
  named_good at k h l strings as_used i =
      then_good _ _ k (from_option (get_elem? strings i) 4 at s k) (from_option (get_elem? strings i) 4 at t k) _ _ (option_good k l (get_elem? strings i) 4 at h out_of_range) (λ x j l1 m1 e1.
      subst (λ (w : ℕ). Good j (λ a v. v ≡ w) (from_option (as_used x) 5 at s j) (from_option (as_used x) 5 at t j)) e1 (option_good j m1 (as_used x) 5 at h wrong_string))

  naming_good : {A : Type 0} (at : ℕ) → at ≤ length s → (strings : List Stored) (as_used : Stored → Option A)
      → Good at (Of at 2) (naming strings as_used s at) (naming strings as_used t at)
  naming_good {A} at h strings as_used =
      then_good _ _ at (integer 2 s at) (integer 2 t at) _ _ (integer_good 2 at) (λ i k l m e.
      subst (λ (w : ℕ). Good {A = A} k (λ a v. v ≡ w) (named strings as_used i at s k) (named strings as_used i at t k)) e.1 (named_good at k h m strings as_used i))

  absent_good : {A : Type 0} (at : ℕ) → at ≤ length s → (strings : List Stored) (as_used : Stored → Option A)
      → Good at (Of at 2) (naming_or_absent strings as_used s at) (naming_or_absent strings as_used t at)
  absent_good {A} at h strings as_used = then_good _ _ at (integer 2 s at) (integer 2 t at) _ _ (integer_good 2 at) (λ i k l m e. go i k m e.1 (eqb i 65535))
    where
      go : (i k : ℕ) → k ≤ length s → k ≡ at + 2 → (b : Bool)
          → Good k (Of at 2) (pick {A = Reader (Option A)} b (give none) (named strings as_used i at >>= (λ a. give (some a))) s k)
          (pick {A = Reader (Option A)} b (give none) (named strings as_used i at >>= (λ a. give (some a))) t k)
      go i k m e true = give_good k m none (Of at 2) e
      go i k m e false =
          then_good _ _ k (named strings as_used i at s k) (named strings as_used i at t k) (λ a j. got (some a) j) (λ a j. got (some a) j) (named_good at k h m strings as_used i) (λ a j l1 m1 e1.
          give_good j m1 (some a) (Of at 2) (e1 ∙ e))

  string_good : (at : ℕ) → at ≤ length s → (before : List Stored) → Good at Any (string before s at) (string before t at)
  string_good at h before =
      then_good _ _ at (field 2 (λ n. leb n 1024) s at) (field 2 (λ n. leb n 1024) t at) _ _ (field_good at h 2 (λ n. leb n 1024)) (λ n k l m e.
      then_good _ _ k (plain n s k) (plain n t k) _ _ (plain_good n k) (λ b j l1 m1 e1. give_good j m1 _ Any tt))

  -- ---- rows

  registered : (x : Test) (at : ℕ) → at ≤ length s → Good at Any (and_then (registration s at) (λ set k. got x k)) (and_then (registration t at) (λ set k. got x k))
  registered x at h = then_good _ _ at (registration s at) (registration t at) _ _ (field_good at h 1 (λ v. leb v 6)) (λ set k l m e. give_good k m x Any tt)

  test_good : (strings : List Stored) (kind at : ℕ) → at ≤ length s → Good at Any (test_of strings kind s at) (test_of strings kind t at)
  test_good strings kind at h = by_kind (eqb kind 0) (eqb kind 1) (eqb kind 2) (eqb kind 3)
    where
      uri : Good at Any (uri_test strings s at) (uri_test strings t at)
      uri =
          then_good _ _ at (naming strings as_uri s at) (naming strings as_uri t at) _ _ (naming_good at h strings as_uri) (λ u k l m e.
          then_good _ _ k (no_second s k) (no_second t k) _ _ (field_good k m 2 (λ v. eqb v 65535)) (λ v j l1 m1 e1. registered _ j m1))

      meth : Good at Any (method_test strings s at) (method_test strings t at)
      meth =
          then_good _ _ at (naming strings as_method s at) (naming strings as_method t at) _ _ (naming_good at h strings as_method) (λ u k l m e.
          then_good _ _ k (no_second s k) (no_second t k) _ _ (field_good k m 2 (λ v. eqb v 65535)) (λ v j l1 m1 e1.
          then_good _ _ j (registration s j) (registration t j) _ _ (field_good j m1 1 (λ v. leb v 6)) (λ set w l2 m2 e2. give_good w m2 _ Any tt)))

      patterns : (as_test : _ → _ → Test) → Good at Any (patterns_test strings as_test s at) (patterns_test strings as_test t at)
      patterns as_test =
          then_good _ _ at (naming strings as_pattern s at) (naming strings as_pattern t at) _ _ (naming_good at h strings as_pattern) (λ u k l m e.
          then_good _ _ k (naming_or_absent strings as_pattern s k) (naming_or_absent strings as_pattern t k) _ _ (absent_good k m strings as_pattern) (λ c j l1 m1 e1. registered _ j m1))

      cases : Good at Any (case_test s at) (case_test t at)
      cases =
          then_good _ _ at (field 2 (λ v. leb v 3) s at) (field 2 (λ v. leb v 3) t at) _ _ (field_good at h 2 (λ v. leb v 3)) (λ c k l m e.
          then_good _ _ k (no_second s k) (no_second t k) _ _ (field_good k m 2 (λ v. eqb v 65535)) (λ v j l1 m1 e1. registered _ j m1))

      by_kind : (b0 b1 b2 b3 : Bool)
          → Good at Any (pick {A = Reader Test} b0 (uri_test strings) (pick {A = Reader Test} b1 (method_test strings) (pick {A = Reader Test} b2 (patterns_test strings header) (pick {A = Reader Test} b3 case_test (patterns_test strings description)))) s at)
          (pick {A = Reader Test} b0 (uri_test strings) (pick {A = Reader Test} b1 (method_test strings) (pick {A = Reader Test} b2 (patterns_test strings header) (pick {A = Reader Test} b3 case_test (patterns_test strings description)))) t at)
      by_kind true b1 b2 b3 = uri
      by_kind false true b2 b3 = meth
      by_kind false false true b3 = patterns header
      by_kind false false false true = cases
      by_kind false false false false = patterns description

  -- a row's place is within the image too
  abbrev Stands : Row → Type 0
  Stands r = r.place ≤ length s

  row_good : (strings : List Stored) (before : List Row) (at : ℕ) → at ≤ length s → Good at (λ r k. Stands r) (row strings before s at) (row strings before t at)
  row_good strings before at h =
      then_good _ _ at (field 1 (λ v. leb v 1) s at) (field 1 (λ v. leb v 1) t at) _ _ (field_good at h 1 (λ v. leb v 1)) (λ n k l m e.
      then_good _ _ k (field 1 (λ v. leb v 4) s k) (field 1 (λ v. leb v 4) t k) _ _ (field_good k m 1 (λ v. leb v 4)) (λ kind j l1 m1 e1.
      then_good _ _ j (test_of strings kind s j) (test_of strings kind t j) _ _ (test_good strings kind j m1) (λ x w l2 m2 e2. give_good w m2 _ (λ r k. Stands r) h)))

  -- ---- memberships

  member_good : (n_rows : ℕ) (before : List Member) (at : ℕ) → at ≤ length s → Good at Any (member n_rows before s at) (member n_rows before t at)
  member_good n_rows before at h =
      then_good _ _ at (field 2 (λ v. ltb v n_rows) s at) (field 2 (λ v. ltb v n_rows) t at) _ _ (field_good at h 2 (λ v. ltb v n_rows)) (λ r k l m e.
      then_good _ _ k (integer 2 s k) (integer 2 t k) _ _ (integer_good 2 k) (λ g j l1 m1 e1.
      then_good _ _ j (unless (follows (last before) (record { row = r; group = g })) 4 at s j) (unless (follows (last before) (record { row = r; group = g })) 4 at t j) _ _
      (unless_good j m1 (follows (last before) (record { row = r; group = g })) 4 at h (λ x. out_of_range)) (λ u w l2 m2 e2. give_good w m2 _ Any tt)))

  -- ---- criteria

  -- the priority of each of those read, which end at a place
  abbrev Before : ℕ → Criterion → Type 0
  Before at c = (k : ℕ) × (0 < k) × (15 * k ≤ at) × (number 4 s (at - 15 * k) 0 ≡ c.priority)

  stands_earlier : (at q : ℕ) (before : List Criterion) → Each (Before at) before → T (repeats before q) → q ≡ number 4 s at 0 → Earlier s at
  stands_earlier at q [] e r h = absurd r
  stands_earlier at q (c ∷ before) e r h =
      or_cases (eqb c.priority q) (repeats before q) r
      (λ is. let (k, some_k, low, same_k) = e.0 in (k, some_k, low, same_k ∙ eqb→eq c.priority q is ∙ h))
      (λ later. stands_earlier at q before e.1 later h)

  criterion_good : (strings : List Stored) (n_rows : ℕ) (before : List Criterion) (at : ℕ) → at ≤ length s → Each (Before at) before
      → Good at (λ c k. (c.priority ≡ number 4 s at 0) × (k ≡ at + 15)) (criterion strings n_rows before s at) (criterion strings n_rows before t at)
  criterion_good strings n_rows before at h earlier =
      then_good _ _ at (integer 4 s at) (integer 4 t at) _ _ (integer_good 4 at) (λ q a1 l1 m1 e1.
      then_good _ _ a1 (unless (not (repeats before q)) 6 at s a1) (unless (not (repeats before q)) 6 at t a1) _ _
      (unless_good a1 m1 (not (repeats before q)) 6 at h (λ x. repeated (stands_earlier at q before earlier (again (repeats before q) x) e1.0))) (λ u a2 l2 m2 e2.
      then_good _ _ a2 (field 1 (λ v. leb v 2) s a2) (field 1 (λ v. leb v 2) t a2) _ _ (field_good a2 m2 1 (λ v. leb v 2)) (λ part a3 l3 m3 e3.
      then_good _ _ a3 (field 1 (λ v. leb v 2) s a3) (field 1 (λ v. leb v 2) t a3) _ _ (field_good a3 m3 1 (λ v. leb v 2)) (λ form a4 l4 m4 e4.
      then_good _ _ a4 (field 2 (first_ok form) s a4) (field 2 (first_ok form) t a4) _ _ (field_good a4 m4 2 (first_ok form)) (λ first a5 l5 m5 e5.
      then_good _ _ a5 (field 2 (count_ok n_rows form first) s a5) (field 2 (count_ok n_rows form first) t a5) _ _ (field_good a5 m5 2 (count_ok n_rows form first)) (λ count a6 l6 m6 e6.
      then_good _ _ a6 (naming strings as_server s a6) (naming strings as_server t a6) _ _ (naming_good a6 m6 strings as_server) (λ server a7 l7 m7 e7.
      then_good _ _ a7 (field 1 (λ v. leb v 2) s a7) (field 1 (λ v. leb v 2) t a7) _ _ (field_good a7 m7 1 (λ v. leb v 2)) (λ d a8 l8 m8 e8.
      then_good _ _ a8 (naming_or_absent strings as_information s a8) (naming_or_absent strings as_information t a8) _ _ (absent_good a8 m8 strings as_information) (λ info a9 l9 m9 e9.
      give_good a9 m9 _ (λ c k. (c.priority ≡ number 4 s at 0) × (k ≡ at + 15)) (e1.0, omega (arith, e1.1, e2, e3, e4, e5, e6, e7, e8, e9)))))))))))
    where
      again : (b : Bool) → not b ≡ false → T b
      again true e = tt
      again false e = let z : ◌≡◌ {A = Bool} true false = e in absurd (subst T z tt)

  -- ---- sections

  -- what holds of the entries read so far, which end at a place
  module _ {A : Type 0} (I : List A → ℕ → Type 0) (one : List A → Reader A)
      (step : (l : List A) (k : ℕ) → k ≤ length s → I l k → Good k (λ a j. I (l ++ (a ∷ [])) j) (one l s k) (one l t k)) where
    entries_good : (n : ℕ) (l : List A) (at : ℕ) → at ≤ length s → I l at → Good at I (entries one n l s at) (entries one n l t at)
    unfolding entries
    entries_good zero l at h i = give_good at h l I i
    entries_good (suc n) l at h i =
        then_good _ I at (one l s at) (one l t at) (λ a k. entries one n (l ++ (a ∷ [])) s k) (λ a k. entries one n (l ++ (a ∷ [])) t k) (step l at h i) (λ a k l1 m e.
        entries_good n (l ++ (a ∷ [])) k m e)

  -- what follows from what is given
  good_so : {A : Type 0} (P Q : A → ℕ → Type 0) (at : ℕ) (x y : Got A) → ((a : A) (k : ℕ) → P a k → Q a k) → Good at P x y → Good at Q x y
  good_so P Q at x y so g = record { ends = ends_so x g.ends; both = g.both }
    where
      ends_so : (z : Got _) → Ends P at z → Ends Q at z
      ends_so (got a k) e = (e.0, e.1, so a k e.2)
      ends_so (fault n place) e = e

  -- each by itself
  each_good : {A : Type 0} (P : A → Type 0) (one : List A → Reader A) → ((l : List A) (k : ℕ) → k ≤ length s → Good k (λ a j. P a) (one l s k) (one l t k))
      → (n at : ℕ) → at ≤ length s → Good at (λ l k. Each P l) (entries one n [] s at) (entries one n [] t at)
  each_good P one step n at h =
      entries_good (λ l k. Each P l) one
      (λ l k m e. good_so (λ a j. P a) (λ a j. Each P (l ++ (a ∷ []))) k (one l s k) (one l t k) (λ a j q. each_snoc P l a e q) (step l k m)) n [] at h tt

  rows_have_good : (l : List Member) (r : ℕ) (rows : List Row) → Each Stands rows → (at : ℕ) → at ≤ length s → Good at Any (all_rows_have l r rows s at) (all_rows_have l r rows t at)
  unfolding all_rows_have
  rows_have_good l r [] e at h = give_good at h tt Any tt
  rows_have_good l r (x ∷ rows) e at h =
      let n : ℕ = memberships_of r l in
      then_good _ Any at (unless (leb 1 n && leb n 8) 4 x.place s at) (unless (leb 1 n && leb n 8) 4 x.place t at) _ _
      (unless_good at h (leb 1 n && leb n 8) 4 x.place e.0 (λ y. out_of_range)) (λ u k l1 m d. rows_have_good l (suc r) rows e.1 k m)

  later : (at : ℕ) (l : List Criterion) → Each (Before at) l → Each (Before (at + 15)) l
  later at [] e = tt
  later at (c ∷ l) e =
      let (k, some_k, low, same_k) = e.0 in
      let there : at + 15 - 15 * suc k ≡ at - 15 * k = omega (arith, low) in
      ((suc k, omega arith, omega (arith, low), ap (λ (i : ℕ). number 4 s i 0) there ∙ same_k), later at l e.1)

  one_more : (l : List Criterion) (k : ℕ) → Each (Before k) l → (c : Criterion) (j : ℕ) → (c.priority ≡ number 4 s k 0) × (j ≡ k + 15) → Each (Before j) (l ++ (c ∷ []))
  one_more l k e c j (q, w) =
      let there : k + 15 - 15 * 1 ≡ k = omega arith in
      subst (λ (i : ℕ). Each (Before i) (l ++ (c ∷ []))) (sym w)
      (each_snoc (Before (k + 15)) l c (later k l e) (1, omega arith, omega arith, ap (λ (i : ℕ). number 4 s i 0) there ∙ sym q))

  criteria_good : (strings : List Stored) (n_rows n at : ℕ) → at ≤ length s
      → Good at (λ l k. Each (Before k) l) (entries (criterion strings n_rows) n [] s at) (entries (criterion strings n_rows) n [] t at)
  criteria_good strings n_rows n at h =
      entries_good (λ l k. Each (Before k) l) (criterion strings n_rows)
      (λ l k m e. good_so (λ c j. (c.priority ≡ number 4 s k 0) × (j ≡ k + 15)) (λ c j. Each (Before j) (l ++ (c ∷ []))) k
      (criterion strings n_rows l s k) (criterion strings n_rows l t k) (one_more l k e) (criterion_good strings n_rows l k m e)) n [] at h tt

  -- ---- the whole

  -- what a reading of the whole image ends with: a fault as above, or number 3 no earlier than where it began
  abbrev pub Last : ℕ → Got Profile → Type 0
  Last at (got a k) = Unit {0}
  Last at (fault n place) = (place ≤ length s) × (Kind s n place ⊎ ((n ≡ 3) × (at ≤ place) × (place < length s)))

  -- the image is refused with 3 at p exactly if its first p bytes are not refused
  abbrev pub Three : Got Profile → Got Profile → Type 0
  Three x y = (x ≡ fault 3 p → IsGot y) × (IsGot y → x ≡ fault 3 p)

  pub record Whole (at : ℕ) (x y : Got Profile) : Type 0 where
    pub last : Last at x
    pub three : p < length s → at ≤ p → Three x y

  module _ {A : Type 0} (P : A → ℕ → Type 0) (f g : A → ℕ → Got Profile) (at : ℕ)
      (next : (a : A) (k : ℕ) → at ≤ k → k ≤ length s → P a k → Whole k (f a k) (g a k)) where
    last_on : (k : ℕ) → at ≤ k → (x : Got Profile) → Last k x → Last at x
    last_on k h (got a j) e = tt
    last_on k h (fault n place) (l, inl z) = (l, inl z)
    last_on k h (fault n place) (l, inr z) = (l, inr (z.0, omega (arith, h, z.1), z.2))

    then_last : (x : Got A) → Ends P at x → Last at (and_then x f)
    then_last (got a k) e = last_on k e.0 (f a k) (next a k e.0 e.1 e.2).last
    then_last (fault n place) e = (e.0, inl e.1)

    too_late : (k : ℕ) → p < k → (x : Got Profile) → Last k x → x ≡ fault 3 p → ⊥
    too_late k h (got a j) e q = let z : ◌≡◌ {A = ℕ} 0 1 = cc in omega arith
    too_late k h (fault n place) (l, inl z) q = kind_not_3 z (fault_number q)
    too_late k h (fault n place) (l, inr z) q = omega (arith, h, z.1, fault_place q)

    then_three : p < length s → (x y : Got A) → Ends P at x → Both p x y → Three (and_then x f) (and_then y g)
    then_three more (got a k) y e (same h) = (next a k e.0 e.1 e.2).three more h
    then_three more (got a k) y e (past h) = (λ q. absurd (too_late k h (f a k) (next a k e.0 e.1 e.2).last q), λ z. absurd z)
    then_three more (fault n place) y e lost = (λ q. absurd (kind_not_3 e.1 (fault_number q)), λ z. absurd z)

  then_whole : {A : Type 0} (P : A → ℕ → Type 0) (at : ℕ) (x y : Got A) (f g : A → ℕ → Got Profile) → Good at P x y
      → ((a : A) (k : ℕ) → at ≤ k → k ≤ length s → P a k → Whole k (f a k) (g a k)) → Whole at (and_then x f) (and_then y g)
  then_whole P at x y f g h next = record { last = then_last P f g at next x h.ends; three = λ more l. then_three P f g at next more x y h.ends (h.both l) }

  follows_whole : (a : Profile) (at : ℕ) → at ≤ length s → Whole at (and_then (nothing_follows s at) (λ u k. got a k)) (and_then (nothing_follows t at) (λ u k. got a k))
  follows_whole a at h = record { last = last_by (eqb at (length s)) refl; three = λ more l. three_by more l (eqb at (length s)) refl (eqb at (length t)) refl }
    where
      last_by : (b : Bool) → eqb at (length s) ≡ b → Last at (and_then (pick b (got (tt {0}) at) (fault 3 at)) (λ u k. got a k))
      last_by true e = tt
      last_by false e = (h, inr (refl, le_refl at, more_left))
        where
          more_left : at < length s
          more_left =
              let not_end : at ≡ length s → ⊥ = λ z. subst T e (subst (λ (i : ℕ). T (eqb at i)) z (eqb_refl at)) in
              omega (arith, h, not_end)

      three_by : p < length s → at ≤ p → (b : Bool) → eqb at (length s) ≡ b → (c : Bool) → eqb at (length t) ≡ c
          → Three (and_then (pick b (got (tt {0}) at) (fault 3 at)) (λ u k. got a k)) (and_then (pick c (got (tt {0}) at) (fault 3 at)) (λ u k. got a k))
      three_by more l true e c f = absurd (omega (arith, more, l, eqb→eq at (length s) (T_of e)))
      three_by more l false e true f =
          let there : at ≡ p = eqb→eq at (length t) (T_of f) ∙ length-take-le p s inside in
          (λ q. tt, λ q. ap (λ (i : ℕ). fault 3 i) there)
      three_by more l false e false f =
          (λ q. absurd (not_there (fault_place q)), λ q. absurd q)
        where
          not_there : at ≡ p → ⊥
          not_there z = subst T f (subst (λ (i : ℕ). T (eqb at i)) (z ∙ sym (length-take-le p s inside)) (eqb_refl at))

  pub profile_whole : Whole 0 (profile s 0) (profile t 0)
  unfolding profile
  profile_whole =
      then_whole _ 0 (field 1 (λ v. eqb v 1) s 0) (field 1 (λ v. eqb v 1) t 0) _ _ (field_good 0 (omega arith) 1 (λ v. eqb v 1)) (λ edition a1 l1 m1 e1.
      then_whole _ a1 (field 2 (λ n. leb n 1024) s a1) (field 2 (λ n. leb n 1024) t a1) _ _ (field_good a1 m1 2 (λ n. leb n 1024)) (λ n_strings a2 l2 m2 e2.
      then_whole _ a2 (entries string n_strings [] s a2) (entries string n_strings [] t a2) _ _ (each_good (λ x. Unit {0}) string (λ l k m. string_good k m l) n_strings a2 m2) (λ strings a3 l3 m3 e3.
      then_whole _ a3 (field 2 (λ n. leb n 2048) s a3) (field 2 (λ n. leb n 2048) t a3) _ _ (field_good a3 m3 2 (λ n. leb n 2048)) (λ n_rows a4 l4 m4 e4.
      then_whole _ a4 (entries (row strings) n_rows [] s a4) (entries (row strings) n_rows [] t a4) _ _ (each_good Stands (row strings) (row_good strings) n_rows a4 m4) (λ rows a5 l5 m5 e5.
      then_whole _ a5 (field 2 (λ n. leb n 16384) s a5) (field 2 (λ n. leb n 16384) t a5) _ _ (field_good a5 m5 2 (λ n. leb n 16384)) (λ n_members a6 l6 m6 e6.
      then_whole _ a6 (entries (member n_rows) n_members [] s a6) (entries (member n_rows) n_members [] t a6) _ _ (each_good (λ x. Unit {0}) (member n_rows) (member_good n_rows) n_members a6 m6) (λ members a7 l7 m7 e7.
      then_whole _ a7 (all_rows_have members 0 rows s a7) (all_rows_have members 0 rows t a7) _ _ (rows_have_good members 0 rows e5 a7 m7) (λ u a8 l8 m8 e8.
      then_whole _ a8 (field 2 (λ n. leb n 64) s a8) (field 2 (λ n. leb n 64) t a8) _ _ (field_good a8 m8 2 (λ n. leb n 64)) (λ n_criteria a9 l9 m9 e9.
      then_whole _ a9 (entries (criterion strings n_rows) n_criteria [] s a9) (entries (criterion strings n_rows) n_criteria [] t a9) _ _ (criteria_good strings n_rows n_criteria a9 m9) (λ criteria a10 l10 m10 e10.
      follows_whole _ a10 m10))))))))))

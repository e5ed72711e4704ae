-- The two readings of an image agree on each entry: a string, a row, a membership, a criterion.
use mathlib.Core.Bool.{Bool, true, false, not, ◌&&◌, ◌||◌, cond}
use mathlib.Core.Path.{◌≡◌, refl, ap}
use Prim.Native.Nat.{ℕ, zero, suc, ◌+◌}
use native.Mathlib.Omega.{arith}
use mathlib.Core.List.{List, [], ◌∷◌, map}
use lib.ListN.{length, take, drop}
use lib.Dec.{T, leb, ltb, eqb, leb→le}
use Rattle.octets.specs.Lists.{pick}
use Rattle.profile.specs.Reader.{got, fault, and_then, field}
use Rattle.profile.specs.Image as image
use Rattle.profile.specs.Image.{Stored, Test, header, description}
use Rattle.profile.specs.Judging as judging
use Rattle.profile.specs.Judging.{as_uri, as_method, as_pattern, as_server, as_information, test_of}
use Rattle.cells.specs.Inner.Out.{Out, good, must, ◌>>=◌, ◌>>◌}
use Rattle.cells.specs.Inner.Places as cells
use Rattle.entries.specs.Inner.Places as places
use Rattle.cells.specs.Inner.Places.{byte, word, long, whole, u16, limited, counted, exactly, absent}
use Rattle.entries.specs.Inner.Places.{first_of_row, second_of_row, row_start, row_count, trigger, rest, row_numbers, member_numbers, criterion_numbers}
use Rattle.profile.specs.Inner.Decoded.{test_from, row_from, member_with, member_from, criterion_with, criterion_from, stored}
use Rattle.entries.specs.declared.Row.{Row}
use Rattle.entries.specs.declared.Member.{Member}
use Rattle.entries.specs.declared.Criterion.{Criterion}
use Rattle.profile.proofs.SameFields.{Same, same_got, same_fault, Is, is, then_is, then_must, in_parts, then_give, up_to, field_same, then_tested, then_passed, u8_same, u16_same, u32_same, limited_same, counted_same, exactly_same, texts_of, naming_same, naming_or_absent_same, used_uri, used_server, used_method, used_information, pattern_in, used_header, used_description}

-- ---- rows

module _ (strings : List Stored) (s : List ℕ) (at n : ℕ) where
  -- a row of kind k
  abbrev Numbers : ℕ → Row
  Numbers k = record { negated = n; kind = k; first = word s (at + 2); second = word s (at + 4); set = byte s (at + 6) }

  -- what is read after the kind
  abbrev After : ℕ → Out (Row × ℕ)
  After k =
      first_of_row s (texts_of strings) k (at + 2) >>= (λ first. second_of_row s (texts_of strings) k (at + 4) >>= (λ second. limited s (at + 6) 6 >>= (λ set.
      good (record { negated = n; kind = k; first = first; second = second; set = set }, at + 7))))

  abbrev Tested : ℕ → Test → ℕ → Row × ℕ → Type 0
  Tested k = Is (test_from strings (Numbers k)) (at + 7) (Numbers k, at + 7)

  first_place : at + 2 + 2 ≡ at + 4
  first_place = omega arith

  second_place : at + 4 + 2 ≡ at + 6
  second_place = omega arith

  set_place : at + 6 + 1 ≡ at + 7
  set_place = omega arith

  set_same : Same (Is (byte s (at + 6)) (at + 7) (byte s (at + 6))) (field 1 (λ v. leb v 6) s (at + 6)) (limited s (at + 6) 6)
  set_same = up_to (at + 7) set_place (limited_same s (at + 6) 6)

  none_same : Same (Is (word s (at + 4)) (at + 6) (word s (at + 4))) (judging.no_second s (at + 4)) (exactly s absent (at + 4))
  none_same = up_to (at + 6) second_place (exactly_same s (at + 4) absent)

  uri_same : Same (Tested 0) (judging.uri_test strings s (at + 2)) (After 0)
  unfolding test_from first_of_row second_of_row
  uri_same =
      then_is (Tested 0) _ _ (up_to (at + 4) first_place (naming_same strings as_uri 0 (λ x. x.bytes) used_uri s (at + 2)))
      (then_is (Tested 0) _ _ none_same (then_is (Tested 0) _ _ set_same (same_got is)))

  method_same : Same (Tested 1) (judging.method_test strings s (at + 2)) (After 1)
  unfolding test_from first_of_row second_of_row
  method_same =
      then_is (Tested 1) _ _ (up_to (at + 4) first_place (naming_same strings as_method 1 (λ x. x.bytes) used_method s (at + 2)))
      (then_is (Tested 1) _ _ none_same (then_is (Tested 1) _ _ set_same (same_got is)))

  header_same : Same (Tested 2) (judging.patterns_test strings header s (at + 2)) (After 2)
  unfolding test_from first_of_row second_of_row
  header_same =
      then_is (Tested 2) _ _ (up_to (at + 4) first_place (naming_same strings as_pattern 2 pattern_in used_header s (at + 2)))
      (then_is (Tested 2) _ _ (up_to (at + 6) second_place (naming_or_absent_same strings as_pattern 2 pattern_in used_header s (at + 4)))
      (then_is (Tested 2) _ _ set_same (same_got is)))

  case_same : Same (Tested 3) (judging.case_test s (at + 2)) (After 3)
  unfolding test_from first_of_row second_of_row
  case_same =
      then_is (Tested 3) _ _ (up_to (at + 4) first_place (counted_same s (at + 2) 3))
      (then_is (Tested 3) _ _ none_same (then_is (Tested 3) _ _ set_same (same_got is)))

  description_same : Same (Tested 4) (judging.patterns_test strings description s (at + 2)) (After 4)
  unfolding test_from first_of_row second_of_row
  description_same =
      then_is (Tested 4) _ _ (up_to (at + 4) first_place (naming_same strings as_pattern 4 pattern_in used_description s (at + 2)))
      (then_is (Tested 4) _ _ (up_to (at + 6) second_place (naming_or_absent_same strings as_pattern 4 pattern_in used_description s (at + 4)))
      (then_is (Tested 4) _ _ set_same (same_got is)))

  test_same : (k : ℕ) → T (leb k 4) → Same (Tested k) (test_of strings k s (at + 2)) (After k)
  test_same zero h = uri_same
  test_same (suc zero) h = method_same
  test_same (suc (suc zero)) h = header_same
  test_same (suc (suc (suc zero))) h = case_same
  test_same (suc (suc (suc (suc zero)))) h = description_same
  test_same (suc (suc (suc (suc (suc k))))) h = let l = leb→le (suc (suc (suc (suc (suc k))))) 4 h in absurd (omega arith)

pub row_same : (strings : List Stored) (s : List ℕ) (before : List image.Row) (at : ℕ)
    → Same (Is (row_from strings s at) (at + 7) (row_numbers s at, at + 7)) (judging.row strings before s at) (places.reading_row s (texts_of strings) at)
unfolding places.reading_row row_from limited
row_same strings s before at =
    then_is _ _ _ (limited_same s at 1)
    (then_passed _ (λ v. leb v 4) (at + 1) _ _ (up_to (at + 2) (omega arith) (u8_same s (at + 1)))
    (λ t. then_give (λ (x : Test). record { place = at; negated = eqb (byte s at) 1; test = x }) (test_same strings s at (byte s at) (byte s (at + 1)) t)))

-- ---- memberships

follows_same : (l : List Member) (r g : ℕ) → judging.follows (judging.last (map member_with l)) (record { row = r; group = g }) ≡ places.follows l r g
follows_same [] r g = refl
follows_same (a ∷ []) r g = refl
follows_same (a ∷ b ∷ l) r g = follows_same (b ∷ l) r g

pub member_same : (s : List ℕ) (rows : ℕ) (l : List Member) (at : ℕ)
    → Same (Is (member_from s at) (at + 4) (member_numbers s at, at + 4)) (judging.member rows (map member_with l) s at) (places.reading_member s rows (places.follows l) at)
unfolding places.reading_member
member_same s rows l at =
    then_tested _ (λ v. ltb v rows) at _ _ (u16_same s at)
    (λ t. then_is _ _ _ (up_to (at + 4) (omega arith) (u16_same s (at + 2)))
    (rw (follows_same l (word s at) (word s (at + 2))) (then_must _ (places.follows l (word s at) (word s (at + 2))) 4 at (at + 4) _ _ (λ t. same_got is))))

-- ---- criteria

repeats_same : (strings : List Stored) (l : List Criterion) (p : ℕ) → judging.repeats (map (criterion_with strings) l) p ≡ places.stands l p
unfolding criterion_with
repeats_same strings [] p = refl
repeats_same strings (c ∷ l) p = ap (λ (b : Bool). eqb c.priority p || b) (repeats_same strings l p)

module _ (s : List ℕ) (form at : ℕ) where
  start_same : Same (Is (word s at) (at + 2) (word s at)) (field 2 (judging.first_ok form) s at) (row_start s form at)
  unfolding row_start
  start_same = by (eqb form 2)
    where
      by : (b : Bool) → Same (Is (word s at) (at + 2) (word s at)) (field 2 (λ v. not b || eqb v 0) s at) (cond b (exactly s 0 at) (u16 s at))
      by true = exactly_same s at 0
      by false = then_give (λ v. v) (u16_same s at)

  count_same : (rows first : ℕ) → Same (Is (word s at) (at + 2) (word s at)) (field 2 (judging.count_ok rows form first) s at) (row_count s rows form first at)
  unfolding row_count
  count_same rows first = by (eqb form 2)
    where
      by : (b : Bool) → Same (Is (word s at) (at + 2) (word s at)) (field 2 (λ v. pick b (eqb v 0) (leb 1 v && leb v 32 && leb (first + v) rows)) s at)
          (u16 s at >>= (λ v. must (cond b (eqb v 0) (leb 1 v && leb v 32 && leb (first + v) rows)) 4 at >> good v))
      by true = field_same (λ v. eqb v 0) at (u16_same s at)
      by false = field_same (λ v. leb 1 v && leb v 32 && leb (first + v) rows) at (u16_same s at)

pub criterion_same : (strings : List Stored) (s : List ℕ) (rows : ℕ) (l : List Criterion) (at : ℕ)
    → Same (Is (criterion_from strings s at) (at + 15) (criterion_numbers s at, at + 15)) (judging.criterion strings rows (map (criterion_with strings) l) s at)
    (places.reading_criterion s (texts_of strings) rows (places.stands l) at)
unfolding places.reading_criterion rest trigger criterion_from
criterion_same strings s rows l at =
    then_is _ _ _ (u32_same s at)
    (rw (repeats_same strings l (long s at)) (then_must _ (not (places.stands l (long s at))) 6 at (at + 4) _ _
    (λ t. then_is _ _ _ (up_to (at + 5) (omega arith) (limited_same s (at + 4) 2))
    (in_parts _ _ (limited s (at + 5) 2) _ _ (then_is _ _ _ (limited_same s (at + 5) 2)
    (in_parts _ _ (row_start s (byte s (at + 5)) (at + 5 + 1)) _ _ (then_is _ _ _ (up_to (at + 5 + 3) (omega arith) (start_same s (byte s (at + 5)) (at + 5 + 1)))
    (in_parts _ _ (row_count s rows (byte s (at + 5)) (word s (at + 5 + 1)) (at + 5 + 3)) _ _ (then_is _ _ _ (up_to (at + 10) (omega arith) (count_same s (byte s (at + 5)) (at + 5 + 3) rows (word s (at + 5 + 1))))
    (then_is _ _ _ (up_to (at + 12) (omega arith) (naming_same strings as_server 0 (λ x. x) used_server s (at + 10)))
    (then_is _ _ _ (up_to (at + 13) (omega arith) (limited_same s (at + 12) 2))
    (then_is _ _ _ (up_to (at + 15) (omega arith) (naming_or_absent_same strings as_information 5 (λ x. x) used_information s (at + 13)))
    (same_got is)))))))))))))

-- ---- strings

pub string_same : (s : List ℕ) (before : List Stored) (at : ℕ)
    → Same (Is (stored s at) (at + 2 + word s at) (cells.text_at s at, at + 2 + word s at)) (judging.string before s at) (cells.string s at)
unfolding cells.string cells.sized whole
string_same s before at =
    in_parts _ _ (counted s at 1024) _ _ (then_is _ _ _ (counted_same s at 1024) (by (leb (at + 2 + word s at) (length s))))
  where
    n : ℕ
    n = word s at

    by : (b : Bool) → Same {B = List ℕ × ℕ} (Is (stored s at) (at + 2 + n) (cells.text_at s at, at + 2 + n))
        (and_then (and_then (pick b (got (tt {0}) (at + 2)) (fault 2 (length s))) (λ u next. got (take n (drop next s)) (next + n)))
        (λ t next. got (record { start = at + 2; bytes = t }) next))
        ((must b 2 (length s) >> good n) >>= (λ v. good (take v (drop (at + 2) s), at + 2 + v)))
    by true = same_got is
    by false = same_fault

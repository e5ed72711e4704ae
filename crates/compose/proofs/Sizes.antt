-- The image of what is read from a text is not longer than the text, or has 9 bytes.
use mathlib.Core.Path.{◌≡◌}
use Prim.Native.Nat.{ℕ, suc, ◌+◌, ◌*◌, ◌≤◌, ◌<◌}
use native.Mathlib.Omega.{arith}
use mathlib.Core.List.{List, [], ◌∷◌, ◌++◌, map}
use lib.Dec.{ltb, eqb}
use lib.ListN.{length, length-append, length-map}
use Rattle.octets.specs.Lists.{pick, total, some_of, same}
use Rattle.octets.proofs.Tests.{either, test_cases}
use Rattle.octets.proofs.Kept.{total_const, total_mono}
use Rattle.profile.specs.Written.{Entries, member_of, string, row, membership, criterion, joined, section, written}
use Rattle.grammar.specs.Grammar.{Member}
use Rattle.scan.specs.Criteria.{Row, Criterion}
use Rattle.scan.specs.Table.{profile_text}
use Rattle.compose.specs.Composing.{or_else, all_of, named_by, rows_of, strings_of, once_each, strings, row_numbers, insert, sorted_with, memberships, criteria_numbers, entries}
use Rattle.compose.proofs.TextCosts.{text_cost, test_cost, row_cost, criterion_cost, whole_cost, costs_text}

-- ---- how long an image is

total_append : {A : Type 0} (f : A → ℕ) (l m : List A) → total f (l ++ m) ≡ total f l + total f m
total_append f [] m = omega arith
total_append f (a ∷ l) m = omega (arith, total_append f l m)

module _ {A : Type 0} where
  total_all : {B : Type 0} (f : B → ℕ) (g : A → List B) (l : List A) → total f (all_of g l) ≡ total (λ a. total f (g a)) l
  total_all f g [] = omega arith
  total_all f g (a ∷ l) = omega (arith, total_append f (g a) (all_of g l), total_all f g l)

  pub joined_long : (bytes : A → List ℕ) (l : List A) → length (joined bytes l) ≡ total (λ a. length (bytes a)) l
  joined_long bytes [] = omega arith
  joined_long bytes (a ∷ l) = omega (arith, length-append (bytes a) (joined bytes l), joined_long bytes l)

pub written_long : (p : Entries) → length (written p) ≡ 9 + (total text_cost p.strings + (length p.rows * 7 + (length p.members * 4 + length p.criteria * 15)))
unfolding written
written_long p = omega (
  arith,
  length-append (section string p.strings) (section row p.rows ++ (section membership p.members ++ section criterion p.criteria)),
  length-append (section row p.rows) (section membership p.members ++ section criterion p.criteria),
  length-append (section membership p.members) (section criterion p.criteria),
  joined_long string p.strings,
  joined_long row p.rows,
  joined_long membership p.members,
  joined_long criterion p.criteria,
  total_const 7 p.rows,
  total_const 4 p.members,
  total_const 15 p.criteria,
)

-- ---- its entries

-- "Equal strings are stored once"
once_less : (f : List ℕ → ℕ) (before l : List (List ℕ)) → total f (once_each before l) ≤ total f l
once_less f before [] = omega arith
once_less f before (t ∷ l) =
    either (λ (x : List (List ℕ)). total f x ≤ f t + total f l) (some_of (same t) before) (once_each before l) (t ∷ once_each (t ∷ before) l)
    (omega (arith, once_less f before l)) (omega (arith, once_less f (t ∷ before) l))

-- the strings of the first uses come first
pub once_front : (f : List ℕ → ℕ) (before l m : List (List ℕ)) → total f (once_each before l) ≤ total f (once_each before (l ++ m))
once_front f before [] m = omega arith
once_front f before (t ∷ l) m =
    test_cases (some_of (same t) before)
    (λ e. rw e (once_front f before l m))
    (λ e. let k : total f (once_each (t ∷ before) l) ≤ total f (once_each (t ∷ before) (l ++ m)) = once_front f (t ∷ before) l m in rw e (omega (arith, k)))

insert_long : (g : ℕ) (l : List ℕ) → length (insert g l) ≤ suc (length l)
insert_long g [] = omega arith
insert_long g (x ∷ l) =
    either (λ (y : List ℕ). length y ≤ suc (suc (length l))) (ltb g x) (g ∷ x ∷ l) (pick (eqb g x) (x ∷ l) (x ∷ insert g l)) (omega arith)
    (either (λ (y : List ℕ). length y ≤ suc (suc (length l))) (eqb g x) (x ∷ l) (x ∷ insert g l) (omega arith) (omega (arith, insert_long g l)))

sorted_long : (l gs : List ℕ) → length (sorted_with l gs) ≤ length l + length gs
sorted_long l [] = omega arith
sorted_long l (g ∷ gs) = omega (arith, sorted_long (insert g l) gs, insert_long g l)

-- what the tests of rows name
abbrev tests_cost : List Row → ℕ
tests_cost l = total (λ (x : Row). test_cost x.test) l

-- the memberships are not more than the groups
rows_long : (r : ℕ) (l : List Row) → tests_cost l + (length l * 7 + length (memberships r l) * 4) ≤ total row_cost l
rows_long r [] = omega arith
rows_long r (x ∷ l) = omega (
  arith,
  rows_long (suc r) l,
  length-append (map (member_of r) (sorted_with [] x.groups)) (memberships (suc r) l),
  length-map (sorted_with [] x.groups) (member_of r),
  sorted_long [] x.groups,
  total_const 4 x.groups,
)

-- the strings of criteria are those of their rows and of their servers
criteria_long : (cs : List Criterion)
    → total text_cost (all_of strings_of cs) + (total row_cost (all_of rows_of cs) + length cs * 15) ≡ total criterion_cost cs + tests_cost (all_of rows_of cs)
criteria_long [] = omega arith
criteria_long (c ∷ cs) = omega (
  arith,
  criteria_long cs,
  total_append text_cost (strings_of c) (all_of strings_of cs),
  total_append text_cost (all_of (λ (r : Row). named_by r.test) (rows_of c)) (c.server.name ∷ or_else [] (λ t. t ∷ []) c.server.info),
  total_all text_cost (λ (r : Row). named_by r.test) (rows_of c),
  total_append row_cost (rows_of c) (all_of rows_of cs),
  total_append (λ (r : Row). test_cost r.test) (rows_of c) (all_of rows_of cs),
)

numbers_long : (strs : List (List ℕ)) (first : ℕ) (cs : List Criterion) → length (criteria_numbers strs first cs) ≡ length cs
numbers_long strs first [] = omega arith
numbers_long strs first (c ∷ cs) = omega (arith, numbers_long strs (first + length (rows_of c)) cs)

-- ---- of criteria

module _ (cs : List Criterion) where
  abbrev all_rows : List Row
  all_rows = all_of rows_of cs

  pub image_long : length (written (entries cs))
      ≡ 9 + (total text_cost (strings cs) + (length all_rows * 7 + (length (memberships 0 all_rows) * 4 + length cs * 15)))
  unfolding entries
  image_long = omega (arith, written_long (entries cs), length-map all_rows (row_numbers (strings cs)), numbers_long (strings cs) 0 cs)

  image_less : length (written (entries cs)) ≤ 9 + total criterion_cost cs
  image_less = omega (arith, image_long, once_less text_cost [] (all_of strings_of cs), rows_long 0 all_rows, criteria_long cs)

less_by : (s : List ℕ) (cs : List Criterion) → total whole_cost cs ≤ length s → length s ≤ 65535 → length (written (entries cs)) ≤ 65535
less_by s [] h k = omega (arith, image_less [])
less_by s (c ∷ cs) h k =
    omega (arith, image_less (c ∷ cs), h, k, total_mono criterion_cost whole_cost (λ x. omega arith) cs)

pub image_small : (s : List ℕ) (cs : List Criterion) → Member profile_text s cs → length s ≤ 65535 → length (written (entries cs)) ≤ 65535
image_small s cs m h = less_by s cs (costs_text s cs m) h

-- the count of each section has its place in two bytes
pub record FewEntries (cs : List Criterion) : Type 0 where
  pub few_strings : length (strings cs) < 65536
  pub few_rows : length (all_of rows_of cs) < 65536
  pub few_members : length (memberships 0 (all_of rows_of cs)) < 65536
  pub few_criteria : length cs < 65536

few_in : (cs : List Criterion) → length (written (entries cs)) ≤ 65535 → FewEntries cs
few_in cs h =
    let l = image_long cs in
    record {
      few_strings = omega (arith, l, h, total_const 1 (strings cs), total_mono (λ (t : List ℕ). 1) text_cost (λ t. omega arith) (strings cs));
      few_rows = omega (arith, l, h);
      few_members = omega (arith, l, h);
      few_criteria = omega (arith, l, h);
    }

pub counts_small : (s : List ℕ) (cs : List Criterion) → Member profile_text s cs → length s ≤ 65535 → FewEntries cs
counts_small s cs m h = few_in cs (image_small s cs m h)

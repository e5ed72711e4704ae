-- The two readings of an image agree on each section: its entries, and where the next section begins.
use mathlib.Core.Bool.{Bool, true, false, ◌&&◌, cond}
use mathlib.Core.Path.{◌≡◌, refl, ap, ◌∙◌}
use Prim.Native.Nat.{ℕ, zero, suc, ◌+◌, ◌*◌}
use native.Mathlib.Omega.{arith}
use native.Mathlib.Nat.{mul-suc}
use native.Mathlib.Numerals.{add-one}
use mathlib.Core.List.{List, [], ◌∷◌, ◌++◌, map, map-append, append-nil, append_assoc}
use lib.ListN.{length}
use lib.Dec.{leb, eqb}
use Rattle.octets.specs.Lists.{pick}
use Rattle.profile.specs.Reader.{Reader, entries}
use Rattle.profile.specs.Image as image
use Rattle.profile.specs.Image.{Stored}
use Rattle.profile.specs.Judging as judging
use Rattle.profile.specs.Judging.{memberships_of, all_rows_have}
use Rattle.cells.specs.Inner.Out.{Out}
use Rattle.cells.specs.Inner.Places as cells
use Rattle.entries.specs.Inner.Places as places
use Rattle.cells.specs.Inner.Places.{word, text_at, many, reading_strings, offsets, past}
use Rattle.entries.specs.Inner.Places.{reading_rows, reading_members, reading_criteria, has, placed, spaced, row_numbers, member_numbers, criterion_numbers}
use Rattle.profile.specs.Inner.Decoded.{row_from, member_with, member_from, criterion_with, criterion_from, stored}
use Rattle.entries.specs.declared.Member.{Member}
use Rattle.profile.proofs.SameFields.{Same, same_got, Is, is, then_is, must_same, texts_of}
use Rattle.profile.proofs.SameEntries.{string_same, row_same, member_same, criterion_same}

-- ---- entries one after the other

-- each is `item` of its place, and the next stands at `next` of it
unfoldable along : {A : Type 0} → (ℕ → A) → (ℕ → ℕ) → ℕ → ℕ → List A
along item next zero at = []
along item next (suc n) at = item at ∷ along item next n (next at)

-- the place after them
unfoldable end_of : (ℕ → ℕ) → ℕ → ℕ → ℕ
end_of next zero at = at
end_of next (suc n) at = end_of next n (next at)

-- L: what the entries before have in common, for a reading that depends on them
module _ {A B : Type 0} (one : List A → Reader A) (f : List B → ℕ → Out (B × ℕ)) (s : List ℕ) (a : ℕ → A) (b : ℕ → B) (next : ℕ → ℕ) (L : List A → List B → Type 0)
    (each : (l : List A) (m : List B) (at : ℕ) → L l m → Same (Is (a at) (next at) (b at, next at)) (one l s at) (f m at))
    (more : (l : List A) (m : List B) (at : ℕ) → L l m → L (l ++ (a at ∷ [])) (m ++ (b at ∷ []))) where
  abbrev All : ℕ → ℕ → List A → List B → List A → ℕ → List B × ℕ → Type 0
  All n at l m = Is (l ++ along a next n at) (end_of next n at) (m ++ along b next n at, end_of next n at)

  entries_same : (n at : ℕ) (l : List A) (m : List B) → L l m → Same (All n at l m) (entries one n l s at) (many f n at m)
  unfolding along end_of entries many
  entries_same zero at l m h = rw (append-nil l, append-nil m) (same_got is)
  entries_same (suc n) at l m h =
      then_is (All (suc n) at l m) _ _ (each l m at h)
      (rw (append_assoc l (a at ∷ []) (along a next n (next at)), append_assoc m (b at ∷ []) (along b next n (next at))) at
      (entries_same n (next at) (l ++ (a at ∷ [])) (m ++ (b at ∷ [])) (more l m at h)))

along_spaced : {A : Type 0} (item : ℕ → A) (w n at : ℕ) → along item (λ k. k + w) n at ≡ spaced item w at n
unfolding along spaced
along_spaced item w zero at = refl
along_spaced item w (suc n) at = ap (λ l. item at ∷ l) (along_spaced item w n (at + w))

end_spaced : (w n at : ℕ) → end_of (λ k. k + w) n at ≡ at + w * n
unfolding end_of
end_spaced w zero at = omega arith
end_spaced w (suc n) at = end_spaced w n (at + w) ∙ omega (arith, mul-suc w n)

-- entries of one width
spaced_same : {A B : Type 0} (one : List A → Reader A) (f : List B → ℕ → Out (B × ℕ)) (s : List ℕ) (a : ℕ → A) (b : ℕ → B) (w : ℕ) (L : List A → List B → Type 0)
    → ((l : List A) (m : List B) (at : ℕ) → L l m → Same (Is (a at) (at + w) (b at, at + w)) (one l s at) (f m at))
    → ((l : List A) (m : List B) (at : ℕ) → L l m → L (l ++ (a at ∷ [])) (m ++ (b at ∷ []))) → L [] [] → (n at : ℕ)
    → Same (Is (spaced a w at n) (at + w * n) (spaced b w at n, at + w * n)) (entries one n [] s at) (many f n at [])
spaced_same one f s a b w L each more start n at =
    rw (along_spaced a w n at, along_spaced b w n at, end_spaced w n at) at (entries_same one f s a b (λ k. k + w) L each more n at [] [] start)

-- ---- strings

along_offsets : {A : Type 0} (item : ℕ → A) (s : List ℕ) (n at : ℕ) → along item (λ k. k + 2 + word s k) n at ≡ map item (offsets s n at)
unfolding along offsets
along_offsets item s zero at = refl
along_offsets item s (suc n) at = ap (λ l. item at ∷ l) (along_offsets item s n (at + 2 + word s at))

end_past : (s : List ℕ) (n at : ℕ) → end_of (λ k. k + 2 + word s k) n at ≡ past s n at
unfolding end_of past
end_past s zero at = refl
end_past s (suc n) at = end_past s n (at + 2 + word s at)

stored_texts : (s l : List ℕ) → map (text_at s) l ≡ texts_of (map (stored s) l)
stored_texts s [] = refl
stored_texts s (o ∷ l) = ap (λ (m : List (List ℕ)). text_at s o ∷ m) (stored_texts s l)

pub strings_same : (s : List ℕ) (n at : ℕ) → Same (Is (map (stored s) (offsets s n at)) (past s n at) (texts_of (map (stored s) (offsets s n at)), past s n at))
    (entries judging.string n [] s at) (reading_strings s n at)
unfolding reading_strings
strings_same s n at =
    rw (along_offsets (stored s) s n at, along_offsets (text_at s) s n at, end_past s n at, stored_texts s (offsets s n at)) at
    (entries_same judging.string (λ _. cells.string s) s (stored s) (text_at s) (λ k. k + 2 + word s k) (λ l m. Unit {0}) (λ l m k h. string_same s l k) (λ l m k h. tt) n at [] [] tt)

-- ---- rows, memberships, criteria

pub rows_same : (strings : List Stored) (s : List ℕ) (n at : ℕ) → Same (Is (spaced (row_from strings s) 7 at n) (at + 7 * n) (spaced (row_numbers s) 7 at n, at + 7 * n))
    (entries (judging.row strings) n [] s at) (reading_rows s (texts_of strings) n at)
unfolding reading_rows
rows_same strings s n at =
    spaced_same (judging.row strings) (λ _. places.reading_row s (texts_of strings)) s (row_from strings s) (row_numbers s) 7 (λ l m. Unit {0})
    (λ l m k h. row_same strings s l k) (λ l m k h. tt) tt n at

-- the entries before are those by places, read so
map_more : {A B : Type 0} (c : B → A) (l : List A) (m : List B) (b : B) → l ≡ map c m → l ++ (c b ∷ []) ≡ map c (m ++ (b ∷ []))
map_more c l m b e = rw (e, map-append c m (b ∷ []))

pub members_same : (s : List ℕ) (rows n at : ℕ) → Same (Is (spaced (member_from s) 4 at n) (at + 4 * n) (spaced (member_numbers s) 4 at n, at + 4 * n))
    (entries (judging.member rows) n [] s at) (reading_members s rows n at)
unfolding reading_members
members_same s rows n at =
    spaced_same (judging.member rows) (λ before. places.reading_member s rows (places.follows before)) s (member_from s) (member_numbers s) 4 (λ l m. l ≡ map member_with m)
    (λ l m k e. rw e (member_same s rows m k)) (λ l m k e. map_more member_with l m (member_numbers s k) e) refl n at

pub criteria_same : (strings : List Stored) (s : List ℕ) (rows n at : ℕ)
    → Same (Is (spaced (criterion_from strings s) 15 at n) (at + 15 * n) (spaced (criterion_numbers s) 15 at n, at + 15 * n))
    (entries (judging.criterion strings rows) n [] s at) (reading_criteria s (texts_of strings) rows n at)
unfolding reading_criteria criterion_from
criteria_same strings s rows n at =
    spaced_same (judging.criterion strings rows) (λ before. places.reading_criterion s (texts_of strings) rows (places.stands before)) s (criterion_from strings s) (criterion_numbers s) 15
    (λ l m. l ≡ map (criterion_with strings) m)
    (λ l m k e. rw e (criterion_same strings s rows m k)) (λ l m k e. map_more (criterion_with strings) l m (criterion_numbers s k) e) refl n at

-- ---- every row has 1 to 8

has_same : (s : List ℕ) (n at r : ℕ) → memberships_of r (spaced (member_from s) 4 at n) ≡ has (spaced (member_numbers s) 4 at n) r
unfolding spaced has
has_same s zero at r = refl
has_same s (suc n) at r = by (eqb (word s at) r) _ _ (has_same s n (at + 4) r)
  where
    by : (b : Bool) (l : List image.Member) (k : ℕ) → length l ≡ k → length (pick b (member_from s at ∷ l) l) ≡ cond b 1 0 + k
    by true l k e = omega arith
    by false l k e = omega arith

placed_same : (strings : List Stored) (s : List ℕ) (l : List image.Member) (m : List Member) → ((r : ℕ) → memberships_of r l ≡ has m r)
    → (n r at k : ℕ) → Same (Is (tt {0}) k (tt {0})) (all_rows_have l r (spaced (row_from strings s) 7 at n) s k) (placed (has m) n r at)
unfolding all_rows_have placed spaced row_from
placed_same strings s l m e zero r at k = same_got is
placed_same strings s l m e (suc n) r at k =
    rw (e r, add-one r) (then_is _ _ _ (must_same (leb 1 (has m r) && leb (has m r) 8) 4 at k) (placed_same strings s l m e n (suc r) (at + 7) k))

-- the memberships and the rows of an image, by places
pub all_placed_same : (strings : List Stored) (s : List ℕ) (n at n_rows first k : ℕ) → Same (Is (tt {0}) k (tt {0}))
    (all_rows_have (spaced (member_from s) 4 at n) 0 (spaced (row_from strings s) 7 first n_rows) s k) (placed (has (spaced (member_numbers s) 4 at n)) n_rows 0 first)
all_placed_same strings s n at n_rows first k =
    placed_same strings s (spaced (member_from s) 4 at n) (spaced (member_numbers s) 4 at n) (has_same s n at) n_rows 0 first k

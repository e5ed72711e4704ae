-- What an accepted image's judgement tells the steps above: where everything lies, that it lies in the image, and what it is.
use mathlib.Core.Option.{none, some}
use mathlib.Core.Path.{◌≡◌, refl, sym, ap, ap₂, ◌∙◌, subst}
use Prim.Native.Nat.{ℕ, zero, suc, ◌+◌, ◌-◌, ◌*◌, ◌≤◌, ◌<◌}
use native.Mathlib.Nat.{le_of_suc-le-suc, not-suc-le-zero}
use native.Mathlib.Omega.{arith}
use mathlib.Core.List.{List, [], ◌∷◌, ◌++◌, map}
use lib.ListN.{length, take, drop, get_or, get_elem?, replicate, get_or-append, length-append, length-drop, length-replicate}
use lib.Seq.{take_at}
use Rattle.profile.specs.Image.{accepted}
use Rattle.profile.specs.Judging.{judge}
use Rattle.cells.specs.Inner.Out.{good}
use Rattle.cells.specs.Inner.Places as cells
use Rattle.profile.specs.Written.{Entries}
use Rattle.profile.specs.Inner.Places as places
use Rattle.cells.specs.Inner.Places.{word, reading_strings, offsets}
use Rattle.entries.specs.Inner.Places.{spaced}
use Rattle.profile.specs.Inner.Decoded.{layout, strings, stored, stored_in, profile_in}
use Rattle.cells.specs.Inner.Answers.{Table}
use Rattle.profile.specs.Inner.Answers.{opening}
use Rattle.profile.specs.Inner.Kept.{Standing}
use Rattle.profile.specs.declared.Layout.{Layout}
use Rattle.profile.proofs.Same.{Laid, laid, accepted_good}
use Rattle.cells.proofs.Laws.{bind_inv, good_inj}
use Rattle.cells.proofs.Texts.{sized_inv}
use Rattle.profile.proofs.ImageLaws.{judge_opens, strings_on, opening_inv, opening_count}

-- ---- the k-th of a section

pub spaced_length : {A : Type 0} (item : ℕ → A) (w at n : ℕ) → length (spaced item w at n) ≡ n
unfolding spaced
spaced_length item w at zero = refl
spaced_length item w at (suc n) = ap suc (spaced_length item w (at + w) n)

pub spaced_at : {A : Type 0} (item : ℕ → A) (w at n k : ℕ) → k < n → get_elem? (spaced item w at n) k ≡ some (item (at + w * k))
unfolding spaced
spaced_at item w at zero k h = absurd (not-suc-le-zero h)
spaced_at item w at (suc n) zero h = let e : at ≡ at + w * 0 = omega arith in ap (λ (j : ℕ). some (item j)) e
spaced_at item w at (suc n) (suc k) h =
    let e : at + w + w * k ≡ at + w * suc k = omega arith in
    spaced_at item w (at + w) n k (le_of_suc-le-suc h) ∙ ap (λ (j : ℕ). some (item j)) e

-- what is left of a section from its i-th on
module _ {A : Type 0} (item : ℕ → A) (w at n : ℕ) where
  pub spaced_cons : (i : ℕ) → i < n → spaced item w (at + w * i) (n - i) ≡ item (at + w * i) ∷ spaced item w (at + w * (i + 1)) (n - (i + 1))
  unfolding spaced
  spaced_cons i h =
      let e : n - i ≡ suc (n - (i + 1)) = omega arith in
      let k : at + w * i + w ≡ at + w * (i + 1) = omega arith in
      ap (λ (j : ℕ). spaced item w (at + w * i) j) e ∙ ap (λ (j : ℕ). item (at + w * i) ∷ spaced item w j (n - (i + 1))) k

  pub spaced_none : (i : ℕ) → n ≤ i → spaced item w at (n - i) ≡ []
  unfolding spaced
  spaced_none i h = let e : n - i ≡ 0 = omega arith in ap (λ (j : ℕ). spaced item w at j) e

  pub spaced_start : spaced item w (at + w * 0) (n - 0) ≡ spaced item w at n
  spaced_start = let e : at + w * 0 ≡ at = omega arith in let k : n - 0 ≡ n = omega arith in ap₂ (λ (a j : ℕ). spaced item w a j) e k

pub spaced_past : {A : Type 0} (item : ℕ → A) (w at n k : ℕ) → n ≤ k → get_elem? (spaced item w at n) k ≡ none
unfolding spaced
spaced_past item w at zero k h = refl
spaced_past item w at (suc n) zero h = absurd (not-suc-le-zero h)
spaced_past item w at (suc n) (suc k) h = spaced_past item w (at + w) n k (le_of_suc-le-suc h)

-- ---- an accepted image

pub record Opened (s : List ℕ) : Type 0 where
  pub accepts : judge s ≡ accepted (profile_in s)
  pub size : length s ≤ 32768
  pub end : (layout s).criteria + 15 * (layout s).criterion_count ≡ length s

pub opened : (s : List ℕ) → judge s ≡ accepted (profile_in s) → Opened s
opened s e =
    let (q, g, k) = accepted_good s (profile_in s) e in
    let l : Laid s q = laid s q g in
    record { accepts = e; size = l.size; end = l.end }

-- ---- the strings

string_end : (s : List ℕ) (at : ℕ) (a : List ℕ) (next : ℕ) → cells.string s at ≡ good (a, next) → (next ≡ at + 2 + word s at) × (at + 2 + word s at ≤ length s)
unfolding cells.string
string_end s at a next e =
    let (v, q, r) = bind_inv (cells.sized s at) _ (a, next) e in
    let w = sized_inv s at v q in
    let z : at + 2 + v ≡ next = ap (λ (x : List ℕ × ℕ). x.1) (good_inj r) in
    (omega (arith, w.0), omega (arith, w.0, w.2))

-- every string lies in the image
offsets_inside : (s : List ℕ) (n at : ℕ) (before : List (List ℕ)) (q : List (List ℕ) × ℕ) → cells.many (λ u. cells.string s) n at before ≡ good q
    → (k : ℕ) → k < n → get_or (offsets s n at) k 0 + 2 + word s (get_or (offsets s n at) k 0) ≤ length s
unfolding cells.many offsets
offsets_inside s zero at before q e k h = absurd (not-suc-le-zero h)
offsets_inside s (suc n) at before q e zero h =
    let ((a, next), f, r) = bind_inv (cells.string s at) _ q e in
    (string_end s at a next f).1
offsets_inside s (suc n) at before q e (suc k) h =
    let ((a, next), f, r) = bind_inv (cells.string s at) _ q e in
    let z : next ≡ at + 2 + word s at = (string_end s at a next f).0 in
    offsets_inside s n (at + 2 + word s at) (before ++ (a ∷ [])) q (subst (λ (m : ℕ). cells.many (λ u. cells.string s) n m (before ++ (a ∷ [])) ≡ good q) z r) k (le_of_suc-le-suc h)

offsets_length : (s : List ℕ) (n at : ℕ) → length (offsets s n at) ≡ n
unfolding offsets
offsets_length s zero at = refl
offsets_length s (suc n) at = ap suc (offsets_length s n (at + 2 + word s at))

-- how many strings there are, and that they were read
strings_read : (s : List ℕ) (p : Entries) → places.judge_by_places s ≡ good p → (word s 1 ≤ 1024) × (q : List (List ℕ) × ℕ) × (reading_strings s (word s 1) 3 ≡ good q)
strings_read s p e =
    let (n, o, r) = bind_inv (opening s) (strings_on s) p (sym (judge_opens s) ∙ e) in
    let (q, f, g) = bind_inv (reading_strings s n 3) _ p r in
    let z : n ≡ word s 1 = opening_count s n o in
    (subst (λ (m : ℕ). m ≤ 1024) z (opening_inv s n o).1, q, subst (λ (m : ℕ). reading_strings s m 3 ≡ good q) z f)

module _ (s table : List ℕ) (y : Layout) (k : Standing s table y) where
  many_strings : y.strings ≡ word s 1
  unfolding layout
  many_strings = ap (λ (z : Layout). z.strings) k.layout_is

  read_strings : (word s 1 ≤ 1024) × (q : List (List ℕ) × ℕ) × (reading_strings s (word s 1) 3 ≡ good q)
  read_strings = let (p, e, same) = accepted_good s (profile_in s) k.accepts in strings_read s p e

  table_at : (i : ℕ) → i < word s 1 → get_or table i 0 ≡ get_or (offsets s (word s 1) 3) i 0
  table_at i l =
      ap (λ (t : List ℕ). get_or t i 0) k.table_is
      ∙ get_or-append (offsets s (word s 1) 3) (drop (word s 1) (replicate 1024 0)) 0 i (omega (arith, offsets_length s (word s 1) 3))

  -- the table names the strings, each of which lies in the image
  pub table_of : Table s y.strings table
  unfolding reading_strings
  table_of =
      let (few, q, e) = read_strings in
      record {
        count = omega (arith, many_strings, few);
        long =
            ap length k.table_is ∙ length-append (offsets s (word s 1) 3) (drop (word s 1) (replicate 1024 0))
            ∙ omega (arith, offsets_length s (word s 1) 3, length-drop {A = ℕ} (word s 1) (replicate 1024 0), length-replicate {A = ℕ} 1024 0, few);
        inside = λ i m.
            let low : i < word s 1 = omega (arith, many_strings) in
            subst (λ (o : ℕ). o + 2 + word s o ≤ length s) (sym (table_at i low)) (offsets_inside s (word s 1) 3 [] q e i low);
      }

  -- and they are the image's strings
  pub strings_are : stored_in s y.strings table ≡ strings s
  unfolding strings
  strings_are =
      ap₂ (λ (n : ℕ) (t : List ℕ). map (stored s) (take n t)) many_strings k.table_is
      ∙ ap (map (stored s)) (take_at (offsets s (word s 1) 3) (drop (word s 1) (replicate 1024 0)) (word s 1) (offsets_length s (word s 1) 3))

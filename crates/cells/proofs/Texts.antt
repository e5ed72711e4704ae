-- The loop over the strings: k of n are read, the next stands at `at`, and the table has the offsets of those read.
use Prim.Native.Nat.{ℕ, suc, ◌+◌, ◌-◌, ◌≤◌, ◌<◌}
use native.Mathlib.Omega.{arith}
use native.Mathlib.Numerals.{add-one}
use native.Mathlib.Nat.{sub-zero}
use borrow.Author.Count.{below_none, below_more}
use mathlib.Core.Path.{◌≡◌, refl, sym, ap, ap₂, ◌∙◌}
use mathlib.Core.List.{List, [], ◌∷◌, ◌++◌, map-append, append_assoc, append-nil}
use lib.ListN.{length, get_or, take, drop, set, length-set, take-append-drop}
use lib.Dec.{leb}
use borrow.Author.Tests.{leb-true}
use Rattle.std.specs.Prelude.{Ok}
use lib.Seq.{take-suc-set, get_or-set_same, get_or-set_other, drop-drop, drop-set-lt}
use Rattle.cells.specs.Inner.Out.{good, bad, ◌>>◌}
use Rattle.cells.specs.Inner.Places.{many, reading_strings, string, sized, counted, whole, word, text_at, texts, Inside, offsets, past}
use Rattle.cells.specs.Inner.Answers.{Tabled, Filled}
use Rattle.cells.proofs.Laws.{bind_inv, must_inv, counted_inv, good_inj}
use Rattle.cells.proofs.Many.{many_step, many_bad, many_end}

pub record Head (s : List ℕ) (n : ℕ) (before table : List ℕ) (at k : ℕ) : Type 0 where
  pub count : k ≤ n
  pub low : at ≤ 32768
  pub long : length table ≡ 1024
  pub so_far : reading_strings s n 3 ≡ many (λ _. string s) (n - k) at (texts s k table)
  pub inside : Inside s k table
  pub places : take k table ++ offsets s (n - k) at ≡ offsets s n 3
  pub end : past s (n - k) at ≡ past s n 3
  pub rest : drop k table ≡ drop k before

-- the string of place k of the table lies in s
abbrev In : List ℕ → List ℕ → ℕ → Type 0
In s table k = get_or table k 0 + 2 + word s (get_or table k 0) ≤ length s

pub head_first : (s : List ℕ) (n : ℕ) (table : List ℕ) → length table ≡ 1024 → Head s n table table 3 0
unfolding reading_strings
head_first s n table h = record { count = omega arith; low = omega arith; long = h; so_far = rw sub-zero; inside = below_none (In s table); places = ap (λ (k : ℕ). offsets s k 3) (sub-zero n); end = ap (λ (k : ℕ). past s k 3) (sub-zero n); rest = refl }

pub sized_inv : (s : List ℕ) (at v : ℕ) → sized s at ≡ good v → (v ≡ word s at) × (v ≤ 1024) × (at + 2 + v ≤ length s)
unfolding sized whole
sized_inv s at v e =
    let (n, q, r) = bind_inv (counted s at 1024) (λ n. whole s (at + 2) n >> good n) v e in
    let h = must_inv (leb (at + 2 + n) (length s)) 2 (length s) (good n) v r in
    let z : n ≡ v = good_inj h.1 in
    let w = counted_inv s at 1024 n q in
    let l = leb-true (at + 2 + n) (length s) h.0 in
    (omega arith, omega arith, omega arith)

string_is : (s : List ℕ) (at v : ℕ) → sized s at ≡ good v → string s at ≡ good (text_at s at, at + 2 + v)
unfolding string
string_is s at v e = rw (e, (sized_inv s at v e).0)

one_more : (s : List ℕ) (n k at v : ℕ) → k < n → v ≡ word s at → offsets s (n - k) at ≡ at ∷ offsets s (n - (k + 1)) (at + 2 + v)
unfolding offsets
one_more s n k at v h e = let z : n - k ≡ suc (n - (k + 1)) = omega arith in rw (z, e)

past_more : (s : List ℕ) (n k at v : ℕ) → k < n → v ≡ word s at → past s (n - k) at ≡ past s (n - (k + 1)) (at + 2 + v)
unfolding past
past_more s n k at v h e = let z : n - k ≡ suc (n - (k + 1)) = omega arith in rw (z, e)

drop_more : (k : ℕ) (a b : List ℕ) → drop k a ≡ drop k b → drop (k + 1) a ≡ drop (k + 1) b
drop_more k a b e = sym (drop-drop 1 k a) ∙ ap (drop 1) e ∙ drop-drop 1 k b

module _ (s : List ℕ) (n : ℕ) (before table : List ℕ) (at k : ℕ) (hd : Head s n before table at k) where
  texts_more : k < 1024 → texts s (k + 1) (set table k at) ≡ texts s k table ++ (text_at s at ∷ [])
  texts_more h = rw (add-one k, take-suc-set table k at (omega arith), map-append)

  pub head_more : (v : ℕ) → length s ≤ 32768 → n ≤ 1024 → k < n → good v ≡ sized s at → Head s n before (set table k at) (at + 2 + v) (k + 1)
  head_more v hl hn h r =
      let e = sym r in
      let w = sized_inv s at v e in
      record {
        count = omega arith;
        low = omega arith;
        long = length-set table k at ∙ hd.long;
        so_far = hd.so_far ∙ many_step (λ _. string s) n k at (texts s k table) (text_at s at) (at + 2 + v) h (string_is s at v e)
            ∙ ap (many (λ _. string s) (n - (k + 1)) (at + 2 + v)) (sym (texts_more (omega arith)));
        inside = below_more (In s (set table k at)) k
            (λ j l. rw (get_or-set_other table k j at 0 (omega arith)) (hd.inside j l))
            (rw (get_or-set_same table k at 0 (omega (arith, hd.long))) (omega arith));
        places =
            ap (λ (l : List ℕ). l ++ offsets s (n - (k + 1)) (at + 2 + v)) (ap (λ (j : ℕ). take j (set table k at)) (add-one k) ∙ take-suc-set table k at (omega (arith, hd.long)))
            ∙ append_assoc (take k table) (at ∷ []) (offsets s (n - (k + 1)) (at + 2 + v))
            ∙ ap (λ (l : List ℕ). take k table ++ l) (sym (one_more s n k at v h w.0)) ∙ hd.places;
        end = sym (past_more s n k at v h w.0) ∙ hd.end;
        rest = drop-set-lt (k + 1) table k at (omega arith) ∙ drop_more k table before hd.rest;
      }

  pub head_bad : (m p : ℕ) → k < n → bad m p ≡ sized s at → reading_strings s n 3 ≡ bad m p
  unfolding string
  head_bad m p h r = let e = sym r in hd.so_far ∙ many_bad (λ _. string s) n k at (texts s k table) m p h (rw e)

  pub head_end : n ≤ k → Tabled (Ok at) s n table
  head_end h =
      let z : k ≡ n = omega arith in (
        hd.so_far ∙ many_end (λ _. string s) n k at (texts s k table) h ∙ ap (λ (j : ℕ). good (texts s j table, at)) z,
        λ j l. hd.inside j (omega arith),
        hd.low,
        hd.long,
      )

  pub head_filled : n ≤ k → Filled (Ok at) s n before table
  unfolding offsets past
  head_filled h =
      let z : k ≡ n = omega arith in
      let e : n - k ≡ 0 = omega arith in (
        sym (take-append-drop k table)
            ∙ ap₂ (λ (l r : List ℕ). l ++ r) (sym (append-nil (take k table)) ∙ ap (λ (j : ℕ). take k table ++ offsets s j at) (sym e) ∙ hd.places) (hd.rest ∙ ap (λ (j : ℕ). drop j before) z),
        ap (λ (j : ℕ). past s j at) (sym e) ∙ hd.end,
      )

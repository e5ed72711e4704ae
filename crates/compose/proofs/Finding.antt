-- The loop that looks a string up among those stored.
use mathlib.Core.Path.{◌≡◌, refl, sym, ap, ◌∙◌}
use mathlib.Core.Bool.{Bool, true, false}
use Prim.Native.Nat.{ℕ, zero, suc, ◌+◌, ◌≤◌, ◌<◌}
use native.Mathlib.Numerals.{add-one}
use native.Mathlib.Omega.{arith}
use mathlib.Core.List.{List, [], ◌∷◌, map}
use lib.ListN.{length, get_or, take, drop, drop_of_length-le}
use lib.Seq.{drop-cons}
use Rattle.octets.specs.Lists.{pick, same}
use Rattle.cells.specs.Inner.Places.{texts, text_at}
use Rattle.profile.specs.Inner.Decoded.{stored, stored_in, string_of, nothing}
use Rattle.cells.specs.Inner.Answers.{Table}
use Rattle.cells.proofs.Uses.{texts_length}
use Rattle.compose.specs.Composing.{index_of}

-- string k of the image
stored_text : (s l : List ℕ) (k : ℕ) → (get_or (map (stored s) l) k nothing).bytes ≡ get_or (map (text_at s) l) k []
stored_text s [] k = refl
stored_text s (o ∷ l) zero = refl
stored_text s (o ∷ l) (suc k) = stored_text s l k

pub record Finding (t : List ℕ) (s : List ℕ) (n : ℕ) (table : List ℕ) (k : ℕ) : Type 0 where
  pub inside : k ≤ n
  pub tabled : Table s n table
  pub same_so : k + index_of t (drop k (texts s n table)) ≡ index_of t (texts s n table)

pub finding_first : (t s : List ℕ) (n : ℕ) (table : List ℕ) → Table s n table → Finding t s n table 0
finding_first t s n table h = record { inside = omega arith; tabled = h; same_so = omega arith }

module _ (t s : List ℕ) (n : ℕ) (table : List ℕ) (k : ℕ) (f : Finding t s n table k) where
  pub finding_end : n ≤ k → n ≡ index_of t (texts s n table)
  finding_end h =
      let l : length (texts s n table) ≡ n = texts_length s n table f.tabled in
      let m : length (texts s n table) ≤ k = omega (arith, l, h) in
      let e : index_of t (drop k (texts s n table)) ≡ 0 = ap (index_of t) (drop_of_length-le (texts s n table) m) in
      omega (arith, h, e, f.inside, f.same_so)

  module _ (h : k < n) (x : List ℕ) (e : x ≡ (string_of (stored_in s n table) k).bytes) (b : Bool) (g : b ≡ same t x) where
    opened : index_of t (drop k (texts s n table)) ≡ pick b 0 (suc (index_of t (drop (suc k) (texts s n table))))
    opened =
        let l : length (texts s n table) ≡ n = texts_length s n table f.tabled in
        let i : k < length (texts s n table) = omega (arith, l, h) in
        ap (index_of t) (drop-cons (texts s n table) k [] i)
        ∙ ap (λ (y : List ℕ). pick (same t y) 0 (suc (index_of t (drop (suc k) (texts s n table))))) (sym (e ∙ stored_text s (take n table) k))
        ∙ ap (λ (y : Bool). pick y 0 (suc (index_of t (drop (suc k) (texts s n table))))) (sym g)

    pub finding_found : b ≡ true → k ≡ index_of t (texts s n table)
    finding_found q =
        let z : index_of t (drop k (texts s n table)) ≡ 0 = opened ∙ ap (λ (y : Bool). pick y 0 (suc (index_of t (drop (suc k) (texts s n table))))) q in
        omega (arith, z, f.same_so)

    pub finding_next : b ≡ false → Finding t s n table (k + 1)
    finding_next q =
        let z : index_of t (drop k (texts s n table)) ≡ suc (index_of t (drop (suc k) (texts s n table))) =
        opened ∙ ap (λ (y : Bool). pick y 0 (suc (index_of t (drop (suc k) (texts s n table))))) q in
        record { inside = omega (arith, h); tabled = f.tabled; same_so = rw add-one (omega (arith, z, f.same_so)) }

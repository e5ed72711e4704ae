-- One string more behind those stored.
use mathlib.Core.Path.{◌≡◌, refl, sym, ap, ap₂, ◌∙◌, subst⁻¹}
use mathlib.Core.Logic.{⊎_elim}
use Prim.Native.Nat.{ℕ, suc, ◌+◌, ◌*◌, ◌≤◌, ◌<◌}
use native.Mathlib.Nat.{eq-or-lt_of_le}
use native.Mathlib.Numerals.{add-one}
use native.Mathlib.Omega.{arith}
use mathlib.Core.List.{List, [], ◌∷◌, ◌++◌, map, map-append}
use lib.ListN.{length, get_or, take, drop, set, length-set}
use lib.Seq.{get_or-take, take-take, take-add, drop_at, length-take-le, take-suc-set, get_or-set_same, get_or-set_other}
use Rattle.cells.specs.Inner.Places.{word, text_at, texts}
use Rattle.cells.specs.Inner.Answers.{Table}
use Rattle.compose.specs.Composing.{index_of}
use Rattle.compose.specs.Inner.Storing.{StoredAt, Strings, Adds}
use Rattle.std.specs.Prelude.{Some}

map_same : {B : Type 0} (f g : ℕ → B) (l : List ℕ) → ((k : ℕ) → k < length l → f (get_or l k 0) ≡ g (get_or l k 0)) → map f l ≡ map g l
map_same f g [] h = refl
map_same f g (x ∷ l) h = ap₂ (λ (a : _) (b : List _). a ∷ b) (h 0 (omega arith)) (map_same f g l (λ k i. h (suc k) (omega (arith, i))))

-- two images that agree below `at`
module _ (a b : List ℕ) (at : ℕ) (same : take at a ≡ take at b) (la : at ≤ length a) (lb : at ≤ length b) where
  byte_same : (i : ℕ) → i < at → get_or a i 0 ≡ get_or b i 0
  byte_same i h = sym (get_or-take at a i 0 h) ∙ ap (λ (l : List ℕ). get_or l i 0) same ∙ get_or-take at b i 0 h

  word_same : (o : ℕ) → o + 2 ≤ at → word a o ≡ word b o
  word_same o h = ap₂ (λ (x y : ℕ). x * 256 + y) (byte_same o (omega (arith, h))) (byte_same (o + 1) (omega (arith, h)))

  part_same : (m w : ℕ) → m + w ≤ at → take w (drop m a) ≡ take w (drop m b)
  part_same m w h =
      sym (drop_at (take m a) (take w (drop m a)) m (length-take-le m a (omega (arith, h, la))))
      ∙ ap (drop m) (sym (take-add m w a) ∙ sym (take-take (m + w) at a h) ∙ ap (take (m + w)) same ∙ take-take (m + w) at b h ∙ take-add m w b)
      ∙ drop_at (take m b) (take w (drop m b)) m (length-take-le m b (omega (arith, h, lb)))

  text_same : (o : ℕ) → o + 2 + word b o ≤ at → text_at a o ≡ text_at b o
  text_same o h = ap (λ (w : ℕ). take w (drop (o + 2) a)) (word_same o (omega (arith, h))) ∙ part_same (o + 2) (word b o) h

module _ (d image table image' : List ℕ) (n at : ℕ) (s : Strings image table n at) (few : n < 1024) (room : at + 2 + length d ≤ length image)
    (t : StoredAt d at image image') where
  long' : at ≤ length image'
  long' = omega (arith, t.long, s.inside)

  old : (k : ℕ) → k < n → get_or (set table n at) k 0 ≡ get_or table k 0
  old k h = get_or-set_other table n k at 0 (λ e. absurd (omega (arith, e, h)))

  new : get_or (set table n at) n 0 ≡ at
  new = get_or-set_same table n at 0 (omega (arith, s.tabled.long, few))

  -- where string k ends, for the old ones and the new one
  ends_by : (k : ℕ) → k < n → get_or (set table n at) k 0 + 2 + word image' (get_or (set table n at) k 0) ≤ at
  ends_by k h =
      let o : get_or table k 0 + 2 + word image (get_or table k 0) ≤ at = s.below k h in
      subst⁻¹ (λ (x : ℕ). x + 2 + word image' x ≤ at) (old k h)
      (subst⁻¹ (λ (x : ℕ). get_or table k 0 + 2 + x ≤ at) (word_same image' image at t.kept long' s.inside (get_or table k 0) (omega (arith, o))) o)

  ends_new : get_or (set table n at) n 0 + 2 + word image' (get_or (set table n at) n 0) ≡ at + 2 + length d
  ends_new = ap (λ (x : ℕ). x + 2 + word image' x) new ∙ ap (λ (x : ℕ). at + 2 + x) t.sized

  each_below : (k : ℕ) → k < n + 1 → get_or (set table n at) k 0 + 2 + word image' (get_or (set table n at) k 0) ≤ at + 2 + length d
  each_below k h =
      let l : k ≤ n = omega (arith, h) in
      ⊎_elim
      (λ e. subst⁻¹ (λ (x : ℕ). get_or (set table n at) x 0 + 2 + word image' (get_or (set table n at) x 0) ≤ at + 2 + length d) e (omega (arith, ends_new)))
      (λ g. let o : get_or (set table n at) k 0 + 2 + word image' (get_or (set table n at) k 0) ≤ at = ends_by k g in omega (arith, o))
      (eq-or-lt_of_le l)

  tabled' : Table image' (n + 1) (set table n at)
  tabled' = record {
    count = omega (arith, few);
    long = length-set table n at ∙ s.tabled.long;
    inside = λ k h.
        let o : get_or (set table n at) k 0 + 2 + word image' (get_or (set table n at) k 0) ≤ at + 2 + length d = each_below k h in
        omega (arith, o, room, t.long);
  }

  old_texts : map (text_at image') (take n table) ≡ map (text_at image) (take n table)
  old_texts =
      map_same (text_at image') (text_at image) (take n table)
      (λ k h.
      let l : length (take n table) ≡ n = length-take-le n table (omega (arith, s.tabled.long, few)) in
      let i : k < n = omega (arith, h, l) in
      subst⁻¹ (λ (o : ℕ). text_at image' o ≡ text_at image o) (get_or-take n table k 0 i)
      (text_same image' image at t.kept long' s.inside (get_or table k 0) (s.below k i)))

  more_texts : texts image' (n + 1) (set table n at) ≡ texts image n table ++ (d ∷ [])
  more_texts =
      ap (λ (m : ℕ). map (text_at image') (take m (set table n at))) (add-one n)
      ∙ ap (map (text_at image')) (take-suc-set table n at (omega (arith, s.tabled.long, few)))
      ∙ map-append (text_at image') (take n table) (at ∷ [])
      ∙ ap₂ (λ (x : List (List ℕ)) (y : List ℕ). x ++ (y ∷ [])) old_texts t.text

  pub added : (e k : ℕ) → e ≡ at + 2 + length d → k ≡ index_of d (texts image n table) → n ≤ k
      → Adds d image table n at image' (set table n at) (Some e)
  added e k f g h = (
    record { tabled = tabled'; below = λ j i. subst⁻¹ (λ (x : ℕ). get_or (set table n at) j 0 + 2 + word image' (get_or (set table n at) j 0) ≤ x) f (each_below j i); inside = omega (arith, f, room, t.long) },
    more_texts,
    omega (arith, g, h),
  )

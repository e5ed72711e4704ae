-- Laws of `first`: what a loop that looks at one place after the other keeps, over any test, and what a cut at a mark is.
use mathlib.Core.Bool.{Bool, true, false, not, ◌&&◌}
use mathlib.Core.Option.{none, some}
use mathlib.Core.Option as M
use mathlib.Core.Path.{◌≡◌, refl, sym, ap, ◌∙◌}
use mathlib.Core.List.{List, [], ◌∷◌}
use Prim.Native.Nat.{ℕ, zero, suc, ◌+◌, ◌≤◌, ◌<◌, zero-le, suc-le-suc}
use native.Mathlib.Nat.{zero-add, suc-add, not-suc-le-zero}
use native.Mathlib.Decide.{dec_le}
use native.Mathlib.Numerals.{add-one, add-one-le}
use native.Mathlib.Omega.{arith}
use lib.ListN.{length, get_or, take, drop, drop_of_length-le, length-drop}
use lib.Dec.{eqb}
use lib.Seq.{drop-cons, drop-drop, length-take-le, take_all}
use borrow.Author.Tests.{eq-eqb, ne_eqb}
use Rattle.std.proofs.Common.{Option}
use Rattle.std.specs.List.{AllWithin, HoldsAt}
use Rattle.std.specs.Option.{MatchOption, unwrap_or}
use Rattle.std.proofs.lemmas.Iterator.{index_from_first}
use Rattle.octets.specs.Bytes.{white}
use Rattle.octets.specs.Lists.{pick}
use Rattle.octets.specs.Option.{◌>>=◌}
use Rattle.octets.proofs.Tests.{right, T_of, is_true}
use Rattle.cuts.specs.Cutting.{Cut, begins, first_cut, before_cut}
use Rattle.cuts.specs.Inner.Searching.{first, text_here}

module _ (p : List ℕ → Bool) where
  pub first_no : (b : ℕ) (s : List ℕ) → p (b ∷ s) ≡ false → first p (b ∷ s) ≡ suc (first p s)
  unfolding first
  first_no b s h = rw (h, first)

  pub first_yes : (b : ℕ) (s : List ℕ) → p (b ∷ s) ≡ true → first p (b ∷ s) ≡ 0
  unfolding first
  first_yes b s h = rw (h, first)

  -- the search has come to i; t is the place that it will find
  pub record Came (s : List ℕ) (t i : ℕ) : Type 0 where
    pub inside : i ≤ length s
    pub same : i + first p (drop i s) ≡ t

  pub came_next : (s : List ℕ) (t i : ℕ) → Came s t i → i < length s → p (drop i s) ≡ false → Came s t (i + 1)
  came_next s t i k h no_place =
      let cut : drop i s ≡ get_or s i 0 ∷ drop (suc i) s = drop-cons s i 0 h in
      let step : first p (drop i s) ≡ suc (first p (drop (i + 1) s)) = rw (add-one, cut) (first_no _ _ (rw cut at no_place)) in
      record { inside = add-one-le h; same = omega (arith, step, k.same) }

  pub came_found : (s : List ℕ) (t i : ℕ) → Came s t i → i < length s → p (drop i s) ≡ true → i ≡ t
  came_found s t i k h here =
      let cut : drop i s ≡ get_or s i 0 ∷ drop (suc i) s = drop-cons s i 0 h in
      let step : first p (drop i s) ≡ 0 = rw cut (first_yes _ _ (rw cut at here)) in
      omega (arith, step, k.same)

  pub came_end : (s : List ℕ) (t i : ℕ) → Came s t i → length s ≤ i → i ≡ t
  unfolding first
  came_end s t i k h =
      let step : first p (drop i s) ≡ 0 = rw (drop_of_length-le s h) in
      omega (arith, step, k.same)

  first_le_by : (b : ℕ) (s : List ℕ) → first p s ≤ length s → (t : Bool) → p (b ∷ s) ≡ t → first p (b ∷ s) ≤ suc (length s)
  first_le_by b s h true e = rw (first_yes b s e) zero-le
  first_le_by b s h false e = rw (first_no b s e) (suc-le-suc h)

  pub first_le : (s : List ℕ) → first p s ≤ length s
  unfolding first
  first_le [] = zero-le
  first_le (b ∷ s) = first_le_by b s (first_le s) (p (b ∷ s)) refl

-- a test that holds only where another does: its search may go from one place of that to the next
module _ (p q : List ℕ → Bool) (only_there : (s : List ℕ) → q s ≡ false → p s ≡ false) where
  skip_by : (b : ℕ) (s : List ℕ) → first p s ≡ first q s + first p (drop (first q s) s) → (t : Bool) → q (b ∷ s) ≡ t
      → first p (b ∷ s) ≡ first q (b ∷ s) + first p (drop (first q (b ∷ s)) (b ∷ s))
  skip_by b s h true e = rw (first_yes q b s e, zero-add)
  skip_by b s h false e = rw (first_no q b s e, first_no p b s (only_there (b ∷ s) e), suc-add) (ap suc h)

  first_skip : (s : List ℕ) → first p s ≡ first q s + first p (drop (first q s) s)
  unfolding first
  first_skip [] = refl
  first_skip (b ∷ s) = skip_by b s (first_skip s) (q (b ∷ s)) refl

  pub came_skip : (s : List ℕ) (t i j : ℕ) → Came p s t i → j ≡ i + first q (drop i s) → Came p s t j
  came_skip s t i j k e =
      let on : drop (first q (drop i s)) (drop i s) ≡ drop j s = drop-drop (first q (drop i s)) i s ∙ ap (λ (n : ℕ). drop n s) (sym e) in
      let far : first p (drop i s) ≡ first q (drop i s) + first p (drop j s) = first_skip (drop i s) ∙ ap (λ (l : List ℕ). first q (drop i s) + first p l) on in
      record {
        inside = omega (arith, k.inside, e, first_le q (drop i s), length-drop i s);
        same = omega (arith, k.same, e, far);
      }

  -- on from a place of the other test at which this one does not hold
  pub skip_next : (s : List ℕ) (t i j : ℕ) → Came p s t i → i < length s → p (drop i s) ≡ false → j ≡ i + 1 + first q (drop (i + 1) s) → Came p s t j
  skip_next s t i j k h no_place e = came_skip s t (i + 1) j (came_next p s t i k h no_place) e

-- ---- marks

-- the mark's first byte, which is not 0, stands at i, and the others after it
pub begins_at : (a : ℕ) (mark s : List ℕ) (i : ℕ) → eqb a 0 ≡ false → begins (a ∷ mark) (drop i s) ≡ eqb a (get_or s i 0) && begins mark (drop (i + 1) s)
begins_at a mark [] zero h = rw h
begins_at a mark (b ∷ s) zero h = refl
begins_at a mark [] (suc i) h = rw h
begins_at a mark (b ∷ s) (suc i) h = begins_at a mark s i h ∙ rw suc-add

-- what the library's `position` finds
first_found : (p : List ℕ → Bool) (Yes No : ℕ → Type 0) → ((x : ℕ) (s : List ℕ) → Yes x → p (x ∷ s) ≡ true) → ((x : ℕ) (s : List ℕ) → No x → p (x ∷ s) ≡ false)
    → (s : List ℕ) (r : Option ℕ) → MatchOption r (AllWithin No s 0 (length s)) (λ i. (i < length s) × HoldsAt Yes s i × AllWithin No s 0 i) → first p s ≡ unwrap_or r (length s)
unfolding first
first_found p Yes No hit miss =
    index_from_first (first p) Yes No refl (λ x s y. first_yes p x s (hit x s y)) (λ x s n. first_no p x s (miss x s n) ∙ sym (add-one (first p s)))

-- a search for one byte, by the library's word
pub place_found : (b : ℕ) (s : List ℕ) (r : Option ℕ)
    → MatchOption r (AllWithin (λ x. x ≡ b → ⊥) s 0 (length s)) (λ i. (i < length s) × HoldsAt (λ x. x ≡ b) s i × AllWithin (λ x. x ≡ b → ⊥) s 0 i)
    → first (begins (b ∷ [])) s ≡ unwrap_or r (length s)
place_found b =
    first_found (begins (b ∷ [])) (λ x. x ≡ b) (λ x. x ≡ b → ⊥)
    (λ x s e. rw (eq-eqb b x (sym e))) (λ x s n. rw (ne_eqb b x (λ e. n (sym e))))

-- and by a loop over the places
module _ (s : List ℕ) (b t i : ℕ) (k : Came (begins (b ∷ [])) s t i) (inside : i < length s) where
  pub place_here : get_or s i 0 ≡ b → i ≡ t
  place_here h = came_found (begins (b ∷ [])) s t i k inside (rw (drop-cons s i 0 inside, eq-eqb b (get_or s i 0) (sym h)))

  pub place_next : (get_or s i 0 ≡ b → ⊥) → Came (begins (b ∷ [])) s t (i + 1)
  place_next h = came_next (begins (b ∷ [])) s t i k inside (rw (drop-cons s i 0 inside, ne_eqb b (get_or s i 0) (λ e. h (sym e))))

-- a search for a byte that is not white
pub blanks_found : (s : List ℕ) (r : Option ℕ)
    → MatchOption r (AllWithin (λ x. white x ≡ true) s 0 (length s)) (λ i. (i < length s) × HoldsAt (λ x. white x ≡ false) s i × AllWithin (λ x. white x ≡ true) s 0 i)
    → first text_here s ≡ unwrap_or r (length s)
blanks_found =
    first_found text_here (λ x. white x ≡ false) (λ x. white x ≡ true) (λ x s e. ap not e) (λ x s e. ap not e)

-- a mark that was found lies inside
pub begins_long : (mark s : List ℕ) → begins mark s ≡ true → length mark ≤ length s
begins_long [] s e = zero-le
begins_long (a ∷ mark) [] e = let z : ◌≡◌ {A = ℕ} 0 1 = cc in absurd (omega arith)
begins_long (a ∷ mark) (b ∷ s) e = suc-le-suc (begins_long mark s (is_true (begins mark s) (right (eqb a b) (begins mark s) (T_of e))))

module _ (p : List ℕ → Bool) where
  holds_by : (b : ℕ) (s : List ℕ) → (first p s < length s → p (drop (first p s) s) ≡ true) → (t : Bool) → p (b ∷ s) ≡ t
      → first p (b ∷ s) < suc (length s) → p (drop (first p (b ∷ s)) (b ∷ s)) ≡ true
  holds_by b s h true e l = ap (λ (k : ℕ). p (drop k (b ∷ s))) (first_yes p b s e) ∙ e
  holds_by b s h false e l = ap (λ (k : ℕ). p (drop k (b ∷ s))) (first_no p b s e) ∙ h (omega (arith, first_no p b s e))

  -- the test holds at the place found
  pub first_holds : (s : List ℕ) → first p s < length s → p (drop (first p s) s) ≡ true
  first_holds [] l = absurd (not-suc-le-zero l)
  first_holds (b ∷ s) l = holds_by b s (first_holds s) (p (b ∷ s)) refl l

-- ---- a cut at the first mark

module _ (mark : List ℕ) where
  abbrev cut_here : List ℕ → ℕ → M.Option Cut
  cut_here s k = some (record { before = take k s; after = drop (k + length mark) s })

  abbrev pushed : ℕ → M.Option Cut → M.Option Cut
  pushed b o = o >>= λ c. some (record { before = b ∷ c.before; after = c.after })

  cut_yes : (b : ℕ) (s : List ℕ) → begins mark (b ∷ s) ≡ true → first_cut mark (b ∷ s) ≡ cut_here (b ∷ s) 0
  unfolding first_cut
  cut_yes b s e =
      ap (λ (t : Bool). pick t (some (record { before = []; after = drop (length mark) (b ∷ s) })) (pushed b (first_cut mark s))) e
      ∙ ap (λ (k : ℕ). some (record { before = []; after = drop k (b ∷ s) })) (sym (zero-add (length mark)))

  cut_no : (b : ℕ) (s : List ℕ) → begins mark (b ∷ s) ≡ false → first_cut mark (b ∷ s) ≡ pushed b (first_cut mark s)
  unfolding first_cut
  cut_no b s e = ap (λ (t : Bool). pick t (some (record { before = []; after = drop (length mark) (b ∷ s) })) (pushed b (first_cut mark s))) e

  abbrev Found : List ℕ → Type 0
  Found s = first (begins mark) s < length s → first_cut mark s ≡ cut_here s (first (begins mark) s)

  found_by : (b : ℕ) (s : List ℕ) → Found s → (t : Bool) → begins mark (b ∷ s) ≡ t → Found (b ∷ s)
  found_by b s h true e l = cut_yes b s e ∙ ap (cut_here (b ∷ s)) (sym (first_yes (begins mark) b s e))
  found_by b s h false e l =
      let k = first (begins mark) s in
      let more : k < length s = omega (arith, first_no (begins mark) b s e) in
      cut_no b s e ∙ ap (pushed b) (h more)
      ∙ ap (λ (j : ℕ). some (record { before = b ∷ take k s; after = drop j (b ∷ s) })) (sym (suc-add k (length mark)))
      ∙ ap (cut_here (b ∷ s)) (sym (first_no (begins mark) b s e))

  -- the mark stands at the place found
  pub cut_found : (s : List ℕ) → Found s
  cut_found [] l = absurd (not-suc-le-zero l)
  cut_found (b ∷ s) l = found_by b s (cut_found s) (begins mark (b ∷ s)) refl l

  missing_by : (b : ℕ) (s : List ℕ) → (length s ≤ first (begins mark) s → first_cut mark s ≡ none)
      → (t : Bool) → begins mark (b ∷ s) ≡ t → suc (length s) ≤ first (begins mark) (b ∷ s) → first_cut mark (b ∷ s) ≡ none
  missing_by b s h true e l = absurd (omega (arith, first_yes (begins mark) b s e))
  missing_by b s h false e l =
      let less : length s ≤ first (begins mark) s = omega (arith, first_no (begins mark) b s e) in
      cut_no b s e ∙ ap (pushed b) (h less)

  -- it stands nowhere
  pub cut_missing : (s : List ℕ) → length s ≤ first (begins mark) s → first_cut mark s ≡ none
  unfolding first_cut
  cut_missing [] l = refl
  cut_missing (b ∷ s) l = missing_by b s (cut_missing s) (begins mark (b ∷ s)) refl l

  -- what stands before it
  pub before_is : (s : List ℕ) → before_cut s (first_cut mark s) ≡ take (first (begins mark) s) s
  before_is s =
      elim (dec_le (length s) (first (begins mark) s)) [
        | yes h ↦ ap (before_cut s) (cut_missing s h) ∙ sym (take_all (first (begins mark) s) s h)
        | no h ↦ ap (before_cut s) (cut_found s (omega (arith, h)))
      ]

  pub before_length : (s : List ℕ) → length (before_cut s (first_cut mark s)) ≡ first (begins mark) s
  before_length s = ap length (before_is s) ∙ length-take-le (first (begins mark) s) s (first_le (begins mark) s)

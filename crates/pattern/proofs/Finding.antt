-- A pattern matches exactly if a part that fits begins somewhere, so a machine that is ready for it finds what the definitions name.
use mathlib.Core.Path.{◌≡◌, refl, sym, ap, ◌∙◌, subst, subst⁻¹}
use mathlib.Core.Bool.{Bool, true, false, not, ◌&&◌, ◌||◌}
use mathlib.Core.Option.{Option, none, some}
use mathlib.Core.List.{List, [], ◌∷◌}
use Prim.Native.Nat.{ℕ, zero, suc, ◌+◌, ◌<◌, ◌≤◌}
use native.Mathlib.Omega.{arith}
use lib.Dec.{T, eqb, eqb→eq, leb}
use lib.ListN.{length, drop}
use borrow.Author.Tests.{leb-true, leb-false, eqb-true, eqb-false}
use Rattle.octets.specs.Lists.{pick}
use Rattle.octets.proofs.Tests.{left, right, or_left, or_right, or_cases, T_of, not_T_of, is_true, test_cases}
use Rattle.machine.specs.Inner.Machine.{Bytes, Leftmost, Found, machine_of}
use Rattle.machine.specs.declared.Shape.{Shape}
use Rattle.machine.proofs.OneAnswer.{leftmost_one}
use Rattle.basic.specs.Reading.{read_pattern}
use Rattle.basic.specs.Pattern.{Elem, Pattern}
use Rattle.pattern.specs.Inner.Answers.{matches_as, read_matches, meets_text, meet_as, begins_of, begins_at, smallest, first_fit}
use Rattle.pattern.specs.Matching.{front, somewhere, matches, written_matches, name_matches}
use Rattle.pattern.specs.Inner.Prepared.{Ready}

-- ---- the smallest

-- r is the first from `from` on, of n, that passes
pub record First (f : ℕ → Bool) (n from r : ℕ) : Type 0 where
  pub within : r ≤ from + n
  pub before : (j : ℕ) → from ≤ j → j < r → f j ≡ false
  pub found : r < from + n → f r ≡ true

pub first_of_smallest : (f : ℕ → Bool) (n from : ℕ) → First f n from (smallest f n from)
first_of_smallest f zero from = record { within = omega arith; before = λ j k l. absurd (omega arith); found = λ l. absurd (omega arith) }
first_of_smallest f (suc n) from = go (f from) refl (first_of_smallest f n (from + 1))
  where
    go : (t : Bool) → f from ≡ t → First f n (from + 1) (smallest f n (from + 1)) → First f (suc n) from (pick t from (smallest f n (from + 1)))
    go true e s = record { within = omega arith; before = λ j k l. absurd (omega arith); found = λ l. e }
    go false e s =
        let b : smallest f n (from + 1) ≤ from + 1 + n = s.within in
        record { within = omega arith; before = λ j k l. at j k l (eqb j from) refl; found = λ l. s.found (omega arith) }
      where
        at : (j : ℕ) → from ≤ j → j < smallest f n (from + 1) → (u : Bool) → eqb j from ≡ u → f j ≡ false
        at j k l true u = ap f (eqb-true j from u) ∙ e
        at j k l false u = let d = eqb-false j from u in s.before j (omega arith) l

-- ---- somewhere in the text

somewhere_at : (k : List ℕ → Bool) (s : List ℕ) (j : ℕ) → T (k (drop j s)) → T (somewhere k s)
somewhere_at k [] zero t = t
somewhere_at k [] (suc j) t = t
somewhere_at k (b ∷ s) zero t = or_left (k (b ∷ s)) (somewhere k s) t
somewhere_at k (b ∷ s) (suc j) t = or_right (k (b ∷ s)) (somewhere k s) (somewhere_at k s j t)

at_somewhere : (k : List ℕ → Bool) (s : List ℕ) → T (somewhere k s) → (j : ℕ) × (j ≤ length s) × T (k (drop j s))
at_somewhere k [] t = (0, omega arith, t)
at_somewhere k (b ∷ s) t =
    or_cases (k (b ∷ s)) (somewhere k s) t (λ u. (0, omega arith, u)) (λ u. let r = at_somewhere k s u in let l : r.0 ≤ length s = r.1 in (suc r.0, omega arith, r.2))

-- ---- a pattern matches exactly if a part begins somewhere

module _ (fold start end : Bool) (es : List Elem) (s : List ℕ) where
  abbrev here : List ℕ → Bool
  here l = front (meet_as fold) end es l

  abbrev whole : Bool → Bool
  whole b = pick b (here s) (somewhere here s)

  fits_whole : (r : ℕ) (b : Bool) → T ((not b || eqb r 0) && here (drop r s)) → T (whole b)
  fits_whole r true t =
      let z : r ≡ 0 = eqb→eq r 0 (left (eqb r 0) (here (drop r s)) t) in
      subst (λ (j : ℕ). T (here (drop j s))) z (right (eqb r 0) (here (drop r s)) t)
  fits_whole r false t = somewhere_at here s r t

  whole_fits : (b : Bool) → T (whole b) → (j : ℕ) × (j ≤ length s) × T ((not b || eqb j 0) && here (drop j s))
  whole_fits true t = (0, omega arith, t)
  whole_fits false t = at_somewhere here s t

  matches_is : whole start ≡ matches_as fold (record { at_start = start; elems = es; at_end = end }) s
  unfolding matches written_matches name_matches
  matches_is = go fold
    where
      go : (b : Bool) → pick start (front (meet_as b) end es s) (somewhere (front (meet_as b) end es) s)
          ≡ matches_as b (record { at_start = start; elems = es; at_end = end }) s
      go true = refl
      go false = refl

module _ (fold : Bool) (t : List ℕ) where
  begun_of : (o : Option Pattern) (j : ℕ) → T (begins_of fold o t j) → T (read_matches fold o t)
  begun_of none j b = b
  begun_of (some x) j b =
      subst T (matches_is fold x.at_start x.at_end x.elems t) (fits_whole fold x.at_start x.at_end x.elems t j x.at_start b)

  met_of : (o : Option Pattern) → T (read_matches fold o t) → (j : ℕ) × (j ≤ length t) × T (begins_of fold o t j)
  met_of none m = absurd m
  met_of (some x) m =
      whole_fits fold x.at_start x.at_end x.elems t x.at_start (subst⁻¹ T (matches_is fold x.at_start x.at_end x.elems t) m)

module _ (fold : Bool) (p t : List ℕ) where
  begun_meets : (j : ℕ) → T (begins_at fold p t j) → meets_text fold p t ≡ true
  unfolding begins_at meets_text
  begun_meets j b = is_true (meets_text fold p t) (begun_of fold t (read_pattern p) j b)

  none_meets : ((j : ℕ) → j ≤ length t → T (begins_at fold p t j) → ⊥) → meets_text fold p t ≡ false
  unfolding begins_at meets_text
  none_meets n = test_cases (meets_text fold p t) (λ e. let x = met_of fold t (read_pattern p) (T_of e) in absurd (n x.0 x.1 x.2)) (λ e. e)

  -- if the smallest place lies within the text
  pub place_meets : (r : ℕ) → r ≡ first_fit fold p t → leb r (length t) ≡ meets_text fold p t
  unfolding first_fit
  place_meets r e = go (leb r (length t)) refl
    where
      first : First (begins_at fold p t) (suc (length t)) 0 r
      first = subst⁻¹ (λ (n : ℕ). First (begins_at fold p t) (suc (length t)) 0 n) e (first_of_smallest (begins_at fold p t) (suc (length t)) 0)

      go : (b : Bool) → leb r (length t) ≡ b → b ≡ meets_text fold p t
      go true l = sym (begun_meets r (T_of (first.found (omega (arith, leb-true r (length t) l)))))
      go false l = sym (none_meets (λ j k. not_T_of (first.before j (omega arith) (omega (arith, leb-false r (length t) l)))))

-- ---- what a machine that is ready finds

module _ (fold : Bool) (p : List ℕ) (h : Shape) (sets : List (List ℕ)) (before : List ℕ) (ready : Ready fold p h sets before) (t : List ℕ) (bytes : Bytes t) where
  pub found_first : (r : ℕ) → Leftmost (machine_of h sets before) t r → r ≡ first_fit fold p t
  unfolding first_fit
  found_first r l =
      let f = first_of_smallest (begins_at fold p t) (suc (length t)) 0 in
      leftmost_one (machine_of h sets before) t r (first_fit fold p t) l
      (record {
        within = omega (arith, f.within);
        before = λ j i k v. not_T_of (f.before j (omega arith) i) ((ready.begins t bytes j k).0 v);
        found = λ k. (ready.begins t bytes (first_fit fold p t) k).1 (T_of (f.found (omega arith)));
      })

  pub found_meets : (r : Bool) → Found (machine_of h sets before) t r → r ≡ meets_text fold p t
  found_meets true f = let y = f.yes refl in sym (begun_meets fold p t y.0 ((ready.begins t bytes y.0 y.1).0 y.2))
  found_meets false f = sym (none_meets fold p t (λ j k b. (f.no refl).before j (omega arith) k ((ready.begins t bytes j k).1 b)))

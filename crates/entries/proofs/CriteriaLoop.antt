-- The loop over the criteria: j of n are read, and the next stands at `at`. The inner loop compares its priority p with those before.
use Prim.Native.Nat.{ℕ, zero, suc, ◌+◌, ◌-◌, ◌*◌, ◌≤◌, ◌<◌}
use native.Mathlib.Omega.{arith}
use native.Mathlib.Nat.{sub-zero}
use native.Mathlib.Numerals.{add-one}
use native.Mathlib.Decide.{ℕ_discrete}
use mathlib.Core.Path.{◌≡◌, refl, sym, ap, ◌∙◌}
use mathlib.Core.Bool.{Bool, true, false, ◌||◌, or-false, or-true}
use mathlib.Core.List.{List, [], ◌∷◌, ◌++◌}
use lib.Dec.{eqb}
use borrow.Author.Tests.{eq-eqb, ne_eqb}
use Rattle.cells.specs.Inner.Out.{Out, good, bad, ◌>>=◌}
use Rattle.cells.specs.Inner.Places.{many, u32, long, limited, named, named_or_absent, ends}
use Rattle.entries.specs.Inner.Places.{stands, trigger, rest, reading_criterion, reading_criteria}
use Rattle.entries.specs.declared.Criterion.{Criterion}
use Rattle.cells.proofs.Laws.{u32_inv, bad_good, good_inj}
use Rattle.cells.proofs.Many.{many_step, many_bad, many_end, ends_inv, ends_bad}

-- what holds of all that the rest of a reading can give holds of what the reading gives
always : {A B : Type 0} (P : B → Type 0) (o : Out A) (f : A → Out B) → ((a : A) (b : B) → f a ≡ good b → P b) → (b : B) → (o >>= f) ≡ good b → P b
always P (good a) f h b e = h a b e
always P (bad n p) f h b e = bad_good e

abbrev Stays : ℕ → ℕ → Criterion × ℕ → Type 0
Stays p at q = (q.0.priority ≡ p) × (q.1 ≡ at + 15)

rest_stays : (s : List ℕ) (strs : List (List ℕ)) (rows p at : ℕ) (q : Criterion × ℕ) → rest s strs rows p at ≡ good q → Stays p at q
unfolding rest
rest_stays s strs rows p at =
    always (Stays p at) (limited s (at + 4) 2) _ λ _. always (Stays p at) (trigger s rows (at + 5)) _ λ _. always (Stays p at) (named s strs 0 (at + 10)) _
    λ _. always (Stays p at) (limited s (at + 12) 2) _ λ _. always (Stays p at) (named_or_absent s strs 5 (at + 13)) _
    λ _ q e. (ap (λ (x : Criterion × ℕ). x.0.priority) (sym (good_inj e)), ap (λ (x : Criterion × ℕ). x.1) (sym (good_inj e)))

stands_snoc : (l : List Criterion) (c : Criterion) (p : ℕ) → stands (l ++ (c ∷ [])) p ≡ (stands l p || eqb c.priority p)
stands_snoc [] c p = or-false (eqb c.priority p)
stands_snoc (k ∷ l) c p = go (eqb k.priority p) _ _ _ (stands_snoc l c p)
  where
    go : (b x y z : Bool) → x ≡ (y || z) → (b || x) ≡ ((b || y) || z)
    go true x y z e = refl
    go false x y z e = e

-- p stands among the first j priorities from `start`
unfoldable pub earlier : List ℕ → ℕ → ℕ → ℕ → Bool
earlier s start zero p = false
earlier s start (suc j) p = earlier s start j p || eqb (long s (start + 15 * j)) p

pub earlier_none : (s : List ℕ) (start p : ℕ) → earlier s start 0 p ≡ false
unfolding earlier
earlier_none s start p = refl

pub earlier_not : (s : List ℕ) (start p i v : ℕ) → earlier s start i p ≡ false → v ≡ long s (start + 15 * i) → (v ≡ p → ⊥) → earlier s start (i + 1) p ≡ false
unfolding earlier
earlier_not s start p i v e h n = rw (add-one i, e, ← h, ne_eqb v p n)

pub earlier_all : (s : List ℕ) (start p i j : ℕ) → earlier s start i p ≡ false → i ≤ j → j ≤ i → earlier s start j p ≡ false
earlier_all s start p i j e h k = let z : j ≡ i = omega arith in rw z e

pub earlier_found : (s : List ℕ) (start p i v j : ℕ) → i < j → v ≡ long s (start + 15 * i) → v ≡ p → earlier s start j p ≡ true
unfolding earlier
earlier_found s start p i v zero l h e = absurd (omega arith)
earlier_found s start p i v (suc j) l h e = go (ℕ_discrete i j) (λ k. earlier_found s start p i v j k h e)
  where
    go : Dec (i ≡ j) → (i < j → earlier s start j p ≡ true) → (earlier s start j p || eqb (long s (start + 15 * j)) p) ≡ true
    go (yes q) ih = let z : eqb (long s (start + 15 * j)) p ≡ true = rw (← q, ← h, eq-eqb v p e) in rw z (or-true (earlier s start j p))
    go (no q) ih = rw (ih (omega arith))

abbrev next : List ℕ → List (List ℕ) → ℕ → List Criterion → ℕ → Out (Criterion × ℕ)
next s strs rows before = reading_criterion s strs rows (stands before)

pub record CritHead (s : List ℕ) (strs : List (List ℕ)) (rows n start at j : ℕ) : Type 0 where
  pub count : j ≤ n
  pub place : at ≡ start + 15 * j
  pub read : List Criterion
  pub so_far : reading_criteria s strs rows n start ≡ many (next s strs rows) (n - j) at read
  pub known : (p : ℕ) → stands read p ≡ earlier s start j p

module _ (s : List ℕ) (strs : List (List ℕ)) (rows n start : ℕ) where
  pub crit_first : CritHead s strs rows n start start 0
  unfolding reading_criteria earlier
  crit_first = record { count = omega arith; place = omega arith; read = []; so_far = rw sub-zero; known = λ p. refl }

  abbrev Read : Out ℕ → Type 0
  Read o = o ≡ ends (reading_criteria s strs rows n start)

  module _ (at j : ℕ) (hd : CritHead s strs rows n start at j) where
    pub crit_end : n ≤ j → Read (good at)
    crit_end h = sym (ap ends (hd.so_far ∙ many_end (next s strs rows) n j at hd.read h))

    module _ (l : j < n) where
      stop : (m q : ℕ) → next s strs rows hd.read at ≡ bad m q → Read (bad m q)
      stop m q h = sym (ap ends (hd.so_far ∙ many_bad (next s strs rows) n j at hd.read m q l h))

      pub crit_cut : (m q : ℕ) → bad m q ≡ u32 s at → Read (bad m q)
      unfolding reading_criterion
      crit_cut m q e = stop m q (rw (← e))

      module _ (p : ℕ) (e : good p ≡ u32 s at) where
        pub crit_repeat : earlier s start j p ≡ true → Read (bad 6 at)
        unfolding reading_criterion
        crit_repeat t = stop 6 at (rw (← e, hd.known p, t))

        module _ (t : earlier s start j p ≡ false) where
          after : next s strs rows hd.read at ≡ rest s strs rows (long s at) at
          unfolding reading_criterion
          after = rw (← e, hd.known p, t, (u32_inv s at p (sym e)).1)

          pub crit_bad : (m q : ℕ) → bad m q ≡ ends (rest s strs rows (long s at) at) → Read (bad m q)
          crit_bad m q h = stop m q (after ∙ ends_bad _ m q (sym h))

          pub crit_more : (v : ℕ) → good v ≡ ends (rest s strs rows (long s at) at) → CritHead s strs rows n start v (j + 1)
          unfolding earlier
          crit_more v h =
              let (c, q) = ends_inv (rest s strs rows (long s at) at) v (sym h) in
              let w = rest_stays s strs rows (long s at) at (c, v) q in
              record {
                count = omega arith;
                place = omega (arith, hd.place, w.1);
                read = hd.read ++ (c ∷ []);
                so_far = hd.so_far ∙ many_step (next s strs rows) n j at hd.read c v l (after ∙ q);
                known = λ x. stands_snoc hd.read c x ∙ rw (hd.known x, w.0, add-one j, hd.place);
              }

-- A scan forward keeps, as bits, the positions that may meet the next byte, and the longest part that has come to its end.
use mathlib.Core.Path.{◌≡◌, refl, sym, ap, ◌∙◌, subst, subst⁻¹}
use mathlib.Core.Bool.{Bool, true, false, not, ◌&&◌}
use mathlib.Core.List.{List, ◌∷◌}
use Prim.Native.Nat.{ℕ, zero, suc, ◌+◌, ◌-◌, ◌<◌, ◌≤◌}
use native.Mathlib.Omega.{arith}
use lib.Bits.{bit_and}
use lib.Dec.{T, eqb, ltb}
use lib.ListN.{length, get_or, drop, length-drop}
use borrow.Author.Tests.{ltb-true, ltb-false, eqb-true, eqb-false, eq-eqb, ne_eqb}
use Rattle.octets.specs.Bits.{bit}
use Rattle.octets.specs.Inner.Masks.{Below}
use Rattle.octets.specs.Lists.{empty}
use Rattle.octets.proofs.Bits.{bit_zero, bit_inside, below_wider, common, share}
use Rattle.octets.proofs.Tests.{T_of, not_T_of, is_true, both, left, right}
use Rattle.machine.specs.Inner.Machine.{Machine, first_mask, last_mask, has, machine_of, Closed, Stepped}
use Rattle.machine.specs.declared.Shape.{Shape}
use Rattle.machine.proofs.Places.{drop_at, empty_at}
use Rattle.machine.proofs.Scan.{met_has, has_met}
use Rattle.part.specs.Inner.Part.{Runs, runs_end, runs_on, Part, part_some, Longest, Turned}
use Rattle.part.proofs.Lengths.{starts_part, part_within, runs_one, runs_more, part_first}

-- ---- the positions behind a live one

-- whether q may come right after a live one
abbrev behind_live : List ℕ → ℕ → ℕ → Bool
behind_live before live q = not (eqb (bit_and (get_or before q 0) live) 0)

-- the mask has those, and no others
record After (size : ℕ) (before : List ℕ) (live r : ℕ) : Type 0 where
  is : (q : ℕ) → bit r q ≡ (ltb q size && behind_live before live q)

-- what a step by masks that are read the other way round gathers
gathered : (sets : List (List ℕ)) (size candidates b live next : ℕ) (before after : List ℕ) → Turned size before after → Stepped sets after candidates b 0 live next
    → After size before live next
gathered sets size candidates b live next before after t w = record { is = λ q. same (bit next q) (ltb q size && behind_live before live q) (to q) (from q) }
  where
    same : (a c : Bool) → (T a → T c) → (T c → T a) → a ≡ c
    same true c f g = sym (is_true c (f tt))
    same false true f g = absurd (g tt)
    same false false f g = refl

    to : (q : ℕ) → T (bit next q) → T (ltb q size && behind_live before live q)
    to q u =
        let p = w.back q u in
        let v : T (ltb q size && bit (get_or before q 0) p.0) = subst T (t.is p.0 q) p.2 in
        both (ltb q size) (behind_live before live q) (left (ltb q size) (bit (get_or before q 0) p.0) v)
        (share (get_or before q 0) live p.0 (right (ltb q size) (bit (get_or before q 0) p.0) v) p.1)

    from : (q : ℕ) → T (ltb q size && behind_live before live q) → T (bit next q)
    from q u =
        let c = common (get_or before q 0) live (right (ltb q size) (behind_live before live q) u) in
        w.forth q c.0 c.2
        (subst⁻¹ T (t.is c.0 q) (both (ltb q size) (bit (get_or before q 0) c.0) (left (ltb q size) (behind_live before live q) u) c.1))

-- ---- the loop

module _ (h : Shape) (sets : List (List ℕ)) (before : List ℕ) (text : List ℕ) (start : ℕ) where
  abbrev M : Machine
  M = machine_of h sets before

  abbrev a : Bool
  a = eqb start 0

  abbrev s : List ℕ
  s = drop start text

  -- The scan has come to i, k bytes behind the start. A longer part goes on from a candidate; `best` is the longest so far.
  pub record Forward (i candidates best : ℕ) : Type 0 where
    pub closed : Closed h before
    pub k : ℕ
    pub at : i ≡ start + k
    pub inside : i ≤ length text
    pub below : Below h.size candidates
    pub goes : (m : ℕ) → Part M a (k + suc m) s → (q : ℕ) × T (bit candidates q) × Runs M q (suc m) (drop i text)
    pub comes : (m q : ℕ) → T (bit candidates q) → Runs M q (suc m) (drop i text) → Part M a (k + suc m) s
    pub most : (n : ℕ) → n ≤ k → Part M a n s → n ≤ best
    pub found : (n : ℕ) → n ≤ k → Part M a n s → Part M a best s
    pub nonzero : (best ≡ 0 → ⊥) → Part M a best s

  pub forward_start : Closed h before → start ≤ length text → (candidates : ℕ) → candidates ≡ first_mask h a
      → Forward start candidates 0
  forward_start c l candidates e =
      subst⁻¹ (λ (x : ℕ). Forward start x 0) e
      (record {
        closed = c;
        k = 0;
        at = omega arith;
        inside = l;
        below = c.starts a;
        goes = λ m v. let z : 0 + suc m ≡ suc m = omega arith in part_first (subst (λ (n : ℕ). Part M a n s) z v);
        comes = λ m q t v. let z : 0 + suc m ≡ suc m = omega arith in subst⁻¹ (λ (n : ℕ). Part M a n s) z (part_some t v);
        most = λ n w v. w;
        found = λ n w v. let z : n ≡ 0 = omega arith in subst (λ (x : ℕ). Part M a x s) z v;
        nonzero = λ n. absurd (n refl);
      })

  pub forward_below : (i candidates best : ℕ) → Forward i candidates best → Below 60 candidates
  forward_below i candidates best f = below_wider h.size 60 candidates f.closed.few f.below

  pub forward_after : (i candidates best : ℕ) → Forward i candidates best → start ≤ i
  forward_after i candidates best f = let up : i ≡ start + f.k = f.at in omega arith

  module _ (i candidates best live candidates' : ℕ) (f : Forward i candidates best) (l : i < length text) (after : List ℕ) (turned : Turned h.size before after)
      (w : Stepped sets after candidates (get_or text i 0) 0 live candidates') where
    x : After h.size before live candidates'
    x = gathered sets h.size candidates (get_or text i 0) live candidates' before after turned w

    abbrev b : ℕ
    b = get_or text i 0

    here : drop i text ≡ b ∷ drop (i + 1) text
    here = drop_at text i l

    kept_is : (q : ℕ) → bit live q ≡ (bit candidates q && true && has sets q b)
    kept_is q = w.kept q ∙ ap (λ (t : Bool). bit candidates q && not t && has sets q b) (bit_zero q)

    live_of : (q : ℕ) → T (bit candidates q) → T (M.meets q b) → T (bit live q)
    live_of q c m = subst⁻¹ T (kept_is q) (both (bit candidates q && true) (has sets q b) (both (bit candidates q) true c tt) (met_has h.size sets q b m))

    live_candidate : (q : ℕ) → T (bit live q) → T (bit candidates q)
    live_candidate q t = left (bit candidates q) true (left (bit candidates q && true) (has sets q b) (subst T (kept_is q) t))

    live_meets : (q : ℕ) → T (bit live q) → T (M.meets q b)
    live_meets q t =
        has_met h.size sets q b (bit_inside h.size candidates q f.below (live_candidate q t))
        (right (bit candidates q && true) (has sets q b) (subst T (kept_is q) t))

    below_now : Below h.size candidates'
    below_now p past = x.is p ∙ ap (λ (t : Bool). t && behind_live before live p) (go (ltb p h.size) refl)
      where
        go : (t : Bool) → ltb p h.size ≡ t → t ≡ false
        go true e = let z : p < h.size = ltb-true p h.size e in absurd (omega arith)
        go false e = refl

    -- a position that may come right after a live one is a candidate
    follows_live : (p q : ℕ) → T (bit live p) → T (M.follow p q) → T (bit candidates' q)
    follows_live p q v f =
        subst⁻¹ T (x.is q)
        (both (ltb q h.size) (behind_live before live q) (left (ltb q h.size) (bit (get_or before q 0) p) f)
        (share (get_or before q 0) live p (right (ltb q h.size) (bit (get_or before q 0) p) f) v))

    goes_now : (m : ℕ) → Part M a (f.k + 1 + suc m) s → (q : ℕ) × T (bit candidates' q) × Runs M q (suc m) (drop (i + 1) text)
    goes_now m v =
        let z : f.k + 1 + suc m ≡ f.k + suc (suc m) = omega arith in
        let g = f.goes (suc m) (subst (λ (n : ℕ). Part M a n s) z v) in
        let r = runs_more (subst (λ (t : List ℕ). Runs M g.0 (suc (suc m)) t) here g.2) in
        (r.1.0, follows_live g.0 r.1.0 (live_of g.0 g.1 r.0) r.1.1, r.1.2)

    comes_now : (m q : ℕ) → T (bit candidates' q) → Runs M q (suc m) (drop (i + 1) text) → Part M a (f.k + 1 + suc m) s
    comes_now m q t v =
        let z : f.k + 1 + suc m ≡ f.k + suc (suc m) = omega arith in
        let u : T (ltb q h.size && behind_live before live q) = subst T (x.is q) t in
        let own = left (ltb q h.size) (behind_live before live q) u in
        let c = common (get_or before q 0) live (right (ltb q h.size) (behind_live before live q) u) in
        subst⁻¹ (λ (n : ℕ). Part M a n s) z
        (f.comes (suc m) c.0 (live_candidate c.0 c.2)
        (subst⁻¹ (λ (t : List ℕ). Runs M c.0 (suc (suc m)) t) here
        (runs_on (live_meets c.0 c.2) (both (ltb q h.size) (bit (get_or before q 0) c.0) own c.1) v)))

    -- ---- whether a part ends here

    module _ (last : ℕ) (z : last ≡ last_mask h (eqb (i + 1) (length text))) where
      abbrev ends : Bool
      ends = not (eqb (bit_and last live) 0)

      last_is : last ≡ last_mask h (empty (drop (i + 1) text))
      last_is = z ∙ ap (last_mask h) (sym (empty_at text (i + 1) (omega arith)))

      ends_part : T ends → Part M a (f.k + 1) s
      ends_part t =
          let c = common last live t in
          f.comes zero c.0 (live_candidate c.0 c.2)
          (subst⁻¹ (λ (t : List ℕ). Runs M c.0 (suc zero) t) here
          (runs_end (live_meets c.0 c.2) (subst (λ (n : ℕ). T (bit n c.0)) last_is c.1)))

      part_ends : Part M a (f.k + 1) s → T ends
      part_ends v =
          let g = f.goes zero v in
          let r = runs_one (subst (λ (t : List ℕ). Runs M g.0 (suc zero) t) here g.2) in
          share last live g.0 (subst⁻¹ (λ (n : ℕ). T (bit n g.0)) last_is r.1) (live_of g.0 g.1 r.0)

      pub forward_hit : (bit_and last live ≡ 0 → ⊥) → Forward (i + 1) candidates' (i + 1 - start)
      forward_hit e =
          let up : i ≡ start + f.k = f.at in
          let d : f.k + 1 ≡ i + 1 - start = omega arith in
          let now : Part M a (i + 1 - start) s = subst (λ (r : ℕ). Part M a r s) d (ends_part (T_of (ap not (ne_eqb (bit_and last live) 0 e)))) in
          record {
            closed = f.closed;
            k = f.k + 1;
            at = omega arith;
            inside = omega arith;
            below = below_now;
            goes = goes_now;
            comes = comes_now;
            most = λ n j v. omega arith;
            found = λ n j v. now;
            nonzero = λ n. now;
          }

      pub forward_miss : bit_and last live ≡ 0 → Forward (i + 1) candidates' best
      forward_miss e =
          let up : i ≡ start + f.k = f.at in
          record {
            closed = f.closed;
            k = f.k + 1;
            at = omega arith;
            inside = omega arith;
            below = below_now;
            goes = goes_now;
            comes = comes_now;
            most = λ n j v. f.most n (shorter n j v (eqb n (f.k + 1)) refl) v;
            found = λ n j v. f.found n (shorter n j v (eqb n (f.k + 1)) refl) v;
            nonzero = f.nonzero;
          }
        where
          shorter : (n : ℕ) → n ≤ f.k + 1 → Part M a n s → (t : Bool) → eqb n (f.k + 1) ≡ t → n ≤ f.k
          shorter n j v true q =
              let y : n ≡ f.k + 1 = eqb-true n (f.k + 1) q in
              absurd (not_T_of (ap not (eq-eqb (bit_and last live) 0 e)) (part_ends (subst (λ (r : ℕ). Part M a r s) y v)))
          shorter n j v false q = let y = eqb-false n (f.k + 1) q in omega arith

  -- no part is longer where there is no candidate
  pub forward_stop : (i candidates best : ℕ) → Forward i candidates best → candidates ≡ 0 → Longest M a s best
  forward_stop i candidates best f e =
      record {
        most = λ n v. f.most n (short n v (ltb f.k n) refl) v;
        found = λ v. let p = starts_part v in f.found p.0 (short p.0 p.1 (ltb f.k p.0) refl) p.1;
        nonzero = f.nonzero;
      }
    where
      short : (n : ℕ) → Part M a n s → (t : Bool) → ltb f.k n ≡ t → n ≤ f.k
      short n v true q =
          let l : f.k < n = ltb-true f.k n q in
          let z : n ≡ f.k + suc (n - f.k - 1) = omega arith in
          let g = f.goes (n - f.k - 1) (subst (λ (r : ℕ). Part M a r s) z v) in
          absurd (not_T_of (ap (λ (c : ℕ). bit c g.0) e ∙ bit_zero g.0) g.1)
      short n v false q = ltb-false f.k n q

  pub forward_all : (i candidates best : ℕ) → Forward i candidates best → length text ≤ i → Longest M a s best
  forward_all i candidates best f l =
      let up : i ≡ start + f.k = f.at in
      let in_text : i ≤ length text = f.inside in
      record {
        most = λ n v. f.most n (short n (part_within v)) v;
        found = λ v. let p = starts_part v in f.found p.0 (short p.0 (part_within p.1)) p.1;
        nonzero = f.nonzero;
      }
    where
      short : (n : ℕ) → n ≤ length s → n ≤ f.k
      short n w = let up : i ≡ start + f.k = f.at in let e = length-drop start text in omega arith

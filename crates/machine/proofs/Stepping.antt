-- One byte of the scan: the candidates are taken one by one, the lowest first.
use mathlib.Core.Path.{◌≡◌, refl, sym, ap, ap₂, ◌∙◌, subst, subst⁻¹}
use mathlib.Core.Bool.{Bool, true, false, not, ◌&&◌, ◌||◌, or-false, and-true, and-false, true≢false}
use mathlib.Core.List.{List, []}
use Prim.Native.Nat.{ℕ, ◌*◌, ◌-◌, ◌%◌, ◌^◌, ◌<◌}
use native.Mathlib.Nat.{lt_trans}
use lib.Bits.{bit_and, bit_or, bit_xor}
use lib.Count.{count_trailing_zeros}
use lib.Dec.{T, eqb, eqb→eq, eqb_refl}
use lib.ListN.{get_or}
use borrow.Author.Tests.{eqb-true}
use Rattle.octets.specs.Bits.{bit}
use Rattle.octets.specs.Inner.Masks.{Below}
use Rattle.octets.proofs.Bits.{bit_zero, bit_of_or, bit_inside, bit_add, bit_drop, drop_lt, lowest_set, lowest_drop, bit_below, shl_one}
use Rattle.octets.proofs.Tests.{T_of, not_T_of, is_true, both, left, or_left, or_right, or_cases}
use Rattle.machine.specs.Inner.Machine.{has, Stepped, SomeMet}

-- ---- the candidates, one by one

module _ (sets : List (List ℕ)) (before : List ℕ) (candidates b : ℕ) where
  pub record Stepping (rest live next : ℕ) : Type 0 where
    pub fits : rest < 2 ^ 64
    pub among : (k : ℕ) → T (bit rest k) → T (bit candidates k)
    pub done : Stepped sets before candidates b rest live next

  pub step_none : candidates < 2 ^ 64 → Stepping candidates 0 0
  step_none h =
      record {
        fits = h;
        among = λ k t. t;
        done =
            record {
              kept = λ k. bit_zero k ∙ sym (none_taken (bit candidates k) (has sets k b));
              back = λ p t. absurd (not_T_of (bit_zero p) t);
              forth = λ p q t u. absurd (not_T_of (bit_zero q) t);
            };
      }
    where
      none_taken : (c m : Bool) → (c && not c && m) ≡ false
      none_taken true m = refl
      none_taken false m = refl

  pub step_all : (rest live next : ℕ) → Stepping rest live next → rest ≡ 0 → Stepped sets before candidates b 0 live next
  step_all rest live next s e = subst (λ (n : ℕ). Stepped sets before candidates b n live next) e s.done

  -- the lowest candidate p that is left is taken
  module _ (rest live next : ℕ) (s : Stepping rest live next) (n : rest ≡ 0 → ⊥) (p : ℕ) (e : p ≡ count_trailing_zeros 64 rest) where
    set_at : bit rest p ≡ true
    set_at = ap (bit rest) e ∙ lowest_set 64 rest s.fits n

    pub lowest_lt : p < 64
    lowest_lt = bit_below 64 rest p s.fits set_at

    abbrev rest' : ℕ
    rest' = bit_and rest (rest - 1)

    shifted : 1 * 2 ^ p % 2 ^ 64 ≡ 2 ^ p
    shifted = shl_one 64 p lowest_lt

    without : rest' ≡ bit_xor rest (2 ^ p)
    without = lowest_drop 64 rest p s.fits n e

    taken : (k : ℕ) → bit rest' k ≡ (bit rest k && not (eqb k p))
    taken k = ap (λ (m : ℕ). bit m k) without ∙ bit_drop rest p k set_at

    pub step_less : rest' < rest
    step_less = subst⁻¹ (λ (m : ℕ). m < rest) without (drop_lt rest p set_at)

    step_fits : rest' < 2 ^ 64
    step_fits = lt_trans step_less s.fits

    step_among : (k : ℕ) → T (bit rest' k) → T (bit candidates k)
    step_among k t = s.among k (left (bit rest k) (not (eqb k p)) (subst T (taken k) t))

    lowest_candidate : T (bit candidates p)
    lowest_candidate = s.among p (T_of set_at)

    pub lowest_below : Below 60 candidates → p < 60
    lowest_below few = bit_inside 60 candidates p few lowest_candidate

    -- p was a candidate, and is now no longer left
    module _ (m : Bool) (mp : has sets p b ≡ m) where
      kept_turn : (k : ℕ) (t : Bool) → eqb k p ≡ t → ((bit candidates k && not (bit rest k) && has sets k b) || (t && m)) ≡ (bit candidates k && not (bit rest k && not t) && has sets k b)
      kept_turn k true q =
          let z : k ≡ p = eqb-true k p q in
          let r : bit rest k ≡ true = ap (bit rest) z ∙ set_at in
          let c : bit candidates k ≡ true = is_true (bit candidates k) (s.among k (T_of r)) in
          let f : has sets k b ≡ m = ap (λ (j : ℕ). has sets j b) z ∙ mp in
          ap₂ (λ (a : Bool) (d : Bool). (bit candidates k && not a && d) || m) r f
          ∙ ap (λ (a : Bool). (a && false && m) || m) c
          ∙ sym (ap₂ (λ (a : Bool) (d : Bool). bit candidates k && not (a && false) && d) r f ∙ ap (λ (a : Bool). a && true && m) c)
      kept_turn k false q =
          or-false (bit candidates k && not (bit rest k) && has sets k b)
          ∙ ap (λ (a : Bool). bit candidates k && not a && has sets k b) (sym (and-true (bit rest k)))

      kept_now : (k : ℕ) → (bit live k || (eqb k p && m)) ≡ (bit candidates k && not (bit rest' k) && has sets k b)
      kept_now k =
          ap (λ (a : Bool). a || (eqb k p && m)) (s.done.kept k) ∙ kept_turn k (eqb k p) refl
          ∙ ap (λ (a : Bool). bit candidates k && not a && has sets k b) (sym (taken k))

    pub step_skip : has sets p b ≡ false → Stepping rest' live next
    step_skip mp =
        record {
          fits = step_fits;
          among = step_among;
          done =
              record {
                kept = λ k. sym (or-false (bit live k)) ∙ ap (λ (a : Bool). bit live k || a) (sym (and-false (eqb k p))) ∙ kept_now false mp k;
                back = s.done.back;
                forth = s.done.forth;
              };
        }

    abbrev live' : ℕ
    live' = bit_or live (1 * 2 ^ p % 2 ^ 64)

    live_bit : (k : ℕ) → bit live' k ≡ (bit live k || eqb k p)
    live_bit k = ap (λ (m : ℕ). bit (bit_or live m) k) shifted ∙ bit_add live p k

    pub step_keep : has sets p b ≡ true → Stepping rest' live' (bit_or next (get_or before p 0))
    step_keep mp =
        record {
          fits = step_fits;
          among = step_among;
          done =
              record {
                kept = λ k. live_bit k ∙ ap (λ (a : Bool). bit live k || a) (sym (and-true (eqb k p))) ∙ kept_now true mp k;
                back = λ r t. back_now r (subst T (bit_of_or next (get_or before p 0) r) t);
                forth = λ r q t u. subst⁻¹ T (bit_of_or next (get_or before p 0) r) (forth_now r q (subst T (live_bit q) t) u);
              };
        }
      where
        back_now : (r : ℕ) → T (bit next r || bit (get_or before p 0) r) → (q : ℕ) × T (bit live' q) × T (bit (get_or before q 0) r)
        back_now r t =
            or_cases (bit next r) (bit (get_or before p 0) r) t
            (λ u. let b = s.done.back r u in (b.0, subst⁻¹ T (live_bit b.0) (or_left (bit live b.0) (eqb b.0 p) b.1), b.2))
            (λ u. (p, subst⁻¹ T (live_bit p) (or_right (bit live p) (eqb p p) (eqb_refl p)), u))

        forth_now : (r q : ℕ) → T (bit live q || eqb q p) → T (bit (get_or before q 0) r) → T (bit next r || bit (get_or before p 0) r)
        forth_now r q t u =
            or_cases (bit live q) (eqb q p) t
            (λ v. or_left (bit next r) (bit (get_or before p 0) r) (s.done.forth r q v u))
            (λ v. or_right (bit next r) (bit (get_or before p 0) r) (subst (λ (k : ℕ). T (bit (get_or before k 0) r)) (eqb→eq q p v) u))

-- ---- whether one of them meets the byte: none of those that were taken does, and so none is live

module _ (sets : List (List ℕ)) (candidates b : ℕ) where
  pub met_some : (rest : ℕ) (s : Stepping sets [] candidates b rest 0 0) (n : rest ≡ 0 → ⊥) (p : ℕ) → p ≡ count_trailing_zeros 64 rest → has sets p b ≡ true
      → SomeMet sets candidates b true
  met_some rest s n p e m =
      record { yes = λ q. (p, lowest_candidate sets [] candidates b rest 0 0 s n p e, T_of m); no = λ q. absurd (true≢false q) }

  pub met_none : (rest : ℕ) → Stepping sets [] candidates b rest 0 0 → rest ≡ 0 → SomeMet sets candidates b false
  met_none rest s e =
      let all = step_all sets [] candidates b rest 0 0 s e in
      record {
        yes = λ q. absurd (true≢false (sym q));
        no = λ q p c m.
            not_T_of (sym (all.kept p ∙ ap (λ (t : Bool). bit candidates p && not t && has sets p b) (bit_zero p)) ∙ bit_zero p)
            (both (bit candidates p && true) (has sets p b) (both (bit candidates p) true c tt) m);
      }

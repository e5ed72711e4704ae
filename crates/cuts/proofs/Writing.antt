-- Lent places that are filled from the front: n of the numbers to write are written over what stood there.
use mathlib.Core.Path.{◌≡◌, refl, sym, ap, ◌∙◌}
use mathlib.Core.List.{List, [], ◌∷◌, ◌++◌, append-nil}
use Prim.Native.Nat.{ℕ, suc, ◌+◌, ◌≤◌, ◌<◌}
use native.Mathlib.Numerals.{add-one}
use native.Mathlib.Omega.{arith}
use lib.ListN.{length, get_or, drop, set, length-append, length-drop}
use lib.Seq.{drop-cons, set_at, append_snoc}

-- of `all` the rest is still to come; d stood there before, e stands there now
pub record Written (all d e : List ℕ) (n : ℕ) (rest : List ℕ) : Type 0 where
  pub out : List ℕ
  pub holds : e ≡ out ++ drop n d
  pub long : length out ≡ n
  pub same : out ++ rest ≡ all

pub written_start : (all d : List ℕ) → Written all d d 0 all
written_start all d = record { out = []; holds = refl; long = refl; same = refl }

-- the next number is written
pub written_put : {all d e : List ℕ} {n x : ℕ} {rest : List ℕ} → Written all d e n (x ∷ rest) → n < length d → Written all d (set e n x) (n + 1) rest
written_put {all} {d} {e} {n} {x} {rest} w inside = record {
  out = w.out ++ (x ∷ []);
  holds =
      ap (λ (l : List ℕ). set l n x) (w.holds ∙ ap (λ (l : List ℕ). w.out ++ l) (drop-cons d n 0 inside))
      ∙ set_at w.out (get_or d n 0) (drop (suc n) d) x n w.long
      ∙ ap (λ (i : ℕ). w.out ++ x ∷ drop i d) (sym (add-one n))
      ∙ sym (append_snoc w.out x (drop (n + 1) d));
  long = length-append w.out (x ∷ []) ∙ ap (λ (i : ℕ). i + 1) w.long;
  same = append_snoc w.out x rest ∙ w.same;
}

-- all is written
pub written_end : {all d e : List ℕ} {n : ℕ} → Written all d e n [] → e ≡ all ++ drop n d
written_end {all} {d} {e} {n} w = w.holds ∙ ap (λ (l : List ℕ). l ++ drop n d) (sym (append-nil w.out) ∙ w.same)

pub written_count : {all d e : List ℕ} {n : ℕ} → Written all d e n [] → n ≡ length all
written_count w = sym w.long ∙ ap length (sym (append-nil w.out) ∙ w.same)

-- the place keeps its length
pub written_length : {all d e : List ℕ} {n : ℕ} {rest : List ℕ} → Written all d e n rest → n ≤ length d → length e ≡ length d
written_length {all} {d} {e} {n} w inside = omega (arith, ap length w.holds, length-append w.out (drop n d), w.long, length-drop n d)

-- The lines of the head by place: the field at a place with its folds, and the fields after it.
use mathlib.Core.Bool.{Bool, true, false, not}
use mathlib.Core.Path.{◌≡◌, refl, sym, ap, ◌∙◌, subst}
use mathlib.Core.List.{List, [], ◌∷◌}
use Prim.Native.Nat.{ℕ, suc, ◌+◌, ◌-◌, ◌≤◌, ◌<◌}
use native.Mathlib.Nat.{suc-add}
use native.Mathlib.Omega.{arith}
use lib.ListN.{length, get_or, take, drop}
use lib.Dec.{T, eqb}
use lib.Seq.{drop-drop}
use borrow.Author.Tests.{ne_eqb, eqb-false}
use Rattle.octets.specs.Bytes.{white}
use Rattle.octets.specs.Lists.{pick, only}
use Rattle.octets.proofs.Tests.{test_cases}
use Rattle.cuts.specs.Cutting.{push, cut_by, cut_at}
use Rattle.cuts.specs.Inner.Parts.{part}
use Rattle.cuts.specs.Inner.Searching.{first}
use Rattle.cuts.proofs.Search.{first_yes, first_no}
use Rattle.cuts.proofs.From as F
use Rattle.request.specs.Request.{paired, head_lines, continues, attach, whole_fields}
use Rattle.request.specs.Inner.Steps.{line_break, lines_from}
use Rattle.request.proofs.Head.{Pairs, pairs_end, pairs_byte, pairs_fold, pairs, pairs_paired}

abbrev whole : List ℕ → List (List ℕ)
whole h = whole_fields (head_lines h)

-- ---- one byte or one fold more

pub lines_byte : (b : ℕ) (s : List ℕ) → eqb b 13 ≡ false → eqb b 10 ≡ false → head_lines (b ∷ s) ≡ push b (head_lines s)
unfolding cut_by
lines_byte b s e f =
    let kept : List ℕ = only (λ (x : ℕ). not (eqb x 13)) s in
    ap (λ (t : Bool). cut_at 10 (pick (not t) (b ∷ kept) kept)) e
    ∙ ap (λ (t : Bool). pick t ([] ∷ cut_at 10 kept) (push b (cut_at 10 kept))) f

lines_fold : (s : List ℕ) → head_lines (13 ∷ 10 ∷ s) ≡ [] ∷ head_lines s
unfolding cut_by
lines_fold s = refl

continues_push : (b : ℕ) (ls : List (List ℕ)) → continues (push b ls) ≡ white b
continues_push b [] = refl
continues_push b (l ∷ ls) = refl

-- whether a line continues the one before shows at its first byte
pub continues_at : {s : List ℕ} → Pairs s → continues (head_lines s) ≡ white (get_or s 0 0)
unfolding cut_by
continues_at pairs_end = refl
continues_at (pairs_byte {b} {s} e f p) = ap continues (lines_byte b s e f) ∙ continues_push b (head_lines s)
continues_at (pairs_fold p) = refl

attach_push : (b : ℕ) (l : List ℕ) (later : List (List ℕ)) → attach (b ∷ l) later ≡ push b (attach l later)
attach_push b l [] = refl
attach_push b l (x ∷ xs) = refl

pick_push : (b : ℕ) (l : List ℕ) (later : List (List ℕ)) (t : Bool) → pick t (attach (b ∷ l) later) ((b ∷ l) ∷ later) ≡ push b (pick t (attach l later) (l ∷ later))
pick_push b l later true = attach_push b l later
pick_push b l later false = refl

whole_push : (b : ℕ) (ls : List (List ℕ)) → whole_fields (push b ls) ≡ push b (whole_fields ls)
unfolding whole_fields
whole_push b [] = refl
whole_push b (l ∷ ls) = pick_push b l (whole_fields ls) (continues ls)

-- ---- the first line

pub from_suc : (b : ℕ) (s : List ℕ) (p : ℕ) → lines_from (b ∷ s) (suc p) ≡ lines_from s p
unfolding lines_from
from_suc = F.from_suc whole

pub from_start : (s : List ℕ) → lines_from s 0 ≡ whole s
unfolding lines_from
from_start = F.from_start whole

from_drop : (s : List ℕ) (p q : ℕ) → p ≤ length s → lines_from (drop p s) q ≡ lines_from s (p + q)
unfolding lines_from
from_drop = F.from_drop whole

abbrev brk : List ℕ → ℕ
brk s = first line_break s

-- the first line with its folds, the lines after it, and their bytes
pub record Splits (s : List ℕ) : Type 0 where
  pub lines : whole s ≡ take (brk s) s ∷ lines_from s (brk s + 2)
  pub rest : Pairs (drop (brk s + 2) s)

no_break_byte : (b : ℕ) (s : List ℕ) → eqb b 13 ≡ false → line_break (b ∷ s) ≡ false
no_break_byte b s e = rw (ne_eqb 13 b (λ q. eqb-false b 13 e (sym q)))

splits_byte : (b : ℕ) (s : List ℕ) → eqb b 13 ≡ false → eqb b 10 ≡ false → Splits s → Splits (b ∷ s)
splits_byte b s e f h =
    let k = brk s in
    let k_is : brk (b ∷ s) ≡ suc k = first_no line_break b s (no_break_byte b s e) in
    let next : suc k + 2 ≡ suc (k + 2) = suc-add k 2 in
    record {
      lines =
          ap whole_fields (lines_byte b s e f) ∙ whole_push b (head_lines s) ∙ ap (push b) h.lines
          ∙ ap (λ (ls : List (List ℕ)). (b ∷ take k s) ∷ ls) (sym (from_suc b s (k + 2)) ∙ ap (lines_from (b ∷ s)) (sym next))
          ∙ sym (ap (λ (j : ℕ). take j (b ∷ s) ∷ lines_from (b ∷ s) (j + 2)) k_is);
      rest = subst (λ (j : ℕ). Pairs (drop j (b ∷ s))) (sym next ∙ sym (ap (λ (j : ℕ). j + 2) k_is)) h.rest;
    }

module _ (s : List ℕ) (p : Pairs s) (h : Splits s) where
  abbrev fold : List ℕ
  fold = 13 ∷ 10 ∷ s

  fold_whole : (t : Bool) → white (get_or s 0 0) ≡ t → whole fold ≡ pick t (attach [] (whole s)) ([] ∷ whole s)
  unfolding whole_fields
  fold_whole t e = ap whole_fields (lines_fold s) ∙ ap (λ (u : Bool). pick u (attach [] (whole s)) ([] ∷ whole s)) (continues_at p ∙ e)

  -- a line that does not continue this one follows
  splits_break : white (get_or s 0 0) ≡ false → Splits fold
  splits_break e =
      let k_is : brk fold ≡ 0 = first_yes line_break 13 (10 ∷ s) (ap not e) in
      let two : lines_from fold 2 ≡ whole s = from_suc 13 (10 ∷ s) 1 ∙ from_suc 10 s 0 ∙ from_start s in
      record {
        lines = fold_whole false e ∙ ap (λ (ls : List (List ℕ)). [] ∷ ls) (sym two) ∙ sym (ap (λ (j : ℕ). take j fold ∷ lines_from fold (j + 2)) k_is);
        rest = subst (λ (j : ℕ). Pairs (drop j fold)) (sym (ap (λ (j : ℕ). j + 2) k_is)) p;
      }

  -- a fold
  splits_fold : white (get_or s 0 0) ≡ true → Splits fold
  splits_fold e =
      let k = brk s in
      let k_is : brk fold ≡ suc (suc k) = first_no line_break 13 (10 ∷ s) (ap not e) ∙ ap suc (first_no line_break 10 s refl) in
      let next : suc (suc k) + 2 ≡ suc (suc (k + 2)) = suc-add (suc k) 2 ∙ ap suc (suc-add k 2) in
      record {
        lines =
            fold_whole true e ∙ ap (attach []) h.lines
            ∙ ap (λ (ls : List (List ℕ)). (13 ∷ 10 ∷ take k s) ∷ ls) (sym (from_suc 10 s (k + 2)) ∙ sym (from_suc 13 (10 ∷ s) (suc (k + 2))) ∙ ap (lines_from fold) (sym next))
            ∙ sym (ap (λ (j : ℕ). take j fold ∷ lines_from fold (j + 2)) k_is);
        rest = subst (λ (j : ℕ). Pairs (drop j fold)) (sym next ∙ sym (ap (λ (j : ℕ). j + 2) k_is)) h.rest;
      }

pub splits : {s : List ℕ} → Pairs s → Splits s
unfolding cut_by whole_fields lines_from first
splits pairs_end = record { lines = refl; rest = pairs_end }
splits (pairs_byte {b} {s} e f p) = splits_byte b s e f (splits p)
splits (pairs_fold {s} p) = test_cases (white (get_or s 0 0)) (splits_fold s p (splits p)) (splits_break s p (splits p))

-- ---- the line at a place

-- the line at p ends at e, and the next one starts two bytes after it
module _ (h : List ℕ) (p e : ℕ) (inside : p ≤ length h) (right : T (paired 0 (drop p h))) (e_is : e ≡ p + first line_break (drop p h)) where
  here : Splits (drop p h)
  here = splits (pairs (drop p h) right)

  pub line_here : lines_from h p ≡ part h p e ∷ lines_from h (e + 2)
  unfolding lines_from
  line_here =
      let k = brk (drop p h) in
      let on : p + (k + 2) ≡ e + 2 = omega arith in
      let long : k ≡ e - p = omega arith in
      F.from_here whole h p inside ∙ here.lines
      ∙ ap (λ (ls : List (List ℕ)). take k (drop p h) ∷ ls) (from_drop h p (k + 2) inside ∙ ap (lines_from h) on)
      ∙ ap (λ (j : ℕ). take j (drop p h) ∷ lines_from h (e + 2)) long

  pub line_next : T (paired 0 (drop (e + 2) h))
  line_next =
      let k = brk (drop p h) in
      let on : p + (k + 2) ≡ e + 2 = omega arith in
      pairs_paired (subst Pairs (drop-drop (k + 2) p h ∙ ap (λ (j : ℕ). drop j h) on) here.rest)

pub line_past : (h : List ℕ) (p : ℕ) → length h < p → lines_from h p ≡ []
unfolding lines_from
line_past = F.from_past whole

-- The reduced value byte by byte: one pass instead of spaces, squeezed and trimmed at both ends.
use mathlib.Core.Bool.{Bool, true, false, ◌&&◌, ◌||◌, or-false}
use mathlib.Core.Path.{◌≡◌, refl, sym, ap, ◌∙◌, subst}
use mathlib.Core.List.{List, [], ◌∷◌, ◌++◌}
use Prim.Native.Nat.{ℕ, suc, ◌+◌, ◌≤◌, ◌<◌, zero-le}
use native.Mathlib.Nat.{le_trans, le_of_eq}
use native.Mathlib.Numerals.{add-one}
use native.Mathlib.Omega.{arith}
use lib.ListN.{length, get_or, drop, set, drop_of_length-le}
use lib.Seq.{drop-cons}
use lib.Dec.{eqb, ltb}
use borrow.Author.Tests.{eqb-true, lt-ltb}
use Rattle.octets.specs.Bytes.{white}
use Rattle.octets.specs.Lists.{pick, some_of, empty, peek}
use Rattle.octets.proofs.Tests.{test_cases, or_neither}
use Rattle.cuts.specs.Inner.Parts.{over}
use Rattle.cuts.specs.Trimming.{trim_left, trim_right}
use Rattle.cuts.proofs.Writing.{Written, written_start, written_put, written_end, written_count, written_length}
use Rattle.contents.specs.Inner.Steps.{space}
use Rattle.contents.specs.Values.{spaces, squeeze, reduced}

-- ---- bytes

in_turn : (a b c d : Bool) → (a || b || c || d) ≡ (a || (b || (c || (d || false))))
in_turn true b c d = refl
in_turn false true c d = refl
in_turn false false true d = refl
in_turn false false false d = sym (or-false d)

pub space_is : (b : ℕ) → (eqb b 32 || eqb b 9 || eqb b 10 || eqb b 13) ≡ space b
space_is b = in_turn (eqb b 32) (eqb b 9) (eqb b 10) (eqb b 13)

-- what `spaces` makes of a byte
abbrev spaced : ℕ → ℕ
spaced b = pick (some_of (eqb b) (9 ∷ 10 ∷ 13 ∷ [])) 32 b

is_spaced : (b : ℕ) → space b ≡ true → spaced b ≡ 32
is_spaced b e =
    test_cases (some_of (eqb b) (9 ∷ 10 ∷ 13 ∷ []))
    (λ y. ap (λ (t : Bool). pick t 32 b) y)
    (λ n. ap (λ (t : Bool). pick t 32 b) n ∙ eqb-true b 32 (sym (or-false (eqb b 32)) ∙ ap (λ (t : Bool). eqb b 32 || t) (sym n) ∙ e))

-- a byte that stays
record Stays (b : ℕ) : Type 0 where
  kept : spaced b ≡ b
  no_sp : eqb b 32 ≡ false
  not_white : white b ≡ false

stays : (b : ℕ) → space b ≡ false → Stays b
stays b e =
    let k = or_neither (eqb b 32) (some_of (eqb b) (9 ∷ 10 ∷ 13 ∷ [])) e in
    record {
      kept = ap (λ (t : Bool). pick t 32 b) k.1;
      no_sp = k.0;
      not_white = rw (k.0, (or_neither (eqb b 9) (eqb b 10 || (eqb b 13 || false)) k.1).0);
    }

-- ---- the pass

-- begun: a byte was kept before; gap: white space stands between it and here
unfoldable pub norm : Bool → Bool → List ℕ → List ℕ
norm begun gap [] = []
norm begun gap (b ∷ s) = pick (space b) (norm begun begun s) (pick gap (32 ∷ b ∷ norm true false s) (b ∷ norm true false s))

pub norm_space : (begun gap : Bool) (b : ℕ) (s : List ℕ) → space b ≡ true → norm begun gap (b ∷ s) ≡ norm begun begun s
unfolding norm
norm_space begun gap b s e = ap (λ (t : Bool). pick t (norm begun begun s) (pick gap (32 ∷ b ∷ norm true false s) (b ∷ norm true false s))) e

pub norm_text : (begun gap : Bool) (b : ℕ) (s : List ℕ) → space b ≡ false → norm begun gap (b ∷ s) ≡ pick gap (32 ∷ b ∷ norm true false s) (b ∷ norm true false s)
unfolding norm
norm_text begun gap b s e = ap (λ (t : Bool). pick t (norm begun begun s) (pick gap (32 ∷ b ∷ norm true false s) (b ∷ norm true false s))) e

-- ---- squeezed

abbrev squeezed : List ℕ → List ℕ
squeezed s = squeeze (spaces s)

-- one SP more in front
squeeze_sp : (z : List ℕ) → squeeze (32 ∷ z) ≡ pick (eqb (peek (squeeze z)) 32) (squeeze z) (32 ∷ squeeze z)
unfolding squeeze
squeeze_sp z = refl

squeeze_text : (b : ℕ) (z : List ℕ) → eqb b 32 ≡ false → squeeze (b ∷ z) ≡ b ∷ squeeze z
unfolding squeeze
squeeze_text b z e = ap (λ (t : Bool). pick (t && eqb (peek (squeeze z)) 32) (squeeze z) (b ∷ squeeze z)) e

peek_by : (q : List ℕ) (t : Bool) → eqb (peek q) 32 ≡ t → eqb (peek (pick t q (32 ∷ q))) 32 ≡ true
peek_by q true e = e
peek_by q false e = refl

squeeze_twice : (z : List ℕ) → squeeze (32 ∷ 32 ∷ z) ≡ squeeze (32 ∷ z)
squeeze_twice z =
    let first : eqb (peek (squeeze (32 ∷ z))) 32 ≡ true = ap (λ (l : List ℕ). eqb (peek l) 32) (squeeze_sp z) ∙ peek_by (squeeze z) (eqb (peek (squeeze z)) 32) refl in
    squeeze_sp (32 ∷ z) ∙ ap (λ (t : Bool). pick t (squeeze (32 ∷ z)) (32 ∷ squeeze (32 ∷ z))) first

trim_text : (b : ℕ) (q : List ℕ) → white b ≡ false → trim_right (b ∷ q) ≡ b ∷ trim_right q
unfolding trim_right
trim_text b q e = ap (λ (t : Bool). pick (t && empty (trim_right q)) [] (b ∷ trim_right q)) e

left_text : (b : ℕ) (q : List ℕ) → white b ≡ false → trim_left (b ∷ q) ≡ b ∷ q
unfolding trim_left
left_text b q e = ap (λ (t : Bool). pick t (trim_left q) (b ∷ q)) e

-- an SP in front goes with the white space on the left
left_by : (q : List ℕ) → trim_left (pick (empty q) [] (32 ∷ q)) ≡ trim_left q
unfolding trim_left
left_by [] = refl
left_by (b ∷ q) = refl

left_sp : (q : List ℕ) (t : Bool) → trim_left (trim_right (pick t q (32 ∷ q))) ≡ trim_left (trim_right q)
unfolding trim_right
left_sp q true = refl
left_sp q false = left_by (trim_right q)

-- ---- the pass gives the reduced value

-- what the pass gives in each state
abbrev after_text : List ℕ → List ℕ
after_text s = trim_right (squeezed s)

abbrev after_gap : List ℕ → List ℕ
after_gap s = trim_right (squeeze (32 ∷ spaces s))

spaces_space : (b : ℕ) (s : List ℕ) → space b ≡ true → spaces (b ∷ s) ≡ 32 ∷ spaces s
spaces_space b s e = ap (λ (x : ℕ). x ∷ spaces s) (is_spaced b e)

spaces_text : (b : ℕ) (s : List ℕ) → space b ≡ false → spaces (b ∷ s) ≡ b ∷ spaces s
spaces_text b s e = ap (λ (x : ℕ). x ∷ spaces s) (stays b e).kept

text_kept : (b : ℕ) (s : List ℕ) → space b ≡ false → after_text (b ∷ s) ≡ b ∷ after_text s
text_kept b s e = ap (λ (z : List ℕ). trim_right (squeeze z)) (spaces_text b s e) ∙ ap trim_right (squeeze_text b (spaces s) (stays b e).no_sp) ∙ trim_text b (squeezed s) (stays b e).not_white

gap_kept : (b : ℕ) (s : List ℕ) → space b ≡ false → after_gap (b ∷ s) ≡ 32 ∷ b ∷ after_text s
unfolding trim_right
gap_kept b s e =
    let q : squeezed (b ∷ s) ≡ b ∷ squeezed s = ap squeeze (spaces_text b s e) ∙ squeeze_text b (spaces s) (stays b e).no_sp in
    ap trim_right (squeeze_sp (spaces (b ∷ s)))
    ∙ ap (λ (l : List ℕ). trim_right (pick (eqb (peek l) 32) l (32 ∷ l))) q
    ∙ ap (λ (t : Bool). trim_right (pick t (b ∷ squeezed s) (32 ∷ b ∷ squeezed s))) (stays b e).no_sp
    ∙ ap (λ (l : List ℕ). pick (empty l) [] (32 ∷ l)) (trim_text b (squeezed s) (stays b e).not_white)

abbrev after : Bool → List ℕ → List ℕ
after gap s = pick gap (after_gap s) (after_text s)

after_space : (gap : Bool) (b : ℕ) (s : List ℕ) → space b ≡ true → after gap (b ∷ s) ≡ after_gap s
after_space true b s e = ap (λ (z : List ℕ). trim_right (squeeze (32 ∷ z))) (spaces_space b s e) ∙ ap trim_right (squeeze_twice (spaces s))
after_space false b s e = ap (λ (z : List ℕ). trim_right (squeeze z)) (spaces_space b s e)

after_kept : (gap : Bool) (b : ℕ) (s : List ℕ) → space b ≡ false → after gap (b ∷ s) ≡ pick gap (32 ∷ b ∷ after_text s) (b ∷ after_text s)
after_kept true b s e = gap_kept b s e
after_kept false b s e = text_kept b s e

after_none : (gap : Bool) → [] ≡ after gap []
unfolding squeeze trim_right
after_none true = refl
after_none false = refl

-- something was kept before
norm_after : (s : List ℕ) (gap : Bool) → norm true gap s ≡ after gap s
unfolding norm
norm_after [] gap = after_none gap
norm_after (b ∷ s) gap =
    let next : norm true false s ≡ after_text s = norm_after s false in
    test_cases (space b)
    (λ e. norm_space true gap b s e ∙ norm_after s true ∙ sym (after_space gap b s e))
    (λ e. norm_text true gap b s e ∙ ap (λ (l : List ℕ). pick gap (32 ∷ b ∷ l) (b ∷ l)) next ∙ sym (after_kept gap b s e))

-- nothing was kept before
norm_trimmed : (s : List ℕ) → norm false false s ≡ trim_left (trim_right (squeezed s))
unfolding norm squeeze trim_right trim_left
norm_trimmed [] = refl
norm_trimmed (b ∷ s) =
    test_cases (space b)
    (λ e. norm_space false false b s e ∙ norm_trimmed s
    ∙ sym (ap (λ (z : List ℕ). trim_left (trim_right (squeeze z))) (spaces_space b s e) ∙ ap (λ (l : List ℕ). trim_left (trim_right l)) (squeeze_sp (spaces s)) ∙ left_sp (squeezed s) (eqb (peek (squeezed s)) 32)))
    (λ e. norm_text false false b s e ∙ ap (λ (l : List ℕ). b ∷ l) (norm_after s false)
    ∙ sym (ap trim_left (text_kept b s e) ∙ left_text b (after_text s) (stays b e).not_white))

pub norm_reduced : (raw : List ℕ) → norm false false raw ≡ reduced raw
unfolding reduced
norm_reduced raw = norm_trimmed raw

-- ---- it is no longer than what came in

abbrev pub one : Bool → ℕ
one gap = pick gap 1 0

norm_le_text : (gap : Bool) (b : ℕ) (l s : List ℕ) → length l ≤ length s → length (pick gap (32 ∷ b ∷ l) (b ∷ l)) ≤ suc (length s) + one gap
norm_le_text true b l s h = omega arith
norm_le_text false b l s h = omega arith

one_le : (b : Bool) → one b ≤ 1
one_le true = omega arith
one_le false = omega arith

norm_le : (s : List ℕ) (begun gap : Bool) → length (norm begun gap s) ≤ length s + one gap
unfolding norm
norm_le [] begun gap = zero-le
norm_le (b ∷ s) begun gap =
    test_cases (space b)
    (λ e. omega (arith, ap length (norm_space begun gap b s e), norm_le s begun begun, one_le begun))
    (λ e. le_trans (le_of_eq (ap length (norm_text begun gap b s e))) (norm_le_text gap b (norm true false s) s (omega (arith, norm_le s true false))))

pub reduced_le : (raw : List ℕ) → length (reduced raw) ≤ length raw
reduced_le raw = omega (arith, ap length (norm_reduced raw), norm_le raw false false)

-- ---- the pass, with what it has written

pub record Reducing (raw d e : List ℕ) (gap : Bool) (n i : ℕ) : Type 0 where
  pub inside : i ≤ length raw
  pub room : n + one gap ≤ i
  pub so_far : Written (reduced raw) d e n (norm (ltb 0 n) gap (drop i raw))

pub reducing_first : (raw d : List ℕ) → Reducing raw d d false 0 0
reducing_first raw d = record {
  inside = zero-le;
  room = zero-le;
  so_far = subst (Written (reduced raw) d d 0) (sym (norm_reduced raw)) (written_start (reduced raw) d);
}

module _ (raw d e : List ℕ) (gap : Bool) (n i : ℕ) (k : Reducing raw d e gap n i) (more : i < length raw) (r : Bool) (er : r ≡ space (get_or raw i 0)) where
  abbrev b : ℕ
  b = get_or raw i 0

  cut : drop i raw ≡ b ∷ drop (i + 1) raw
  cut = drop-cons raw i 0 more ∙ ap (λ (j : ℕ). b ∷ drop j raw) (sym (add-one i))

  gap_room : one (ltb 0 n) ≤ 1
  gap_room = one_le (ltb 0 n)

  pub reducing_space : r ≡ true → Reducing raw d e (ltb 0 n) n (i + 1)
  reducing_space y = record {
    inside = omega (arith, more);
    room = omega (arith, k.room, gap_room);
    so_far = subst (Written (reduced raw) d e n) (ap (norm (ltb 0 n) gap) cut ∙ norm_space (ltb 0 n) gap b (drop (i + 1) raw) (sym er ∙ y)) k.so_far;
  }

  module _ (fit : length raw ≤ length d) (t : r ≡ false) where
    kept : Written (reduced raw) d e n (pick gap (32 ∷ b ∷ norm true false (drop (i + 1) raw)) (b ∷ norm true false (drop (i + 1) raw)))
    kept = subst (Written (reduced raw) d e n) (ap (norm (ltb 0 n) gap) cut ∙ norm_text (ltb 0 n) gap b (drop (i + 1) raw) (sym er ∙ t)) k.so_far

    pub reducing_gap : gap ≡ true → Reducing raw d (set (set e n 32) (n + 1) b) false (n + 2) (i + 1)
    reducing_gap g =
        let now_kept = subst (λ (x : Bool). Written (reduced raw) d e n (pick x (32 ∷ b ∷ norm true false (drop (i + 1) raw)) (b ∷ norm true false (drop (i + 1) raw)))) g kept in
        let roomy : n + 1 ≤ i = subst (λ (x : Bool). n + one x ≤ i) g k.room in
        let two : n + 1 + 1 ≡ n + 2 = omega arith in
        let begun : ltb 0 (n + 2) ≡ true = lt-ltb 0 (n + 2) (omega arith) in
        record {
          inside = omega (arith, more);
          room = omega (arith, roomy);
          so_far =
              subst (λ (j : ℕ). Written (reduced raw) d (set (set e n 32) (n + 1) b) j (norm (ltb 0 (n + 2)) false (drop (i + 1) raw))) two
              (subst (λ (x : Bool). Written (reduced raw) d (set (set e n 32) (n + 1) b) (n + 1 + 1) (norm x false (drop (i + 1) raw))) (sym begun)
              (written_put (written_put now_kept (omega (arith, roomy, fit, more))) (omega (arith, roomy, fit, more))));
        }

    pub reducing_text : gap ≡ false → Reducing raw d (set e n b) gap (n + 1) (i + 1)
    reducing_text g =
        let now_kept = subst (λ (x : Bool). Written (reduced raw) d e n (pick x (32 ∷ b ∷ norm true false (drop (i + 1) raw)) (b ∷ norm true false (drop (i + 1) raw)))) g kept in
        let begun : ltb 0 (n + 1) ≡ true = lt-ltb 0 (n + 1) (omega arith) in
        record {
          inside = omega (arith, more);
          room = omega (arith, k.room);
          so_far =
              (subst (λ (x : Bool). Written (reduced raw) d (set e n b) (n + 1) (norm x gap (drop (i + 1) raw))) (sym begun)
              (subst (λ (x : Bool). Written (reduced raw) d (set e n b) (n + 1) (norm true x (drop (i + 1) raw))) (sym g)
              (written_put now_kept (omega (arith, k.room, fit, more)))));
        }

module _ (raw d e : List ℕ) (gap : Bool) (n i : ℕ) (k : Reducing raw d e gap n i) where
  pub reducing_length : length raw ≤ length d → length e ≡ length d
  reducing_length fit = written_length k.so_far (omega (arith, k.room, k.inside, fit))

  module _ (past : length raw ≤ i) where
    done : Written (reduced raw) d e n []
    unfolding norm
    done = subst (Written (reduced raw) d e n) (ap (norm (ltb 0 n) gap) (drop_of_length-le raw past)) k.so_far

    pub reducing_count : n ≡ length (reduced raw)
    reducing_count = written_count done

    pub reducing_end : e ≡ over (reduced raw) d
    reducing_end = written_end done ∙ ap (λ (j : ℕ). reduced raw ++ drop j d) reducing_count

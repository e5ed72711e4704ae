-- From one point to the next: a word, and the comment behind it where it begins one.
use mathlib.Core.Path.{◌≡◌, sym, ap, ap₂, ◌∙◌, subst, subst⁻¹, fun_ext}
use mathlib.Core.Bool.{Bool, true, ◌&&◌, ◌||◌}
use Prim.Native.Nat.{ℕ, ◌+◌, ◌-◌, ◌≤◌, ◌<◌}
use native.Mathlib.Omega.{arith}
use mathlib.Core.List.{List, []}
use lib.Dec.{T, leb, ltb, leb→le, ltb→lt}
use lib.ListN.{length, get_or, drop, length-drop}
use lib.Seq.{drop-drop}
use borrow.Author.Tests.{lt-ltb, le-ltb}
use Rattle.octets.specs.Lists.{text}
use Rattle.octets.proofs.Tests.{left, right, or_cases}
use Rattle.octets.proofs.Table as table
use Rattle.grammar.specs.Reading.{wrong, up_to}
use Rattle.grammar.specs.Inner.Made.{forget, shifted}
use Rattle.scan.specs.Inner.Points.{nexts, word_at, common, closing, Found, Missing, ClosedAt, NotClosed, Closes, Chose}
use Rattle.std.specs.Prelude.{Result, Ok, Err}
use Rattle.std.specs.Prelude.{Option as Optional, Some, None}
use Rattle.scan.specs.Inner.Rests.{Ahead, rest, plainly}
use Rattle.scan.specs.Inner.Turns.{Reached, Broken, words_ahead}
use Rattle.scan.proofs.Words.{common_le}
use Rattle.scan.proofs.Lettered.{word_long, placed, Placed}
use Rattle.scan.proofs.Choosing.{Point, point}
use Rattle.grammar.proofs.Made.{made_up_to}
use Rattle.grammar.proofs.Shifted.{shifted_add, shifted_wrong}

-- ---- where words lead

led : ℕ → ℕ → Bool
led j n = ltb n 42 || (leb 64 n && ltb n 106)

next_led : (j : ℕ) → j < 123 → T (led j (get_or nexts j 0))
unfolding led nexts
next_led j h = table.at led nexts tt j h

pub next_point : (j : ℕ) → j < 123 → get_or nexts j 0 < 64 → get_or nexts j 0 < 42
unfolding led
next_point j h l =
    or_cases (ltb (get_or nexts j 0) 42) (leb 64 (get_or nexts j 0) && ltb (get_or nexts j 0) 106) (next_led j h)
    (λ t. ltb→lt (get_or nexts j 0) 42 t)
    (λ t. let a : 64 ≤ get_or nexts j 0 = leb→le 64 (get_or nexts j 0) (left (leb 64 (get_or nexts j 0)) (ltb (get_or nexts j 0) 106) t) in absurd (omega (arith, a, l)))

pub next_comment : (j : ℕ) → j < 123 → 64 ≤ get_or nexts j 0 → get_or nexts j 0 < 106
unfolding led
next_comment j h l =
    or_cases (ltb (get_or nexts j 0) 42) (leb 64 (get_or nexts j 0) && ltb (get_or nexts j 0) 106) (next_led j h)
    (λ t. let a : get_or nexts j 0 < 42 = ltb→lt (get_or nexts j 0) 42 t in absurd (omega (arith, a, l)))
    (λ t. ltb→lt (get_or nexts j 0) 106 (right (leb 64 (get_or nexts j 0)) (ltb (get_or nexts j 0) 106) t))

-- behind the start of a comment the point is the same
pub ahead_comment : (n : ℕ) → 64 ≤ n → n < 106 → rest n ≡ up_to (text "-->") [] (rest (n - 64))
unfolding rest
ahead_comment n h l = rw (le-ltb n 64 h, lt-ltb (n - 64) 64 (omega (arith, l)))

pub rest_comment : (n : ℕ) → 64 ≤ n → n < 106 → plainly n ≡ up_to (text "-->") [] (plainly (n - 64))
rest_comment n h l =
    fun_ext (λ s. ap (λ (r : List ℕ → Ahead). forget (r s)) (ahead_comment n h l) ∙ made_up_to (λ r. tt) (text "-->") [] (rest (n - 64)) s)

-- ---- behind a word

pub found_number : (q : ℕ) (t : List ℕ) (j : ℕ) → q < 42 → Found q t j → j < 123
found_number q t j h f = let p : Point q = point q h in omega (arith, f.under, p.ends)

module _ (s : List ℕ) (at q j wide : ℕ) (i : at ≤ length s) (h : q < 42) (f : Found q (drop at s) j) (a : wide ≡ length (word_at j)) where
  word_number : j < 123
  word_number = found_number q (drop at s) j h f

  some_bytes : 0 < wide
  some_bytes = let p : Placed j = placed j word_number in omega (arith, p.rises, word_long j word_number, a)

  pub word_inside : at + wide ≤ length s
  word_inside =
      let c : common (word_at j) (drop at s) ≤ length (drop at s) = common_le (word_at j) (drop at s) in
      let l : length (drop at s) ≡ length s - at = length-drop at s in
      omega (arith, c, l, f.whole, a, i)

  -- the words of the point are this one
  onward : words_ahead q (drop at s) ≡ shifted wide (rest (get_or nexts j 0) (drop (at + wide) s))
  onward =
      f.goes rest
      ∙ ap (λ (n : ℕ). shifted n (rest (get_or nexts j 0) (drop n (drop at s)))) (sym a)
      ∙ ap (λ (t : List ℕ). shifted wide (rest (get_or nexts j 0) t)) (drop-drop wide at s)

  module _ (n : ℕ) (m : n ≡ get_or nexts j 0) where
    pub word_next : n < 64 → Reached rest (words_ahead q) s at (at + wide) n
    word_next l = record {
      forward = let p : 0 < wide = some_bytes in omega (arith, p);
      inside = word_inside;
      point = subst⁻¹ (λ (x : ℕ). x < 42) m (next_point j word_number (subst (λ (x : ℕ). x < 64) m l));
      goes =
          let e : at + wide - at ≡ wide = omega arith in
          onward ∙ ap₂ (λ (x y : ℕ). shifted x (rest y (drop (at + wide) s))) (sym e) (sym m);
    }

    in_comment : 64 ≤ n → words_ahead q (drop at s) ≡ shifted wide (up_to (text "-->") [] (rest (n - 64)) (drop (at + wide) s))
    in_comment l =
        onward
        ∙ ap (λ (x : ℕ). shifted wide (rest x (drop (at + wide) s))) (sym m)
        ∙ ap (λ (r : List ℕ → Ahead). shifted wide (r (drop (at + wide) s)))
        (ahead_comment n l (subst⁻¹ (λ (x : ℕ). x < 106) m (next_comment j word_number (subst (λ (x : ℕ). 64 ≤ x) m l))))

    pub word_comment : 64 ≤ n → (z : ℕ) → ClosedAt (closing true) s (at + wide) z → Reached rest (words_ahead q) s at z (n - 64)
    word_comment l z c = record {
      forward = omega (arith, c.forward);
      inside = c.inside;
      point = let k : n < 106 = subst⁻¹ (λ (x : ℕ). x < 106) m (next_comment j word_number (subst (λ (x : ℕ). 64 ≤ x) m l)) in omega (arith, k, l);
      goes =
          let e : wide + (z - (at + wide)) ≡ z - at = omega (arith, c.forward) in
          in_comment l
          ∙ ap (shifted wide) (c.goes (rest (n - 64)))
          ∙ shifted_add wide (z - (at + wide)) (rest (n - 64) (drop z s))
          ∙ ap (λ (x : ℕ). shifted x (rest (n - 64) (drop z s))) e;
    }

    pub word_open : 64 ≤ n → NotClosed (closing true) s (at + wide) → Broken (words_ahead q) s at (length s)
    word_open l c = record {
      forward = i;
      stops =
          let w : at + wide ≤ length s = word_inside in
          let e : wide + (length s - (at + wide)) ≡ length s - at = omega (arith, w) in
          in_comment l
          ∙ ap (shifted wide) (c.stops (rest (n - 64)))
          ∙ shifted_wrong wide (length s - (at + wide))
          ∙ ap wrong e;
    }

    pub word_comment_by : 64 ≤ n → (d : Optional ℕ) → Closes (closing true) s (at + wide) d → (z : ℕ) → d ≡ Some z → Reached rest (words_ahead q) s at z (n - 64)
    word_comment_by l d c z e = word_comment l z (subst (Closes (closing true) s (at + wide)) e c)

    pub word_open_by : 64 ≤ n → (d : Optional ℕ) → Closes (closing true) s (at + wide) d → d ≡ None → Broken (words_ahead q) s at (length s)
    word_open_by l d c e = word_open l (subst (Closes (closing true) s (at + wide)) e c)

pub word_missed : (s : List ℕ) (at q m : ℕ) → Missing q (drop at s) m → Broken (words_ahead q) s at (at + m)
word_missed s at q m c = record {
  forward = omega arith;
  stops = let e : m ≡ at + m - at = omega arith in c.stops rest ∙ ap wrong e;
}

pub missed_inside : (s : List ℕ) (at q m : ℕ) → at ≤ length s → Missing q (drop at s) m → at + m ≤ length s
missed_inside s at q m h c = let l : length (drop at s) ≡ length s - at = length-drop at s in omega (arith, l, c.within, h)

pub chose_word : (q : ℕ) (t : List ℕ) (r : Result ℕ ℕ) → Chose q t r → (j : ℕ) → r ≡ Ok j → Found q t j
chose_word q t r c j e = subst (Chose q t) e c

pub chose_number : (q : ℕ) (t : List ℕ) (r : Result ℕ ℕ) → q < 42 → Chose q t r → (j : ℕ) → r ≡ Ok j → j < 123
chose_number q t r h c j e = found_number q t j h (chose_word q t r c j e)

pub missed_by : (s : List ℕ) (at q : ℕ) (r : Result ℕ ℕ) → Chose q (drop at s) r → (m : ℕ) → r ≡ Err m → Broken (words_ahead q) s at (at + m)
missed_by s at q r c m e = word_missed s at q m (subst (Chose q (drop at s)) e c)

pub missed_inside_by : (s : List ℕ) (at q : ℕ) (r : Result ℕ ℕ) → at ≤ length s → Chose q (drop at s) r → (m : ℕ) → r ≡ Err m → at + m ≤ length s
missed_inside_by s at q r h c m e = missed_inside s at q m h (subst (Chose q (drop at s)) e c)

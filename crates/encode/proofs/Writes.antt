-- What is written: one byte, a copy, and two writes one behind the other.
use mathlib.Core.Path.{◌≡◌, refl, sym, ap, ap₂, ◌∙◌, subst, subst⁻¹}
use Prim.Native.Nat.{ℕ, ◌+◌, ◌-◌, ◌≤◌, ◌<◌}
use borrow.Rule.Slice.PartMut.{put_mid}
use Rattle.std.proofs.lemmas.Slice.{put_mid-paste}
use native.Mathlib.Omega.{arith}
use mathlib.Core.List.{List, ◌++◌, append_assoc}
use lib.ListN.{length, get_or, take, drop, length-append, length-drop, take-append-drop}
use lib.Seq.{paste, take-take, take-add, take_at, drop_at, get_or-take, get_or-drop, length-take-le, take-length, drop-drop, length-paste, take-paste, drop-paste}
use Rattle.encode.specs.Inner.Wrote.{Wrote}

pub wrote_as : {bytes same x y : List ℕ} {to : ℕ} → bytes ≡ same → Wrote bytes to x y → Wrote same to x y
wrote_as {bytes} {same} {x} {y} {to} e w = subst (λ (l : List ℕ). Wrote l to x y) e w

pub pasted : (x bytes : List ℕ) (to : ℕ) → to + length bytes ≤ length x → Wrote bytes to x (paste x to bytes (length bytes))
pasted x bytes to h = record {
  long = length-paste x to bytes (length bytes) h (omega arith);
  here = take-paste x to bytes (length bytes) (omega (arith, h)) (omega arith) ∙ ap (λ (l : List ℕ). take to x ++ l) (take-length bytes);
  beyond = drop-paste x to bytes (length bytes) (omega (arith, h)) (omega arith);
}

-- a copy to a part of the list
pub put_wrote : (x bytes now : List ℕ) (to n : ℕ) → to + n ≤ length x → length now ≡ length (take (to + n - to) (drop to x)) → now ≡ bytes
    → Wrote bytes to x (put_mid to (to + n - to) x now)
put_wrote x bytes now to n h l e =
    let room : length (drop to x) ≡ length x - to = length-drop to x in
    let part : length (take (to + n - to) (drop to x)) ≡ to + n - to = length-take-le (to + n - to) (drop to x) (omega arith) in
    let size : length bytes ≡ to + n - to = ap length (sym e) ∙ l ∙ part in
    subst⁻¹ (Wrote bytes to x) (put_mid-paste to (to + n - to) x now bytes (length bytes) e size refl) (pasted x bytes to (omega arith))

pub wrote_is : {bytes x y : List ℕ} {to : ℕ} → Wrote bytes to x y → y ≡ paste x to bytes (length bytes)
wrote_is {bytes} {x} {y} {to} w =
    sym (take-append-drop (to + length bytes) y)
    ∙ ap₂ ◌++◌ w.here w.beyond
    ∙ ap (λ (l : List ℕ). take to x ++ l ++ drop (to + length bytes) x) (sym (take-length bytes))

module _ {a b x y z : List ℕ} {to on : ℕ} (first : Wrote a to x y) (place : on ≡ to + length a) (second : Wrote b on y z) where
  past : to + length (a ++ b) ≡ on + length b
  past = omega (arith, length-append a b, place)

  -- what stands behind both
  behind : (l : List ℕ) → drop (on + length b) l ≡ drop (length b) (drop (to + length a) l)
  behind l = ap (λ (n : ℕ). drop (n + length b) l) place ∙ sym (drop-drop (length b) (to + length a) l)

  pub wrote_both : Wrote (a ++ b) to x z
  wrote_both = record {
    long = second.long ∙ first.long;
    here =
        ap (λ (n : ℕ). take n z) past
        ∙ second.here
        ∙ ap (λ (n : ℕ). take n y ++ b) place
        ∙ ap (λ (l : List ℕ). l ++ b) first.here
        ∙ append_assoc (take to x) a b;
    beyond =
        ap (λ (n : ℕ). drop n z) past
        ∙ second.beyond
        ∙ behind y
        ∙ ap (drop (length b)) first.beyond
        ∙ sym (behind x)
        ∙ ap (λ (n : ℕ). drop n x) (sym past);
  }

-- what lies before stays, and the bytes stand there
module _ {bytes x y : List ℕ} {to : ℕ} (inside : to ≤ length x) (w : Wrote bytes to x y) where
  pub wrote_below : take to y ≡ take to x
  wrote_below =
      sym (take-take to (to + length bytes) y (omega arith))
      ∙ ap (take to) w.here
      ∙ take_at (take to x) bytes to (length-take-le to x inside)

  pub wrote_there : take (length bytes) (drop to y) ≡ bytes
  wrote_there =
      sym (drop_at (take to y) (take (length bytes) (drop to y)) to (length-take-le to y (omega (arith, inside, w.long))))
      ∙ ap (drop to) (sym (take-add to (length bytes) y) ∙ w.here)
      ∙ drop_at (take to x) bytes to (length-take-le to x inside)

  pub wrote_byte : (i : ℕ) → i < length bytes → get_or y (to + i) 0 ≡ get_or bytes i 0
  wrote_byte i h =
      sym (get_or-drop to y i 0) ∙ sym (get_or-take (length bytes) (drop to y) i 0 h) ∙ ap (λ (l : List ℕ). get_or l i 0) wrote_there

-- the same where the front is written last
module _ {a b x y z : List ℕ} {to on : ℕ} (inside : on ≤ length x) (second : Wrote b on x y) (place : on ≡ to + length a) (first : Wrote a to y z) where
  over : drop on z ≡ drop on y
  over = ap (λ (n : ℕ). drop n z) place ∙ first.beyond ∙ ap (λ (n : ℕ). drop n y) (sym place)

  whole : to + length (a ++ b) ≡ on + length b
  whole = omega (arith, length-append a b, place)

  front : take to y ≡ take to x
  front = sym (take-take to on y (omega (arith, place))) ∙ ap (take to) (wrote_below inside second) ∙ take-take to on x (omega (arith, place))

  pub wrote_front : Wrote (a ++ b) to x z
  wrote_front = record {
    long = first.long ∙ second.long;
    here =
        ap (λ (n : ℕ). take n z) whole
        ∙ take-add on (length b) z
        ∙ ap₂ ◌++◌ (ap (λ (n : ℕ). take n z) place ∙ first.here ∙ ap (λ (l : List ℕ). l ++ a) front) (ap (take (length b)) over ∙ wrote_there inside second)
        ∙ append_assoc (take to x) a b;
    beyond =
        ap (λ (n : ℕ). drop n z) whole
        ∙ sym (drop-drop (length b) on z)
        ∙ ap (drop (length b)) over
        ∙ drop-drop (length b) on y
        ∙ second.beyond
        ∙ ap (λ (n : ℕ). drop n x) (sym whole);
  }

-- What is written is read back, field by field.
use mathlib.Core.Bool.{Bool, true, false, ◌&&◌, ◌||◌}
use mathlib.Core.Path.{◌≡◌, refl, sym, ap, ap₂, ◌∙◌}
use Prim.Native.Nat.{ℕ, ◌+◌, ◌*◌, ◌/◌, ◌%◌, ◌≤◌, ◌<◌}
use native.Mathlib.Nat.{add-zero, div-add-mod', mod-lt}
use native.Mathlib.Omega.{arith}
use mathlib.Core.List.{List, [], ◌∷◌, ◌++◌}
use lib.ListN.{length, get_or, drop, length-drop, length-append}
use lib.Seq.{drop-drop, get_or-drop, drop-append_seam}
use lib.Dec.{T, ltb, eqb, ltb→lt, eqb→eq}
use Rattle.octets.proofs.Tests.{left, right, is_true, or_cases}
use Rattle.cells.specs.Inner.Out.{good}
use Rattle.cells.specs.Inner.Places.{byte, word, u8, u16, u32, limited, counted, exactly, absent, usable, named, named_or_absent}
use Rattle.profile.specs.Written.{two, four}
use Rattle.profile.specs.Inner.Writable.{names, names_or_none}
use Rattle.cells.proofs.Laws.{whole_yes, u8_yes, u16_yes, limited_yes, counted_yes}

-- ---- what stands in s from a place on

pub record Rest (s : List ℕ) (at : ℕ) (t : List ℕ) : Type 0 where
  pub inside : at ≤ length s
  pub is : drop at s ≡ t

-- k bytes further
pub further : {s : List ℕ} {at : ℕ} {t : List ℕ} → Rest s at t → (k : ℕ) → k ≤ length t → Rest s (at + k) (drop k t)
further {s} {at} r k h = record {
  inside = omega (arith, length-drop at s, ap length r.is);
  is = sym (drop-drop k at s) ∙ ap (drop k) r.is;
}

-- after some bytes
pub after : (s : List ℕ) (at : ℕ) (a b : List ℕ) → Rest s at (a ++ b) → Rest s (at + length a) b
after s at a b r = rw (drop-append_seam a b) at (further r (length a) (omega (arith, length-append a b)))

-- ---- numbers

two_is : (n : ℕ) → n < 65536 → n / 256 % 256 * 256 + n % 256 ≡ n
two_is n h = omega (arith, div-add-mod' n 256, div-add-mod' (n / 256) 256)

byte_back : (s : List ℕ) (at : ℕ) (t : List ℕ) (v : ℕ) → Rest s at (v ∷ t) → byte s at ≡ v
byte_back s at t v r = ap (λ (k : ℕ). get_or s k 0) (sym (add-zero at)) ∙ sym (get_or-drop at s 0 0) ∙ ap (λ (l : List ℕ). get_or l 0 0) r.is

module _ (s : List ℕ) (at : ℕ) (t : List ℕ) where
  pub word_back : (n : ℕ) → n < 65536 → Rest s at (two n ++ t) → word s at ≡ n
  word_back n h r =
      ap₂ (λ (a b : ℕ). a * 256 + b) (byte_back s at (n % 256 ∷ t) (n / 256 % 256) r)
      (byte_back s (at + 1) t (n % 256) (further r 1 (omega arith)))
      ∙ two_is n h

  pub u8_back : (v : ℕ) → Rest s at (v ∷ t) → u8 s at ≡ good v
  u8_back v r = sym (u8_yes s at v (omega (arith, (further r 1 (omega arith)).inside)) (sym (byte_back s at t v r)))

  pub u16_back : (n : ℕ) → n < 65536 → Rest s at (two n ++ t) → u16 s at ≡ good n
  u16_back n h r = sym (u16_yes s at n (further r 2 (omega arith)).inside (sym (word_back n h r)))

  pub limited_back : (most v : ℕ) → v ≤ most → Rest s at (v ∷ t) → limited s at most ≡ good v
  limited_back most v h r = sym (limited_yes s at most v (u8_back v r) h)

  pub counted_back : (most n : ℕ) → n ≤ most → most < 65536 → Rest s at (two n ++ t) → counted s at most ≡ good n
  counted_back most n h m r = sym (counted_yes s at most n (u16_back n (omega arith) r) h)

  pub exactly_back : (v n : ℕ) → T (eqb n v) → v < 65536 → Rest s at (two n ++ t) → exactly s v at ≡ good n
  unfolding exactly
  exactly_back v n h m r = rw (u16_back n (omega (arith, eqb→eq n v h)) r, is_true (eqb n v) h)

pub u32_back : (s : List ℕ) (at n : ℕ) (t : List ℕ) → n < 4294967296 → Rest s at (four n ++ t) → u32 s at ≡ good n
unfolding u32
u32_back s at n t h r =
    let e : word s at ≡ n / 65536 = word_back s at (two (n % 65536) ++ t) (n / 65536) (omega (arith, div-add-mod' n 65536)) r in
    let f : word s (at + 2) ≡ n % 65536 = word_back s (at + 2) t (n % 65536) (mod-lt n (omega arith)) (further r 2 (omega arith)) in
    rw (whole_yes s at 4 (further r 4 (omega arith)).inside)
    (ap good (ap₂ (λ (a b : ℕ). a * 65536 + b) e f ∙ div-add-mod' n 65536))

-- ---- strings that are named

-- 65535, or a string
absent_or : (a b c : Bool) → T (a || (b && c)) → ((a || b) ≡ true) × ((a || c) ≡ true)
absent_or true b c h = (refl, refl)
absent_or false b c h = (is_true b (left b c h), is_true c (right b c h))

module _ (s : List ℕ) (at : ℕ) (t : List ℕ) (strs : List (List ℕ)) (few : length strs ≤ 1024) (purpose i : ℕ) where
  pub named_back : T (names strs purpose i) → Rest s at (two i ++ t) → named s strs purpose at ≡ good i
  unfolding named
  named_back h r =
      let l : T (ltb i (length strs)) = left (ltb i (length strs)) (usable purpose (get_or strs i [])) h in
      rw (
        u16_back s at t i (omega (arith, ltb→lt i (length strs) l)) r,
        is_true (ltb i (length strs)) l,
        is_true (usable purpose (get_or strs i [])) (right (ltb i (length strs)) (usable purpose (get_or strs i [])) h),
      )

  pub named_or_absent_back : T (names_or_none strs purpose i) → Rest s at (two i ++ t) → named_or_absent s strs purpose at ≡ good i
  unfolding named_or_absent
  named_or_absent_back h r =
      let e = absent_or (eqb i absent) (ltb i (length strs)) (usable purpose (get_or strs i [])) h in
      let low : i < 65536 = or_cases (eqb i absent) (names strs purpose i) h (λ a. omega (arith, eqb→eq i absent a))
      (λ n. omega (arith, ltb→lt i (length strs) (left (ltb i (length strs)) (usable purpose (get_or strs i [])) n))) in
      rw (u16_back s at t i low r, e.0, e.1)

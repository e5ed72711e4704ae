-- A string behind its length, stored by two bytes and a copy.
use mathlib.Core.Path.{◌≡◌, sym, ap, ap₂, ◌∙◌, subst⁻¹}
use Prim.Native.Nat.{ℕ, ◌+◌, ◌*◌, ◌/◌, ◌%◌, ◌≤◌, ◌<◌}
use native.Mathlib.Nat.{div-add-mod'}
use native.Mathlib.Omega.{arith}
use mathlib.Core.List.{List, ◌++◌, append_assoc}
use lib.ListN.{length, get_or, take, drop, set, length-set, get_or-append}
use lib.Seq.{paste, length-paste, length_paste_head, drop-paste, take_at, drop_at, take-take, take-set-le, drop-set-lt, get_or-take, get_or-set_same, get_or-set_other, take-length, length-take-le, take-append-le}
use Rattle.std.proofs.Common.{w16}
use Rattle.std.specs.Int.{to_be_bytes}
use Rattle.cells.specs.Inner.Places.{word}
use Rattle.compose.specs.Inner.Storing.{StoredAt}

module _ (d before : List ℕ) (at h l : ℕ) (room : at + 2 + length d ≤ length before) where
  -- the two bytes of the length are stored
  abbrev sized_first : List ℕ
  sized_first = set (set before at h) (at + 1) l

  pub first_long : length sized_first ≡ length before
  first_long = length-set (set before at h) (at + 1) l ∙ length-set before at h

  abbrev stored : List ℕ
  stored = paste sized_first (at + 2) d (length d)

  fits : at + 2 + length d ≤ length sized_first
  fits = let e : length sized_first ≡ length before = first_long in omega (arith, e, room)

  front_long : length (take (at + 2) sized_first) ≡ at + 2
  front_long = let f : at + 2 + length d ≤ length sized_first = fits in length-take-le (at + 2) sized_first (omega (arith, f))

  stored_long : length stored ≡ length before
  stored_long = length-paste sized_first (at + 2) d (length d) fits (omega arith) ∙ first_long

  -- before the string nothing is changed but the two bytes
  head_long : length (take (at + 2) sized_first ++ take (length d) d) ≡ at + 2 + length d
  head_long = let f : at + 2 + length d ≤ length sized_first = fits in length_paste_head sized_first (at + 2) d (length d) (omega (arith, f)) (omega arith)

  below : (i : ℕ) → i < at + 2 → get_or stored i 0 ≡ get_or sized_first i 0
  below i k =
      let a : i < length (take (at + 2) sized_first ++ take (length d) d) = subst⁻¹ (λ (n : ℕ). i < n) head_long (omega (arith, k)) in
      let b : i < length (take (at + 2) sized_first) = subst⁻¹ (λ (n : ℕ). i < n) front_long k in
      get_or-append (take (at + 2) sized_first ++ take (length d) d) (drop (at + 2 + length d) sized_first) 0 i a
      ∙ get_or-append (take (at + 2) sized_first) (take (length d) d) 0 i b
      ∙ get_or-take (at + 2) sized_first i 0 k

  high_is : get_or stored at 0 ≡ h
  high_is =
      below at (omega arith)
      ∙ get_or-set_other (set before at h) (at + 1) at l 0 (λ e. absurd (omega (arith, e)))
      ∙ get_or-set_same before at h 0 (omega (arith, room))

  low_is : get_or stored (at + 1) 0 ≡ l
  low_is =
      let e : length (set before at h) ≡ length before = length-set before at h in
      below (at + 1) (omega arith) ∙ get_or-set_same (set before at h) (at + 1) l 0 (omega (arith, e, room))

  kept_is : take at stored ≡ take at before
  kept_is =
      let a : at ≤ length (take (at + 2) sized_first ++ take (length d) d) = subst⁻¹ (λ (n : ℕ). at ≤ n) head_long (omega arith) in
      let b : at ≤ length (take (at + 2) sized_first) = subst⁻¹ (λ (n : ℕ). at ≤ n) front_long (omega arith) in
      take-append-le at (take (at + 2) sized_first ++ take (length d) d) (drop (at + 2 + length d) sized_first) a
      ∙ take-append-le at (take (at + 2) sized_first) (take (length d) d) b
      ∙ take-take at (at + 2) sized_first (omega arith)
      ∙ take-set-le at (set before at h) (at + 1) l (omega arith)
      ∙ take-set-le at before at h (omega arith)

  beyond_is : drop (at + 2 + length d) stored ≡ drop (at + 2 + length d) before
  beyond_is =
      let f : at + 2 + length d ≤ length sized_first = fits in
      drop-paste sized_first (at + 2) d (length d) (omega (arith, f)) (omega arith)
      ∙ drop-set-lt (at + 2 + length d) (set before at h) (at + 1) l (omega arith)
      ∙ drop-set-lt (at + 2 + length d) before at h (omega arith)

  text_in : (n : ℕ) → n ≡ length d → take n (drop (at + 2) stored) ≡ d
  text_in n e =
      ap (λ (x : List ℕ). take n (drop (at + 2) x)) (append_assoc (take (at + 2) sized_first) (take (length d) d) (drop (at + 2 + length d) sized_first))
      ∙ ap (take n) (drop_at (take (at + 2) sized_first) (take (length d) d ++ drop (at + 2 + length d) sized_first) (at + 2) front_long)
      ∙ take_at (take (length d) d) (drop (at + 2 + length d) sized_first) n (ap length (take-length d) ∙ sym e)
      ∙ take-length d

two_bytes : (n : ℕ) → n < 65536 → n / 256 % 256 * 256 + n % 256 ≡ n
two_bytes n h = omega (arith, div-add-mod' n 256, div-add-mod' (n / 256) 256)

module _ (d before : List ℕ) (at n : ℕ) (room : at + 2 + length d ≤ length before) (e : n ≡ length d) (k : length d < 65536) where
  word_is : word (stored d before at (n / 256 % 256) (n % 256) room) at ≡ n
  word_is =
      ap₂ (λ (x y : ℕ). x * 256 + y) (high_is d before at (n / 256 % 256) (n % 256) room) (low_is d before at (n / 256 % 256) (n % 256) room)
      ∙ two_bytes n (subst⁻¹ (λ (x : ℕ). x < 65536) e k)

  stores_by : (after : List ℕ) → after ≡ paste (set (set before at (n / 256 % 256)) (at + 1) (n % 256)) (at + 2) d (length d) → StoredAt d at before after
  stores_by after f = subst⁻¹ (StoredAt d at before) f (record {
    long = stored_long d before at (n / 256 % 256) (n % 256) room;
    kept = kept_is d before at (n / 256 % 256) (n % 256) room;
    sized = word_is ∙ e;
    text = ap (λ (x : ℕ). take x (drop (at + 2) (stored d before at (n / 256 % 256) (n % 256) room))) word_is ∙ text_in d before at (n / 256 % 256) (n % 256) room n e;
    beyond = beyond_is d before at (n / 256 % 256) (n % 256) room;
  })

  module _ (bs : List ℕ) (f : bs ≡ to_be_bytes w16 n) where
    high_byte : get_or bs 0 0 ≡ n / 256 % 256
    high_byte = ap (λ (l : List ℕ). get_or l 0 0) f

    low_byte : get_or bs 1 0 ≡ n % 256
    low_byte = ap (λ (l : List ℕ). get_or l 1 0) f

    pub stores : (after : List ℕ) → after ≡ paste (set (set before at (get_or bs 0 0)) (at + 1) (get_or bs 1 0)) (at + 2) d (length d) → StoredAt d at before after
    stores after g = stores_by after (g ∙ ap₂ (λ (h l : ℕ). paste (set (set before at h) (at + 1) l) (at + 2) d (length d)) high_byte low_byte)

    pub stores_long : (after : List ℕ) → after ≡ paste (set (set before at (get_or bs 0 0)) (at + 1) (get_or bs 1 0)) (at + 2) d (length d) → length after ≡ length before
    stores_long after g = (stores after g).long

pub second_inside : (d before : List ℕ) (at h : ℕ) → at + 2 + length d ≤ length before → at + 1 < length (set before at h)
second_inside d before at h r = let e : length (set before at h) ≡ length before = length-set before at h in omega (arith, e, r)

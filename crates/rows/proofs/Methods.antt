-- The Method row: equal bytes, and the registration set.
use mathlib.Core.Bool.{Bool, true, false, not, ◌&&◌, ◌||◌}
use mathlib.Core.Path.{◌≡◌, sym, ap, ◌∙◌}
use mathlib.Core.List.{List}
use Prim.Native.Nat.{ℕ, ◌<◌, ◌^◌}
use native.Mathlib.Omega.{arith}
use lib.Dec.{eqb}
use borrow.Author.Tests.{not-true, not-false, eq-eqb, ne_eqb}
use Rattle.octets.specs.Bits.{bit}
use Rattle.octets.specs.Lists.{same}
use Rattle.octets.proofs.Bits.{bit_below}
use Rattle.octets.proofs.Tests.{test_cases}
use Rattle.rows.specs.Rows.{REGISTER, registration_fits}

-- a set of 64 bits has none past them
pub in_set_past : (set type : ℕ) → set < 2 ^ 64 → 63 < type → false ≡ bit set type
in_set_past set type small past =
    test_cases (bit set type) (λ y. absurd (omega (arith, bit_below 64 set type small y))) (λ n. sym n)

-- ---- the Method row

-- it names the method (m), REGISTER (r), a set (not z), and the type is in it (i)
abbrev method_by : Bool → Bool → Bool → Bool → Bool
method_by m r z i = m && (not r || z || i)

module _ (named method : List ℕ) (set type : ℕ) (m : Bool) (em : m ≡ same named method) where
  abbrev whole : Bool
  whole = same named method && registration_fits named set type

  pub method_other : not m ≡ true → false ≡ whole
  method_other n = ap (λ (b : Bool). method_by b (same named REGISTER) (eqb set 0) (bit set type)) (sym (not-true m n) ∙ em)

  module _ (y : not m ≡ false) (r : Bool) (er : r ≡ same named REGISTER) where
    named_so : (b : Bool) → r ≡ b → method_by true b (eqb set 0) (bit set type) ≡ whole
    named_so b e = (λ i. method_by ((sym (not-false m y) ∙ em) i) ((sym e ∙ er) i) (eqb set 0) (bit set type))

    pub method_plain : not r ≡ true → true ≡ whole
    method_plain n = named_so false (not-true r n)

    module _ (x : not r ≡ false) where
      pub method_no_set : set ≡ 0 → true ≡ whole
      method_no_set z = sym (ap (λ (b : Bool). b || bit set type) (eq-eqb set 0 z)) ∙ named_so true (not-false r x)

      pub method_set : (set ≡ 0 → ⊥) → (b : Bool) → b ≡ bit set type → b ≡ whole
      method_set n b eb = eb ∙ sym (ap (λ (b : Bool). b || bit set type) (ne_eqb set 0 n)) ∙ named_so true (not-false r x)

-- How the readers of `specs/` go, as equations that the functions' proofs cite.
use Prim.Native.Nat.{ℕ, ◌+◌, ◌≤◌, ◌<◌}
use native.Mathlib.Omega.{arith}
use mathlib.Core.Path.{◌≡◌, refl, sym, ap, ◌∙◌}
use mathlib.Core.Bool.{Bool, true, false}
use mathlib.Core.List.{List}
use lib.ListN.{length}
use lib.Dec.{leb}
use borrow.Author.Tests.{le-leb, leb-true}
use Rattle.cells.specs.Inner.Out.{Out, good, bad, ◌>>=◌, ◌>>◌, must}
use Rattle.cells.specs.Inner.Places.{whole, u8, u16, u32, byte, word, long, limited, counted, sized}
use Rattle.cells.specs.Inner.Answers.{field_out}
use Rattle.cells.specs.declared.Refusal.{Refusal}
use Rattle.std.specs.Prelude.{Result, Ok, Err}
use Rattle.std.specs.Result.{IsErrAnd}
use Rattle.std.proofs.lemmas.Result.{err_from_is_err_and}

-- what an answer says of the reader that it is ensured to be
pub is : {A : Type 0} {r : Result A Refusal} {o : Out A} {v : A} → field_out r ≡ o → r ≡ Ok v → o ≡ good v
is e g = sym e ∙ ap field_out g

-- what the exit of a `?` returns
pub exits : {A : Type 0} {r : Result A Refusal} {e : Refusal} → IsErrAnd r (λ y. y ≡ e) → r ≡ Err e
exits {r = r} h = let p = err_from_is_err_and r h in p.1 ∙ ap Err p.2

pub whole_yes : (s : List ℕ) (at k : ℕ) → at + k ≤ length s → whole s at k ≡ good tt
unfolding whole
whole_yes s at k h = rw (le-leb (at + k) (length s) h)

pub u8_yes : (s : List ℕ) (at v : ℕ) → at < length s → v ≡ byte s at → good v ≡ u8 s at
unfolding u8
u8_yes s at v h e = rw (whole_yes s at 1 (omega arith), e)

pub u16_yes : (s : List ℕ) (at n : ℕ) → at + 2 ≤ length s → n ≡ word s at → good n ≡ u16 s at
unfolding u16
u16_yes s at n h e = rw (whole_yes s at 2 h, e)

module _ (s : List ℕ) (at most : ℕ) where
  pub limited_yes : (v : ℕ) → u8 s at ≡ good v → v ≤ most → good v ≡ limited s at most
  unfolding limited
  limited_yes v e h = rw (e, le-leb v most h)

  pub counted_yes : (v : ℕ) → u16 s at ≡ good v → v ≤ most → good v ≡ counted s at most
  unfolding counted
  counted_yes v e h = rw (e, le-leb v most h)

-- what a reading that gave a value went through
pub bad_good {ℓ} : {A : Type 0} {C : Type ℓ} {n p : ℕ} {a : A} → bad n p ≡ good a → C
bad_good e = absurd (let z : ◌≡◌ {A = ℕ} 0 1 = cc in omega arith)

pub bind_inv : {A B : Type 0} (o : Out A) (f : A → Out B) (b : B) → (o >>= f) ≡ good b → (a : A) × (o ≡ good a) × (f a ≡ good b)
bind_inv (good a) f b e = (a, refl, e)
bind_inv (bad n p) f b e = bad_good e

pub must_inv : {B : Type 0} (t : Bool) (n p : ℕ) (r : Out B) (b : B) → (must t n p >> r) ≡ good b → (t ≡ true) × (r ≡ good b)
must_inv true n p r b e = (refl, e)
must_inv false n p r b e = bad_good e

-- the same of a `must` alone
pub must_passed : (t : Bool) (n p : ℕ) → good tt ≡ must t n p → t ≡ true
must_passed true n p e = refl
must_passed false n p e = bad_good (sym e)

pub must_refused : (t : Bool) (n p m q : ℕ) → bad m q ≡ must t n p → (t ≡ false) × (m ≡ n) × (q ≡ p)
must_refused true n p m q e = bad_good e
must_refused false n p m q e = (refl, cc, cc)

pub good_inj : {A : Type 0} {a b : A} → good a ≡ good b → a ≡ b
good_inj e = cc

pub u16_inv : (s : List ℕ) (at v : ℕ) → u16 s at ≡ good v → (at + 2 ≤ length s) × (v ≡ word s at)
unfolding u16 whole
u16_inv s at v e =
    let h = must_inv (leb (at + 2) (length s)) 2 (length s) (good (word s at)) v e in
    (leb-true (at + 2) (length s) h.0, good_inj (sym h.1))

pub u32_inv : (s : List ℕ) (at v : ℕ) → u32 s at ≡ good v → (at + 4 ≤ length s) × (v ≡ long s at)
unfolding u32 whole
u32_inv s at v e =
    let h = must_inv (leb (at + 4) (length s)) 2 (length s) (good (long s at)) v e in
    (leb-true (at + 4) (length s) h.0, good_inj (sym h.1))

pub counted_inv : (s : List ℕ) (at most v : ℕ) → counted s at most ≡ good v → (v ≡ word s at) × (v ≤ most) × (at + 2 ≤ length s)
unfolding counted
counted_inv s at most v e =
    let (n, q, r) = bind_inv (u16 s at) (λ n. must (leb n most) 4 at >> good n) v e in
    let h = must_inv (leb n most) 4 at (good n) v r in
    let w = u16_inv s at n q in
    let z : n ≡ v = good_inj h.1 in
    (sym z ∙ w.1, rw z at (leb-true n most h.0), w.0)

module _ (s : List ℕ) (at : ℕ) where
  pub sized_yes : (n : ℕ) → counted s at 1024 ≡ good n → at + 2 + n ≤ length s → good n ≡ sized s at
  unfolding sized
  sized_yes n e h = rw (e, whole_yes s (at + 2) n h)

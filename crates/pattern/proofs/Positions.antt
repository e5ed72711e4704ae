-- The positions of a pattern's elements: which may come first, last, and right after one another, and the masks that say so.
use mathlib.Core.Path.{◌≡◌, refl, sym, ap, ap₂, ◌∙◌}
use mathlib.Core.Bool.{Bool, true, false, ◌&&◌, ◌||◌, or-true, or-false, and-true, and-false, and_assoc, and_comm}
use mathlib.Core.List.{List, [], ◌∷◌}
use Prim.Native.Nat.{ℕ, zero, suc, ◌+◌, ◌%◌, ◌^◌, ◌<◌, ◌≤◌}
use native.Mathlib.Nat.{add-zero, zero-add}
use native.Mathlib.Omega.{arith}
use lib.Bits.{bit_or}
use lib.Dec.{ltb}
use lib.ListN.{length, get_or}
use borrow.Author.Tests.{eq-eqb, ne_eqb, ltb-true, ltb-false}
use Rattle.octets.specs.Bits.{bit}
use Rattle.octets.specs.Inner.Masks.{Below}
use Rattle.octets.specs.Lists.{pick}
use Rattle.octets.proofs.Bits.{bit_zero, bit_pow, bit_add, bit_cut, below_wider}
use Rattle.basic.specs.Pattern.{Elem}
use Rattle.pattern.specs.Inner.Prepared.{starred, no_marks, may_lead, mark, before_at, marks, befores}
use Rattle.pattern.specs.declared.edition1.Marks.{Marks}

-- every element may be left out
abbrev pub free : List Elem → Bool
free [] = true
free (e ∷ es) = starred e && free es

-- q may come first: the elements before it may be left out
abbrev pub leads : List Elem → ℕ → Bool
leads [] q = false
leads (e ∷ es) zero = true
leads (e ∷ es) (suc q) = starred e && leads es q

-- the same with the place behind all elements, where they may all be left out
abbrev opens : List Elem → ℕ → Bool
opens [] zero = true
opens [] (suc q) = false
opens (e ∷ es) zero = true
opens (e ∷ es) (suc q) = starred e && opens es q

-- p may come last
abbrev pub ends : List Elem → ℕ → Bool
ends [] p = false
ends (e ∷ es) zero = free es
ends (e ∷ es) (suc p) = ends es p

-- q may come right after p
abbrev pub follows : List Elem → ℕ → ℕ → Bool
follows [] p q = false
follows (e ∷ es) zero zero = starred e
follows (e ∷ es) zero (suc q) = leads es q
follows (e ∷ es) (suc p) zero = false
follows (e ∷ es) (suc p) (suc q) = follows es p q

-- `mark`, as code makes it
pub mark_is : (m : Marks) (t : Bool) (run lead : ℕ) → run ≡ pick t (bit_or m.run (2 ^ m.at)) (2 ^ m.at)
    → lead ≡ pick (t && may_lead m) (bit_or m.lead (2 ^ (m.at + 1))) m.lead → ◌≡◌ {A = Marks} (record { at = m.at + 1; run = run; lead = lead }) (mark m t)
mark_is m t run lead e q = ap₂ (λ (x y : ℕ). record { at = m.at + 1; run = x; lead = y }) e q

-- ---- the masks with one position more

up : (at p : ℕ) → at + suc p ≡ at + 1 + p
up at p = omega arith

module _ (at n : ℕ) (l : Below at n) where
  with_below : (k : ℕ) → k < at → bit (bit_or n (2 ^ at)) k ≡ bit n k
  with_below k h = bit_add n at k ∙ ap (λ (t : Bool). bit n k || t) (ne_eqb k at (λ z. omega arith)) ∙ or-false (bit n k)

  with_at : bit (bit_or n (2 ^ at)) at ≡ true
  with_at = bit_add n at at ∙ ap (λ (t : Bool). bit n at || t) (eq-eqb at at refl) ∙ or-true (bit n at)

  with_low : Below (at + 1) (bit_or n (2 ^ at))
  with_low k h = bit_add n at k ∙ ap₂ (λ (t u : Bool). t || u) (l k (omega arith)) (ne_eqb k at (λ z. omega arith))

pow_low : (at : ℕ) → Below (at + 1) (2 ^ at)
pow_low at k h = bit_pow at k ∙ ne_eqb k at (λ z. omega arith)

-- the run of `mark`; and a mask with one position more where t says so, as its lead and what may come before
module _ (at run : ℕ) (l : Below at run) where
  run_low : (t : Bool) → Below (at + 1) (pick t (bit_or run (2 ^ at)) (2 ^ at))
  run_low true = with_low at run l
  run_low false = pow_low at

  run_below : (t : Bool) (k : ℕ) → k < at → bit (pick t (bit_or run (2 ^ at)) (2 ^ at)) k ≡ (bit run k && t)
  run_below true k h = with_below at run l k h ∙ sym (and-true (bit run k))
  run_below false k h = bit_pow at k ∙ ne_eqb k at (λ z. omega arith) ∙ sym (and-false (bit run k))

  run_at : (t : Bool) → bit (pick t (bit_or run (2 ^ at)) (2 ^ at)) at ≡ true
  run_at true = with_at at run l
  run_at false = bit_pow at at ∙ eq-eqb at at refl

  more_low : (t : Bool) → Below (at + 1) (pick t (bit_or run (2 ^ at)) run)
  more_low true = with_low at run l
  more_low false = below_wider at (at + 1) run (omega arith) l

  more_below : (t : Bool) (k : ℕ) → k < at → bit (pick t (bit_or run (2 ^ at)) run) k ≡ bit run k
  more_below true k h = with_below at run l k h
  more_below false k h = refl

  more_at : (t : Bool) → bit (pick t (bit_or run (2 ^ at)) run) at ≡ t
  more_at true = with_at at run l
  more_at false = l at (omega arith)

-- ---- the masks of the elements from `at` on

-- the last positions
module _ (m : Marks) where
  abbrev Run : List Elem → Type 0
  Run es = ((k : ℕ) → k < m.at → bit (marks m es).run k ≡ (bit m.run k && free es)) × ((p : ℕ) → bit (marks m es).run (m.at + p) ≡ ends es p)

  abbrev Lead : List Elem → Type 0
  Lead es = ((k : ℕ) → k < m.at → bit (marks m es).lead k ≡ bit m.lead k) × ((p : ℕ) → bit (marks m es).lead (m.at + p) ≡ (may_lead m && opens es p))

  abbrev Before : List Elem → ℕ → Type 0
  Before es q =
      ((k : ℕ) → k < m.at → bit (get_or (befores m es) q 0) k ≡ (bit m.run k && leads es q))
      × ((p : ℕ) → bit (get_or (befores m es) q 0) (m.at + p) ≡ follows es p q)

runs : (m : Marks) (es : List Elem) → Below m.at m.run → Run m es
runs m [] l = (λ k h. sym (and-true (bit m.run k)), λ p. l (m.at + p) (omega arith))
runs m (e ∷ es) l =
    let ih = runs (mark m (starred e)) es (run_low m.at m.run l (starred e)) in (
      λ k h.
          ih.0 k (omega arith) ∙ ap (λ (t : Bool). t && free es) (run_below m.at m.run l (starred e) k h) ∙ and_assoc (bit m.run k) (starred e) (free es),
      λ p. go ih.0 ih.1 p,
    )
  where
    go : ((k : ℕ) → k < m.at + 1 → bit (marks m (e ∷ es)).run k ≡ (bit (mark m (starred e)).run k && free es))
        → ((p : ℕ) → bit (marks m (e ∷ es)).run (m.at + 1 + p) ≡ ends es p) → (p : ℕ) → bit (marks m (e ∷ es)).run (m.at + p) ≡ ends (e ∷ es) p
    go low high zero =
        ap (bit (marks m (e ∷ es)).run) (add-zero m.at) ∙ low m.at (omega arith) ∙ ap (λ (t : Bool). t && free es) (run_at m.at m.run l (starred e))
    go low high (suc p) = ap (bit (marks m (e ∷ es)).run) (up m.at p) ∙ high p

leading : (m : Marks) (es : List Elem) → Below (m.at + 1) m.lead → Lead m es
leading m [] l = (λ k h. refl, go)
  where
    go : (p : ℕ) → bit m.lead (m.at + p) ≡ (may_lead m && opens [] p)
    go zero = ap (bit m.lead) (add-zero m.at) ∙ sym (and-true (may_lead m))
    go (suc p) = l (m.at + suc p) (omega arith) ∙ sym (and-false (may_lead m))
leading m (e ∷ es) l =
    let ih = leading (mark m (starred e)) es (more_low (m.at + 1) m.lead l (starred e && may_lead m)) in
    (λ k h. ih.0 k (omega arith) ∙ more_below (m.at + 1) m.lead l (starred e && may_lead m) k (omega arith), λ p. go ih.0 ih.1 p)
  where
    go : ((k : ℕ) → k < m.at + 1 → bit (marks m (e ∷ es)).lead k ≡ bit (mark m (starred e)).lead k)
        → ((p : ℕ) → bit (marks m (e ∷ es)).lead (m.at + 1 + p) ≡ (may_lead (mark m (starred e)) && opens es p)) → (p : ℕ)
        → bit (marks m (e ∷ es)).lead (m.at + p) ≡ (may_lead m && opens (e ∷ es) p)
    go low high zero =
        ap (bit (marks m (e ∷ es)).lead) (add-zero m.at) ∙ low m.at (omega arith)
        ∙ more_below (m.at + 1) m.lead l (starred e && may_lead m) m.at (omega arith) ∙ sym (and-true (may_lead m))
    go low high (suc p) =
        ap (bit (marks m (e ∷ es)).lead) (up m.at p) ∙ high p
        ∙ ap (λ (t : Bool). t && opens es p) (more_at (m.at + 1) m.lead l (starred e && may_lead m) ∙ and_comm (starred e) (may_lead m))
        ∙ and_assoc (may_lead m) (starred e) (opens es p)

before_all : (m : Marks) (es : List Elem) (q : ℕ) → q < length es → Below m.at m.run → Before m es q
before_all m [] q h l = absurd (omega arith)
before_all m (e ∷ es) zero h l = (λ k g. more_below m.at m.run l (starred e) k g ∙ sym (and-true (bit m.run k)), go)
  where
    go : (p : ℕ) → bit (before_at m (starred e)) (m.at + p) ≡ follows (e ∷ es) p zero
    go zero = ap (bit (before_at m (starred e))) (add-zero m.at) ∙ more_at m.at m.run l (starred e)
    go (suc p) = more_low m.at m.run l (starred e) (m.at + suc p) (omega arith)
before_all m (e ∷ es) (suc q) h l =
    let ih = before_all (mark m (starred e)) es q (omega arith) (run_low m.at m.run l (starred e)) in (
      λ k g.
          ih.0 k (omega arith) ∙ ap (λ (t : Bool). t && leads es q) (run_below m.at m.run l (starred e) k g) ∙ and_assoc (bit m.run k) (starred e) (leads es q),
      λ p. go ih.0 ih.1 p,
    )
  where
    go : ((k : ℕ) → k < m.at + 1 → bit (get_or (befores (mark m (starred e)) es) q 0) k ≡ (bit (mark m (starred e)).run k && leads es q))
        → ((p : ℕ) → bit (get_or (befores (mark m (starred e)) es) q 0) (m.at + 1 + p) ≡ follows es p q) → (p : ℕ)
        → bit (get_or (befores (mark m (starred e)) es) q 0) (m.at + p) ≡ follows (e ∷ es) p (suc q)
    go low high zero =
        ap (bit (get_or (befores (mark m (starred e)) es) q 0)) (add-zero m.at) ∙ low m.at (omega arith)
        ∙ ap (λ (t : Bool). t && leads es q) (run_at m.at m.run l (starred e))
    go low high (suc p) = ap (bit (get_or (befores (mark m (starred e)) es) q 0)) (up m.at p) ∙ high p

-- ---- all elements

zero_low : Below 0 0
zero_low k h = bit_zero k

pub ends_bit : (es : List Elem) (p : ℕ) → bit (marks no_marks es).run p ≡ ends es p
ends_bit es p = ap (bit (marks no_marks es).run) (sym (zero-add p)) ∙ (runs no_marks es zero_low).1 p

pub follows_bit : (es : List Elem) (p q : ℕ) → q < length es → bit (get_or (befores no_marks es) q 0) p ≡ follows es p q
follows_bit es p q h = ap (bit (get_or (befores no_marks es) q 0)) (sym (zero-add p)) ∙ (before_all no_marks es q h zero_low).1 p

at_bit : (m : Marks) (es : List Elem) → (marks m es).at ≡ m.at + length es
at_bit m [] = sym (add-zero m.at)
at_bit m (e ∷ es) = let z : m.at + 1 + length es ≡ m.at + suc (length es) = omega arith in at_bit (mark m (starred e)) es ∙ z

-- what may come first, and the place behind all elements among them
opens_bit : (es : List Elem) (p : ℕ) → bit (marks no_marks es).lead p ≡ opens es p
opens_bit es p =
    ap (bit (marks no_marks es).lead) (sym (zero-add p)) ∙ (leading no_marks es (pow_low 0)).1 p ∙ ap (λ (t : Bool). t && opens es p) (bit_pow 0 0)

-- the machine's size
pub size_is : (es : List Elem) → (marks no_marks es).at ≡ length es
size_is es = at_bit no_marks es ∙ zero-add (length es)

-- no position from the number of elements on
pub leads_past : (es : List Elem) (q : ℕ) → length es ≤ q → leads es q ≡ false
leads_past [] q h = refl
leads_past (e ∷ es) zero h = absurd (omega arith)
leads_past (e ∷ es) (suc q) h = ap (λ (t : Bool). starred e && t) (leads_past es q (omega arith)) ∙ and-false (starred e)

pub ends_past : (es : List Elem) (p : ℕ) → length es ≤ p → ends es p ≡ false
ends_past [] p h = refl
ends_past (e ∷ es) zero h = absurd (omega arith)
ends_past (e ∷ es) (suc p) h = ends_past es p (omega arith)

pub precedes_past : (es : List Elem) (p q : ℕ) → length es ≤ p → follows es p q ≡ false
precedes_past [] p q h = refl
precedes_past (e ∷ es) zero q h = absurd (omega arith)
precedes_past (e ∷ es) (suc p) zero h = refl
precedes_past (e ∷ es) (suc p) (suc q) h = precedes_past es p q (omega arith)

pub follows_past : (es : List Elem) (p q : ℕ) → length es ≤ q → follows es p q ≡ false
follows_past [] p q h = refl
follows_past (e ∷ es) p zero h = absurd (omega arith)
follows_past (e ∷ es) zero (suc q) h = leads_past es q (omega arith)
follows_past (e ∷ es) (suc p) (suc q) h = follows_past es p q (omega arith)

pub leads_bit : (es : List Elem) (p : ℕ) → bit ((marks no_marks es).lead % 2 ^ (marks no_marks es).at) p ≡ leads es p
leads_bit es p =
    bit_cut (marks no_marks es).lead (marks no_marks es).at p ∙ ap₂ (λ (t : Bool) (n : ℕ). t && ltb p n) (opens_bit es p) (size_is es)
    ∙ go (ltb p (length es)) refl
  where
    inside : (es : List Elem) (p : ℕ) → p < length es → opens es p ≡ leads es p
    inside [] p h = absurd (omega arith)
    inside (e ∷ es) zero h = refl
    inside (e ∷ es) (suc p) h = ap (λ (t : Bool). starred e && t) (inside es p (omega arith))

    go : (t : Bool) → ltb p (length es) ≡ t → (opens es p && t) ≡ leads es p
    go true t = and-true (opens es p) ∙ inside es p (ltb-true p (length es) t)
    go false t = and-false (opens es p) ∙ sym (leads_past es p (ltb-false p (length es) t))

pub free_bit : (es : List Elem) → may_lead (marks no_marks es) ≡ free es
free_bit es = opens_bit es (marks no_marks es).at ∙ ap (opens es) (size_is es) ∙ behind es
  where
    behind : (es : List Elem) → opens es (length es) ≡ free es
    behind [] = refl
    behind (e ∷ es) = ap (λ (t : Bool). starred e && t) (behind es)

pub befores_length : (m : Marks) (es : List Elem) → length (befores m es) ≡ length es
befores_length m [] = refl
befores_length m (e ∷ es) = ap suc (befores_length (mark m (starred e)) es)

-- The machine that the code holds agrees with the pattern's, on bytes, and its masks name its own positions.
use mathlib.Core.Path.{◌≡◌, refl, sym, ap, ◌∙◌, subst, subst⁻¹}
use mathlib.Core.Bool.{Bool, true, false, not, ◌&&◌, ◌||◌, and-true, and-false, and_comm, and_assoc, or-true, or-false}
use mathlib.Core.List.{List, [], ◌∷◌, ◌++◌}
use Prim.Native.Nat.{ℕ, zero, suc, ◌+◌, ◌*◌, ◌/◌, ◌%◌, ◌^◌, ◌<◌, ◌≤◌}
use native.Mathlib.Omega.{arith}
use lib.Dec.{ltb}
use lib.ListN.{length, get_or, get_or-append}
use borrow.Author.Tests.{ltb-true, ltb-false}
use Rattle.octets.specs.Bits.{bit}
use Rattle.octets.specs.Lists.{pick}
use Rattle.octets.proofs.Bits.{bit_zero, mask_bit}
use Rattle.machine.specs.Inner.Machine.{first_mask, last_mask, in_set, has, met, machine_of, Closed}
use Rattle.machine.proofs.Agreeing.{Agree}
use Rattle.basic.specs.Inner.Sets.{word, words}
use Rattle.basic.specs.Pattern.{Atom, Elem}
use Rattle.pattern.specs.Inner.Answers.{meet_as}
use Rattle.pattern.specs.Inner.Prepared.{atom_of, no_marks, may_lead, marks, set_as, sets_of, befores, shape_by}
use Rattle.pattern.proofs.Compiled.{met_at, compiled}
use Rattle.pattern.proofs.Positions.{leads, ends, follows, size_is, free_bit, ends_bit, leads_bit, follows_bit, leads_past, ends_past, precedes_past, follows_past, befores_length}

-- ---- the masks

module _ (left right : Bool) (es : List Elem) where
  first_is : (l a : Bool) (q : ℕ) → bit (first_mask (shape_by (marks no_marks es) l right) a) q ≡ ((not l || a) && leads es q)
  first_is true true q = leads_bit es q
  first_is true false q = bit_zero q
  first_is false true q = leads_bit es q
  first_is false false q = leads_bit es q

  last_is : (r e : Bool) (q : ℕ) → bit (last_mask (shape_by (marks no_marks es) left r) e) q ≡ (ends es q && (not r || e))
  last_is true true q = ends_bit es q ∙ sym (and-true (ends es q))
  last_is true false q = bit_zero q ∙ sym (and-false (ends es q))
  last_is false true q = ends_bit es q ∙ sym (and-true (ends es q))
  last_is false false q = ends_bit es q ∙ sym (and-true (ends es q))

null_by : (f l r a e : Bool) → pick a (pick e f (f && not r)) (pick e (f && not l) (f && not l && not r)) ≡ ((not l || a) && (f && (not r || e)))
null_by f l r true true = rw (or-true (not l), or-true (not r)) (sym (and-true f))
null_by f l r true false = rw (or-true (not l), or-false (not r)) refl
null_by f l r false true = rw (or-false (not l), or-true (not r), and-true f) (and_comm f (not l))
null_by f l r false false = rw (or-false (not l), or-false (not r)) (ap (λ (t : Bool). t && not r) (and_comm f (not l)) ∙ and_assoc (not l) f (not r))

module _ (es : List Elem) (old_before : List ℕ) where
  abbrev lent : List ℕ
  lent = befores no_marks es ++ old_before

  before_is : (p q : ℕ) → q < length es → bit (get_or lent q 0) p ≡ follows es p q
  before_is p q k =
      ap (λ (n : ℕ). bit n p) (get_or-append (befores no_marks es) old_before 0 q (subst (λ (n : ℕ). q < n) (sym (befores_length no_marks es)) k)) ∙ follows_bit es p q k

  follow_is : (p q : ℕ) → (ltb q (marks no_marks es).at && bit (get_or lent q 0) p) ≡ follows es p q
  follow_is p q = ap (λ (n : ℕ). ltb q n && bit (get_or lent q 0) p) (size_is es) ∙ go (ltb q (length es)) refl
    where
      go : (t : Bool) → ltb q (length es) ≡ t → (t && bit (get_or lent q 0) p) ≡ follows es p q
      go true t = before_is p q (ltb-true q (length es) t)
      go false t = sym (follows_past es p q (ltb-false q (length es) t))

  -- they name no position but the pattern's
  pub pattern_closed : (left right : Bool) → length es ≤ 60 → Closed (shape_by (marks no_marks es) left right) lent
  pattern_closed left right few = record {
    few = subst⁻¹ (λ (n : ℕ). n ≤ 60) (size_is es) few;
    starts = λ a k past. first_below left a k (leads_bit es k ∙ leads_past es k (behind k past));
    lasts = λ e k past. last_is left right es right e k ∙ ap (λ (t : Bool). t && (not right || e)) (ends_past es k (behind k past));
    befores = λ q l k past. before_is k q (subst (λ (n : ℕ). q < n) (size_is es) l) ∙ precedes_past es k q (behind k past);
  }
    where
      first_below : (left a : Bool) (k : ℕ) → bit ((marks no_marks es).lead % 2 ^ (marks no_marks es).at) k ≡ false
          → bit (first_mask (shape_by (marks no_marks es) left right) a) k ≡ false
      first_below left true k e = e
      first_below true false k e = bit_zero k
      first_below false false k e = e

      behind : (k : ℕ) → (marks no_marks es).at ≤ k → length es ≤ k
      behind k past = subst (λ (n : ℕ). n ≤ k) (size_is es) past

-- ---- the sets

word_at : (f : ℕ → Bool) (i : ℕ) → i < 4 → get_or (words f) i 0 ≡ word f i
unfolding words
word_at f zero h = refl
word_at f (suc zero) h = refl
word_at f (suc (suc zero)) h = refl
word_at f (suc (suc (suc zero))) h = refl
word_at f (suc (suc (suc (suc i)))) h = absurd (omega arith)

pub in_words : (f : ℕ → Bool) (b : ℕ) → b < 256 → in_set (words f) b ≡ f b
unfolding in_set
in_words f b h =
    let e : 64 * (b / 64) + b % 64 ≡ b = omega arith in
    ap (λ (n : ℕ). bit n (b % 64)) (word_at f (b / 64) (omega arith)) ∙ mask_bit 64 (λ k. f (64 * (b / 64) + k)) (b % 64) (omega arith) ∙ ap f e

in_as : (fold : Bool) (a : Atom) (b : ℕ) → b < 256 → in_set (set_as fold a) b ≡ meet_as fold a b
unfolding set_as
in_as fold a b h = in_words (meet_as fold a) b h

module _ (fold : Bool) (old_sets : List (List ℕ)) where
  met_past : (es : List Elem) (p b : ℕ) → length es ≤ p → met_at (meet_as fold) es p b ≡ false
  met_past [] p b k = refl
  met_past (e ∷ es) zero b k = absurd (omega arith)
  met_past (e ∷ es) (suc p) b k = met_past es p b (omega arith)

  met_here : (es : List Elem) (p b : ℕ) → p < length es → b < 256 → has (sets_of fold es ++ old_sets) p b ≡ met_at (meet_as fold) es p b
  met_here [] p b k l = absurd (omega arith)
  met_here (e ∷ es) zero b k l = in_as fold (atom_of e) b l
  met_here (e ∷ es) (suc p) b k l = met_here es p b (omega arith) l

  meets_is : (es : List Elem) (p b : ℕ) → b < 256 → met (marks no_marks es).at (sets_of fold es ++ old_sets) b p ≡ met_at (meet_as fold) es p b
  unfolding met
  meets_is es p b l = ap (λ (n : ℕ). ltb p n && has (sets_of fold es ++ old_sets) p b) (size_is es) ∙ go (ltb p (length es)) refl
    where
      go : (t : Bool) → ltb p (length es) ≡ t → (t && has (sets_of fold es ++ old_sets) p b) ≡ met_at (meet_as fold) es p b
      go true t = met_here es p b (ltb-true p (length es) t) l
      go false t = sym (met_past es p b (ltb-false p (length es) t))

-- ---- a pattern's machine

pub pattern_agrees : (fold left right : Bool) (es : List Elem) (old_sets : List (List ℕ)) (old_before : List ℕ)
    → Agree (machine_of (shape_by (marks no_marks es) left right) (sets_of fold es ++ old_sets) (befores no_marks es ++ old_before))
    (compiled (meet_as fold) (record { at_start = left; elems = es; at_end = right }))
pattern_agrees fold left right es old_sets old_before = record {
  first = first_is left right es left;
  last = last_is left right es right;
  follow = follow_is es old_before;
  meets = meets_is fold old_sets es;
  null = λ a e. null_by (may_lead (marks no_marks es)) left right a e ∙ ap (λ (t : Bool). (not left || a) && (t && (not right || e))) (free_bit es);
}

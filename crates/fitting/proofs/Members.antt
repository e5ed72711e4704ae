-- The loops over memberships, and what they say of a trigger.
use mathlib.Core.Bool.{Bool, true, false, not, ◌&&◌, ◌||◌}
use mathlib.Core.Path.{◌≡◌, refl, sym, ap, ap₂, ◌∙◌, subst}
use Prim.Native.Nat.{ℕ, ◌+◌, ◌-◌, ◌*◌, ◌/◌, ◌^◌, ◌≤◌, ◌<◌}
use native.Mathlib.Omega.{arith}
use mathlib.Core.List.{List, [], ◌∷◌}
use lib.Dec.{eqb}
use lib.Bits.{bit_and}
use borrow.Author.Tests.{eq-eqb, ne_eqb, not-true, not-false}
use Rattle.octets.specs.Lists.{pick, every, some_of, only}
use Rattle.octets.specs.Bits.{bit}
use Rattle.octets.proofs.Bits.{low_bit}
use Rattle.octets.proofs.Tests.{not_or}
use Rattle.fitting.specs.Fitting.{in_rows, cnf, dnf}
use Rattle.profile.proofs.Opened.{spaced_cons, spaced_none, spaced_start}
use Rattle.cells.specs.Inner.Places.{word}
use Rattle.entries.specs.Inner.Places.{member_numbers}
use Rattle.entries.specs.declared.Member as declared
use Rattle.profile.specs.Image.{Member}
use Rattle.profile.specs.Inner.Decoded.{member_from}
use Rattle.fitting.specs.Inner.Trigger.{members_at, of_rows, marked, hit, fits_by, groups_hold, group_hit, hits, holds_at}

-- a membership as it is read
abbrev Numbers : Type 0
Numbers = declared.Member

row_read : (s : List ℕ) (at : ℕ) (m : Numbers) → m ≡ member_numbers s at → m.row ≡ word s at
row_read s at m em = ap (λ (x : Numbers). x.row) em

group_read : (s : List ℕ) (at : ℕ) (m : Numbers) → m ≡ member_numbers s at → m.group ≡ word s (at + 2)
group_read s at m em = ap (λ (x : Numbers). x.group) em

-- ---- tests over what passes another

module _ {A : Type 0} (p f : A → Bool) where
  only_some_by : (a : A) (l : List A) (b : Bool) → some_of f (only p l) ≡ some_of (λ x. p x && f x) l → some_of f (pick b (a ∷ only p l) (only p l)) ≡ (b && f a) || some_of (λ x. p x && f x) l
  only_some_by a l true ih = ap (λ (t : Bool). f a || t) ih
  only_some_by a l false ih = ih

  pub only_some : (l : List A) → some_of f (only p l) ≡ some_of (λ x. p x && f x) l
  only_some [] = refl
  only_some (a ∷ l) = only_some_by a l (p a) (only_some l)

  only_every_by : (a : A) (l : List A) (b : Bool) → every f (only p l) ≡ every (λ x. not (p x) || f x) l → every f (pick b (a ∷ only p l) (only p l)) ≡ (not b || f a) && every (λ x. not (p x) || f x) l
  only_every_by a l true ih = ap (λ (t : Bool). f a && t) ih
  only_every_by a l false ih = ih

  pub only_every : (l : List A) → every f (only p l) ≡ every (λ x. not (p x) || f x) l
  only_every [] = refl
  only_every (a ∷ l) = only_every_by a l (p a) (only_every l)

-- ---- the memberships from a place on

pub members_cons : (s : List ℕ) (at n i : ℕ) → i < n → members_at s (at + 4 * i) (n - i) ≡ member_from s (at + 4 * i) ∷ members_at s (at + 4 * (i + 1)) (n - (i + 1))
unfolding members_at
members_cons s = spaced_cons (member_from s) 4

members_none : (s : List ℕ) (at n i : ℕ) → n ≤ i → members_at s at (n - i) ≡ []
unfolding members_at
members_none s = spaced_none (member_from s) 4

pub members_start : (s : List ℕ) (at n : ℕ) → members_at s (at + 4 * 0) (n - 0) ≡ members_at s at n
unfolding members_at
members_start s = spaced_start (member_from s) 4

-- all of them pass, so far
pub record All (f : Member → Bool) (s : List ℕ) (at n i : ℕ) (whole : Bool) : Type 0 where
  pub inside : i ≤ n
  pub same : every f (members_at s (at + 4 * i) (n - i)) ≡ whole

module _ (f : Member → Bool) (s : List ℕ) (at n : ℕ) where
  pub all_first : All f s at n 0 (every f (members_at s at n))
  all_first = record { inside = omega arith; same = ap (every f) (members_start s at n) }

  module _ (i : ℕ) (whole : Bool) (h : All f s at n i whole) where
    all_step : i < n → (f (member_from s (at + 4 * i)) && every f (members_at s (at + 4 * (i + 1)) (n - (i + 1)))) ≡ whole
    all_step k = sym (ap (every f) (members_cons s at n i k)) ∙ h.same

    pub all_next : i < n → f (member_from s (at + 4 * i)) ≡ true → All f s at n (i + 1) whole
    all_next k e = record { inside = omega arith; same = sym (ap (λ (b : Bool). b && every f (members_at s (at + 4 * (i + 1)) (n - (i + 1)))) e) ∙ all_step k }

    pub all_no : i < n → f (member_from s (at + 4 * i)) ≡ false → false ≡ whole
    all_no k e = sym (ap (λ (b : Bool). b && every f (members_at s (at + 4 * (i + 1)) (n - (i + 1)))) e) ∙ all_step k

    pub all_end : n ≤ i → true ≡ whole
    all_end k = sym (ap (every f) (members_none s (at + 4 * i) n i k)) ∙ h.same

-- none of them passes, so far
pub record Any (f : Member → Bool) (s : List ℕ) (at n i : ℕ) (whole : Bool) : Type 0 where
  pub inside : i ≤ n
  pub same : some_of f (members_at s (at + 4 * i) (n - i)) ≡ whole

module _ (f : Member → Bool) (s : List ℕ) (at n : ℕ) where
  pub any_first : Any f s at n 0 (some_of f (members_at s at n))
  any_first = record { inside = omega arith; same = ap (some_of f) (members_start s at n) }

  module _ (i : ℕ) (whole : Bool) (h : Any f s at n i whole) where
    any_step : i < n → (f (member_from s (at + 4 * i)) || some_of f (members_at s (at + 4 * (i + 1)) (n - (i + 1)))) ≡ whole
    any_step k = sym (ap (some_of f) (members_cons s at n i k)) ∙ h.same

    pub any_next : i < n → f (member_from s (at + 4 * i)) ≡ false → Any f s at n (i + 1) whole
    any_next k e = record { inside = omega arith; same = sym (ap (λ (b : Bool). b || some_of f (members_at s (at + 4 * (i + 1)) (n - (i + 1)))) e) ∙ any_step k }

    pub any_yes : i < n → f (member_from s (at + 4 * i)) ≡ true → true ≡ whole
    any_yes k e = sym (ap (λ (b : Bool). b || some_of f (members_at s (at + 4 * (i + 1)) (n - (i + 1)))) e) ∙ any_step k

    pub any_end : n ≤ i → false ≡ whole
    any_end k = sym (ap (some_of f) (members_none s (at + 4 * i) n i k)) ∙ h.same

-- ---- the trigger

module _ (want : Bool) (mask first count : ℕ) where
  pub hits_all : (g : ℕ) (ms : List Member) → some_of (hits want mask first count g) ms ≡ group_hit want mask first count g ms
  unfolding group_hit
  hits_all g ms = sym (only_some (of_rows first count) (λ m. eqb m.group g && hit want mask first m) ms)

  pub holds_all : (ms : List Member) → every (holds_at want mask first count ms) ms ≡ groups_hold want mask first count ms
  unfolding groups_hold group_hit
  holds_all ms = sym (only_every (of_rows first count)
      (λ m. some_of (λ n. eqb n.group m.group && hit want mask first n) (only (of_rows first count) ms)) ms)

-- de Morgan
module _ {A : Type 0} (f g : A → Bool) (h : (a : A) → f a ≡ not (g a)) where
  not_and : (a b : Bool) → not (a && b) ≡ not a || not b
  not_and true b = refl
  not_and false b = refl

  pub some_not : (l : List A) → some_of f l ≡ not (every g l)
  some_not [] = refl
  some_not (a ∷ l) = ap₂ ◌||◌ (h a) (some_not l) ∙ sym (not_and (g a) (every g l))

  pub every_not : (l : List A) → every f l ≡ not (some_of g l)
  every_not [] = refl
  every_not (a ∷ l) = ap₂ ◌&&◌ (h a) (every_not l) ∙ sym (not_or (g a) (some_of g l))

module _ (fits : Member → Bool) where
  turned : (g : ℕ) (n : Member) → (not (eqb n.group g) || fits n) ≡ not (eqb n.group g && not (fits n))
  turned g n = go (eqb n.group g) (fits n)
    where
      go : (a b : Bool) → (not a || b) ≡ not (a && not b)
      go true true = refl
      go true false = refl
      go false b = refl

  -- "DNF: in some group all do": not so, that in every group one does not
  pub dnf_turned : (ms : List Member) → dnf fits ms ≡ not (cnf (λ m. not (fits m)) ms)
  dnf_turned ms =
      some_not (λ (m : Member). every (λ (n : Member). not (eqb n.group m.group) || fits n) ms)
      (λ (m : Member). some_of (λ (n : Member). eqb n.group m.group && not (fits n)) ms)
      (λ m. every_not (λ (n : Member). not (eqb n.group m.group) || fits n) (λ (n : Member). eqb n.group m.group && not (fits n)) (turned m.group) ms) ms

module _ (form mask first count : ℕ) (ms : List Member) where
  pub form_dnf : (r : Bool) → r ≡ groups_hold false mask first count ms → form ≡ 0 → not r ≡ fits_by form mask first count ms
  unfolding fits_by groups_hold
  form_dnf r e k = ap not e ∙ sym (dnf_turned (marked mask first) (only (of_rows first count) ms)) ∙ sym (rw (eq-eqb form 0 k))

  pub form_cnf : (r : Bool) → r ≡ groups_hold true mask first count ms → (form ≡ 0 → ⊥) → form ≡ 1 → r ≡ fits_by form mask first count ms
  unfolding fits_by groups_hold
  form_cnf r e k j = e ∙ sym (rw (ne_eqb form 0 k, eq-eqb form 1 j))

  pub form_none : (form ≡ 0 → ⊥) → (form ≡ 1 → ⊥) → true ≡ fits_by form mask first count ms
  unfolding fits_by
  form_none k j = sym (rw (ne_eqb form 0 k, ne_eqb form 1 j))

-- ---- one membership

-- a membership's row
module _ (first count : ℕ) (s : List ℕ) (at : ℕ) (m : Numbers) (em : m ≡ member_numbers s at) (i : Bool) (ei : i ≡ in_rows first count m.row) where
  pub rows_read : i ≡ of_rows first count (member_from s at)
  rows_read = ei ∙ ap (in_rows first count) (row_read s at m em)

module _ (want : Bool) (mask first count g : ℕ) (s : List ℕ) (at : ℕ) (m : Numbers) (em : m ≡ member_numbers s at) (i : Bool) (ei : i ≡ in_rows first count m.row) where
  hits_by : (b : Bool) → i ≡ b → (b && (eqb (word s (at + 2)) g && hit want mask first (member_from s at))) ≡ hits want mask first count g (member_from s at)
  hits_by b e = ap (λ (b : Bool). b && (eqb (word s (at + 2)) g && hit want mask first (member_from s at))) (sym e ∙ rows_read first count s at m em i ei)

  module _ (y : not i ≡ false) where
    is_hit : (eqb m.group g && hit want mask first (member_from s at)) ≡ hits want mask first count g (member_from s at)
    is_hit = ap (λ (x : ℕ). eqb x g && hit want mask first (member_from s at)) (group_read s at m em) ∙ hits_by true (not-false i y)

    the_bit : eqb (bit_and (mask / 2 ^ (m.row - first)) 1) 1 ≡ marked mask first (member_from s at)
    the_bit = low_bit mask (m.row - first) ∙ ap (λ (x : ℕ). bit mask (x - first)) (row_read s at m em)

    pub hits_yes : want ≡ true → (eqb m.group g && eqb (bit_and (mask / 2 ^ (m.row - first)) 1) 1) ≡ hits want mask first count g (member_from s at)
    hits_yes w = ap (λ (b : Bool). eqb m.group g && b) (the_bit ∙ sym (ap (λ (b : Bool). pick b (marked mask first (member_from s at)) (not (marked mask first (member_from s at)))) w)) ∙ is_hit

    pub hits_not : want ≡ false → (eqb m.group g && not (eqb (bit_and (mask / 2 ^ (m.row - first)) 1) 1)) ≡ hits want mask first count g (member_from s at)
    hits_not w = ap (λ (b : Bool). eqb m.group g && b) (ap not the_bit ∙ sym (ap (λ (b : Bool). pick b (marked mask first (member_from s at)) (not (marked mask first (member_from s at)))) w)) ∙ is_hit

-- ---- the two loops

pub record Seeking (want : Bool) (mask first count g : ℕ) (s : List ℕ) (at n i : ℕ) : Type 0 where
  pub so_far : Any (hits want mask first count g) s at n i (group_hit want mask first count g (members_at s at n))

pub record Holding (want : Bool) (mask first count : ℕ) (s : List ℕ) (at n i : ℕ) : Type 0 where
  pub so_far : All (holds_at want mask first count (members_at s at n)) s at n i (groups_hold want mask first count (members_at s at n))

module _ (want : Bool) (mask first count g : ℕ) (s : List ℕ) (at n : ℕ) where
  pub seek_first : Seeking want mask first count g s at n 0
  seek_first = record {
    so_far = subst (λ (b : Bool). Any (hits want mask first count g) s at n 0 b) (hits_all want mask first count g (members_at s at n)) (any_first (hits want mask first count g) s at n);
  }

  module _ (i : ℕ) (h : Seeking want mask first count g s at n i) where
    pub seek_next : (r : Bool) → i < n → r ≡ hits want mask first count g (member_from s (at + 4 * i)) → r ≡ false → Seeking want mask first count g s at n (i + 1)
    seek_next r k e f = record { so_far = any_next (hits want mask first count g) s at n i (group_hit want mask first count g (members_at s at n)) h.so_far k (sym e ∙ f) }

    pub seek_yes : (r : Bool) → i < n → r ≡ hits want mask first count g (member_from s (at + 4 * i)) → r ≡ true → true ≡ group_hit want mask first count g (members_at s at n)
    seek_yes r k e f = any_yes (hits want mask first count g) s at n i (group_hit want mask first count g (members_at s at n)) h.so_far k (sym e ∙ f)

    pub seek_end : n ≤ i → false ≡ group_hit want mask first count g (members_at s at n)
    seek_end k = any_end (hits want mask first count g) s at n i (group_hit want mask first count g (members_at s at n)) h.so_far k

module _ (want : Bool) (mask first count : ℕ) (s : List ℕ) (at n : ℕ) where
  pub hold_first : Holding want mask first count s at n 0
  hold_first = record {
    so_far = subst (λ (b : Bool). All (holds_at want mask first count (members_at s at n)) s at n 0 b) (holds_all want mask first count (members_at s at n)) (all_first (holds_at want mask first count (members_at s at n)) s at n);
  }

  module _ (i : ℕ) (h : Holding want mask first count s at n i) where
    pub hold_next : (r : Bool) → i < n → r ≡ holds_at want mask first count (members_at s at n) (member_from s (at + 4 * i)) → not r ≡ false → Holding want mask first count s at n (i + 1)
    hold_next r k e f = record {
      so_far = all_next (holds_at want mask first count (members_at s at n)) s at n i (groups_hold want mask first count (members_at s at n)) h.so_far k (sym e ∙ not-false r f);
    }

    pub hold_no : (r : Bool) → i < n → r ≡ holds_at want mask first count (members_at s at n) (member_from s (at + 4 * i)) → not r ≡ true → false ≡ groups_hold want mask first count (members_at s at n)
    hold_no r k e f = all_no (holds_at want mask first count (members_at s at n)) s at n i (groups_hold want mask first count (members_at s at n)) h.so_far k (sym e ∙ not-true r f)

    pub hold_end : n ≤ i → true ≡ groups_hold want mask first count (members_at s at n)
    hold_end k = all_end (holds_at want mask first count (members_at s at n)) s at n i (groups_hold want mask first count (members_at s at n)) h.so_far k

-- The rows of a trigger, marked one after the other, and a criterion.
use mathlib.Core.Bool.{Bool, true, false, not, ◌&&◌, ◌||◌}
use mathlib.Core.Path.{◌≡◌, refl, sym, ap, ap₂, ◌∙◌, subst}
use Prim.Native.Nat.{ℕ, zero, suc, ◌+◌, ◌-◌, ◌*◌, ◌%◌, ◌^◌, ◌≤◌, ◌<◌}
use native.Mathlib.Omega.{arith}
use native.Mathlib.Nat.{zero-add, add-zero}
use mathlib.Core.List.{List, [], ◌∷◌, Memᴰ}
use lib.ListN.{get_elem?}
use lib.Bits.{bit_or}
use lib.Dec.{T, leb, ltb, eqb, leb→le, ltb→lt}
use borrow.Author.Tests.{not-true, not-false}
use Rattle.octets.specs.Lists.{pick, every, some_of, only}
use Rattle.octets.specs.Bits.{bit}
use Rattle.octets.proofs.Tests.{left, right}
use Rattle.octets.proofs.Kept.{only_sound}
use Rattle.octets.proofs.Bits.{shl_one, Mask, mask_none, mask_skip, mask_add}
use Rattle.profile.specs.Image.{Member, Criterion, Profile}
use Rattle.request.specs.Request.{Request}
use Rattle.rows.specs.declared.Given.{Given}
use Rattle.trials.specs.Inner.Trying.{most_trials}
use Rattle.trials.specs.declared.Verdict.{Verdict}
use Rattle.fitting.specs.Fitting.{by_form, cnf, dnf, part_fits, memberships, trigger_fits, criterion_fits, trials_at, trials_from, criterion_trials}
use Rattle.fitting.specs.Inner.Trigger.{of_rows, marked, fits_by}
use Rattle.fitting.specs.Inner.Rowwise.{fits_nth, trials_nth, trigger_of, criterion_of, trials_of, tried_of, TriedRow, TriedRows, Considered}
use Rattle.fitting.specs.declared.Marks.{Marks}

-- ---- tests that agree on a list's members

module _ {A : Type 0} where
  every_mem : (f g : A → Bool) (l : List A) → ((a : A) → Memᴰ a l → f a ≡ g a) → every f l ≡ every g l
  every_mem f g [] h = refl
  every_mem f g (a ∷ l) h = ap₂ ◌&&◌ (h a (Memᴰ.head refl)) (every_mem f g l (λ b d. h b (Memᴰ.tail d)))

  some_mem : (f g : A → Bool) (l : List A) → ((a : A) → Memᴰ a l → f a ≡ g a) → some_of f l ≡ some_of g l
  some_mem f g [] h = refl
  some_mem f g (a ∷ l) h = ap₂ ◌||◌ (h a (Memᴰ.head refl)) (some_mem f g l (λ b d. h b (Memᴰ.tail d)))

module _ (f g : Member → Bool) (l : List Member) (h : (m : Member) → Memᴰ m l → f m ≡ g m) where
  cnf_mem : cnf f l ≡ cnf g l
  cnf_mem = every_mem (λ m. some_of (λ n. eqb n.group m.group && f n) l) (λ m. some_of (λ n. eqb n.group m.group && g n) l) l
      (λ m d. some_mem (λ n. eqb n.group m.group && f n) (λ n. eqb n.group m.group && g n) l (λ n e. ap (λ (b : Bool). eqb n.group m.group && b) (h n e)))

  dnf_mem : dnf f l ≡ dnf g l
  dnf_mem = some_mem (λ m. every (λ n. not (eqb n.group m.group) || f n) l) (λ m. every (λ n. not (eqb n.group m.group) || g n) l) l
      (λ m d. every_mem (λ n. not (eqb n.group m.group) || f n) (λ n. not (eqb n.group m.group) || g n) l (λ n e. ap (λ (b : Bool). not (eqb n.group m.group) || b) (h n e)))

  pub form_mem : (form : ℕ) → by_form form f l ≡ by_form form g l
  form_mem form = ap₂ (λ (a b : Bool). pick (eqb form 0) a (pick (eqb form 1) b true)) dnf_mem cnf_mem

-- the mask says what the rows do
module _ (fits : ℕ → Bool) (c : Criterion) (mask : ℕ) (h : (i : ℕ) → i < c.count → bit mask i ≡ fits (c.first + i)) where
  pub trigger_is : (ms : List Member) → fits_by c.form mask c.first c.count ms ≡ trigger_of fits ms c
  unfolding fits_by trigger_of
  trigger_is ms = form_mem (marked mask c.first) (λ m. fits m.row) (only (of_rows c.first c.count) ms) go c.form
    where
      go : (m : Member) → Memᴰ m (only (of_rows c.first c.count) ms) → marked mask c.first m ≡ fits m.row
      go m d =
          let t : T (of_rows c.first c.count m) = (only_sound (of_rows c.first c.count) ms m d).1 in
          let lo : c.first ≤ m.row = leb→le c.first m.row (left (leb c.first m.row) (ltb m.row (c.first + c.count)) t) in
          let hi : m.row < c.first + c.count = ltb→lt m.row (c.first + c.count) (right (leb c.first m.row) (ltb m.row (c.first + c.count)) t) in
          let i : m.row - c.first < c.count = omega arith in
          let e : c.first + (m.row - c.first) ≡ m.row = omega arith in
          h (m.row - c.first) i ∙ ap fits e

-- ---- the loop over a trigger's rows

pub mark_yes : (mask i : ℕ) (fits : Bool) → i < 32 → fits ≡ true → bit_or mask (1 * 2 ^ i % 2 ^ 32) ≡ pick fits (bit_or mask (2 ^ i)) mask
mark_yes mask i fits h e = ap (bit_or mask) (shl_one 32 i h) ∙ sym (ap (λ (b : Bool). pick b (bit_or mask (2 ^ i)) mask) e)

trials_more : (trials : ℕ → ℕ) (first n i : ℕ) → i < n → trials_of trials (first + i) (n - i) ≡ trials (first + i) + trials_of trials (first + (i + 1)) (n - (i + 1))
unfolding trials_of
trials_more trials first n i h =
    let e : n - i ≡ suc (n - (i + 1)) = omega arith in
    let k : suc (first + i) ≡ first + (i + 1) = omega arith in
    ap (trials_of trials (first + i)) e ∙ ap (λ (j : ℕ). trials (first + i) + trials_of trials j (n - (i + 1))) k

pub record Marking (fits : ℕ → Bool) (trials : ℕ → ℕ) (first n i mask t : ℕ) : Type 0 where
  pub inside : i ≤ n
  pub marks : Mask (λ j. fits (first + j)) i mask
  pub tries : t + trials_of trials (first + i) (n - i) ≡ trials_of trials first n
  pub few : t ≤ i * most_trials

module _ (fits : ℕ → Bool) (trials : ℕ → ℕ) (first n : ℕ) where
  pub marking_first : Marking fits trials first n 0 0 0
  marking_first =
      let a : first + 0 ≡ first = omega arith in
      let b : n - 0 ≡ n = omega arith in
      record { inside = omega arith; marks = mask_none (λ j. fits (first + j)); tries = zero-add (trials_of trials (first + 0) (n - 0)) ∙ ap₂ (trials_of trials) a b; few = omega arith }

  marks_by : (i mask : ℕ) (b : Bool) → Mask (λ j. fits (first + j)) i mask → fits (first + i) ≡ b → Mask (λ j. fits (first + j)) (i + 1) (pick b (bit_or mask (2 ^ i)) mask)
  marks_by i mask true m e = mask_add (λ j. fits (first + j)) i mask m e
  marks_by i mask false m e = mask_skip (λ j. fits (first + j)) i mask m e

  module _ (i mask t : ℕ) (w : Marking fits trials first n i mask t) where
    pub marking_next : i < n → (v : Verdict) (m : ℕ) → TriedRow fits trials (first + i) v → m ≡ pick v.fits (bit_or mask (2 ^ i)) mask → Marking fits trials first n (i + 1) m (t + v.trials)
    marking_next h v m ev em = record {
      inside = omega arith;
      marks = subst (λ (k : ℕ). Mask (λ j. fits (first + j)) (i + 1) k) (sym em) (marks_by i mask v.fits w.marks (sym ev.fit));
      tries = let e : trials_of trials (first + i) (n - i) ≡ trials (first + i) + trials_of trials (first + (i + 1)) (n - (i + 1)) = trials_more trials first n i h in
          omega (arith, w.tries, e, ev.tried);
      few = omega (arith, w.few, ev.few);
    }

    pub marking_fit : i < n → n ≤ 32 → (v : Verdict) (k : ℕ) → TriedRow fits trials k v → t + v.trials < 4294967296
    marking_fit h k v j ev = omega (arith, w.few, ev.few)

    pub marking_end : n ≤ i → TriedRows fits trials first n (record { mask = mask; trials = t })
    unfolding trials_of
    marking_end h =
        let e : n - i ≡ 0 = omega arith in
        record {
          marks = λ j k. w.marks.set j (omega (arith, w.inside));
          tried = sym (add-zero t) ∙ sym (ap (λ (k : ℕ). t + trials_of trials (first + i) k) e) ∙ w.tries;
          few = omega (arith, w.few, w.inside);
        }

-- ---- a criterion

module _ (fits : ℕ → Bool) (trials : ℕ → ℕ) (ms : List Member) (case : ℕ) (c : Criterion) (b : Bool) (eb : b ≡ part_fits c.part case) where
  pub part_out : not b ≡ true → Considered (criterion_of fits ms case) (tried_of trials case) c (record { fits = false; trials = 0 })
  unfolding criterion_of tried_of
  part_out h = record {
    fit = sym (ap (λ (x : Bool). x && trigger_of fits ms c) (sym eb ∙ not-true b h));
    tried = sym (ap (λ (x : Bool). pick x (trials_of trials c.first c.count) 0) (sym eb ∙ not-true b h));
    few = omega arith;
  }

  pub part_in : not b ≡ false → (r : Marks) (f : Bool) → TriedRows fits trials c.first c.count r → c.count ≤ 32 → f ≡ fits_by c.form r.mask c.first c.count ms
      → Considered (criterion_of fits ms case) (tried_of trials case) c (record { fits = f; trials = r.trials })
  unfolding criterion_of tried_of
  part_in h r f er short ef = record {
    fit = ef ∙ trigger_is fits c r.mask er.marks ms ∙ sym (ap (λ (x : Bool). x && trigger_of fits ms c) (sym eb ∙ not-false b h));
    tried = er.tried ∙ sym (ap (λ (x : Bool). pick x (trials_of trials c.first c.count) 0) (sym eb ∙ not-false b h));
    few = omega (arith, er.few, short);
  }

-- ---- these are the definitions of Fitting

pub fits_join : (q : Request) (g : Given) (p : Profile) (c : Criterion) → criterion_of (fits_nth q g p) p.members g.case c ≡ criterion_fits q g p c
unfolding criterion_fits trigger_fits memberships criterion_of trigger_of
fits_join q g p c = refl

trials_join : (q : Request) (p : Profile) (first n : ℕ) → trials_of (trials_nth q p) first n ≡ trials_from q p.rows first n
unfolding trials_from trials_of
trials_join q p first zero = refl
trials_join q p first (suc n) = ap (λ (k : ℕ). trials_at q (get_elem? p.rows first) + k) (trials_join q p (suc first) n)

pub tried_join : (q : Request) (g : Given) (p : Profile) (c : Criterion) → tried_of (trials_nth q p) g.case c ≡ criterion_trials q g p c
unfolding criterion_trials tried_of
tried_join q g p c = ap (λ (n : ℕ). pick (part_fits c.part g.case) n 0) (trials_join q p c.first c.count)

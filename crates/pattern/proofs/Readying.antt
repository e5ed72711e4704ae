-- The machine of a pattern is ready for it, and one that takes no part for a string that is none.
use mathlib.Core.Path.{◌≡◌, sym, ap, ◌∙◌, subst, subst⁻¹}
use mathlib.Core.Bool.{Bool, true, false, not, ◌||◌, true≢false}
use mathlib.Core.Option.{Option, none, some, some-injective}
use mathlib.Core.List.{List, [], ◌∷◌, ◌++◌}
use Prim.Native.Nat.{ℕ, ◌≤◌}
use native.Mathlib.Omega.{arith}
use lib.Dec.{T, eqb}
use lib.ListN.{length, drop}
use borrow.Author.Tests.{ne_eqb}
use Rattle.octets.specs.Bits.{bit}
use Rattle.octets.specs.Lists.{pick}
use Rattle.octets.proofs.Bits.{bit_zero}
use Rattle.octets.proofs.Tests.{not_T_of}
use Rattle.machine.specs.Inner.Machine.{Starts, starts_none, starts_live, machine_of}
use Rattle.machine.specs.declared.Shape.{Shape}
use Rattle.machine.proofs.Agreeing.{agree_back, bytes_drop, starts_at_agree}
use Rattle.part.proofs.Alike.{part_agree}
use Rattle.part.proofs.Lengths.{part_starts}
use Rattle.basic.specs.Reading.{read_pattern}
use Rattle.basic.specs.Inner.Judged.{was_read, is_pattern}
use Rattle.basic.specs.Pattern.{Elem, Pattern}
use Rattle.pattern.specs.Inner.Answers.{meet_as, begins_of, begins_at}
use Rattle.pattern.specs.Parts.{FitsAt}
use Rattle.pattern.specs.Inner.Prepared.{no_marks, may_lead, marks, sets_of, befores, shape_by, no_shape, Ready}
use Rattle.pattern.proofs.Agreeing.{pattern_agrees, pattern_closed}
use Rattle.pattern.proofs.Compiled.{starts_iff}
use Rattle.pattern.proofs.Taken.{taken}
use Rattle.pattern.proofs.Positions.{size_is, free_bit}

-- ---- no pattern

none_of : (e : Bool) (k : ℕ) → bit (pick e 0 0) k ≡ false
none_of true k = bit_zero k
none_of false k = bit_zero k

-- the machine with no position takes no part
nothing : (sets : List (List ℕ)) (before : List ℕ) (a : Bool) (l : List ℕ) → Starts (machine_of no_shape sets before) a l → ⊥
nothing sets before true [] (starts_none z) = z
nothing sets before true (b ∷ l) (starts_none z) = z
nothing sets before false [] (starts_none z) = z
nothing sets before false (b ∷ l) (starts_none z) = z
nothing sets before true l (starts_live {p = p} f v) = not_T_of (bit_zero p) f
nothing sets before false l (starts_live {p = p} f v) = not_T_of (bit_zero p) f

no_part : (fold : Bool) (t : List ℕ) (j : ℕ) (o : Option Pattern) → false ≡ was_read o → T (begins_of fold o t j) → ⊥
no_part fold t j none e b = b
no_part fold t j (some x) e b = true≢false (sym e)

-- whatever the lent places hold
pub ready_none : (fold : Bool) (p : List ℕ) (h : Shape) (sets : List (List ℕ)) (before : List ℕ) → false ≡ is_pattern p → h ≡ no_shape
    → length sets ≡ 60 → length before ≡ 60 → Ready fold p h sets before
unfolding is_pattern begins_at
ready_none fold p h sets before e z ls lb =
    subst⁻¹ (λ (k : Shape). Ready fold p k sets before) z
    (record {
      closed = record { few = omega arith; starts = λ a k past. none_of a k; lasts = λ e k past. none_of e k; befores = λ q l. absurd (omega arith) };
      room_sets = ls;
      room_before = lb;
      told = e;
      begins = λ t bytes j inside. (λ v. absurd (nothing sets before (eqb j 0) (drop j t) v), λ b. absurd (no_part fold t j (read_pattern p) e b));
      takes = λ t bytes j n inside. (
        λ v. absurd (nothing sets before (eqb j 0) (drop j t) (part_starts v)),
        λ f. absurd (true≢false (sym (ap was_read f.reads) ∙ sym e)),
      );
    })

-- ---- a pattern

-- it has a position, or the empty part fits
takes : (es : List Elem) → (not (eqb (marks no_marks es).at 0) || may_lead (marks no_marks es)) ≡ true
takes [] = free_bit []
takes (x ∷ es) = ap (λ (b : Bool). not b || may_lead (marks no_marks (x ∷ es))) (ne_eqb (marks no_marks (x ∷ es)).at 0 (λ z. absurd (omega (arith, size_is (x ∷ es), z))))

module _ (fold : Bool) (p : List ℕ) (x : Pattern) (reads : read_pattern p ≡ some x) (few : length x.elems ≤ 60)
    (old_sets : List (List ℕ)) (old_before : List ℕ) where
  abbrev shape : Shape
  shape = shape_by (marks no_marks x.elems) x.at_start x.at_end

  laid_ready : length (sets_of fold x.elems ++ old_sets) ≡ 60 → length (befores no_marks x.elems ++ old_before) ≡ 60
      → Ready fold p shape (sets_of fold x.elems ++ old_sets) (befores no_marks x.elems ++ old_before)
  unfolding is_pattern begins_at
  laid_ready ls lb = record {
    closed = pattern_closed x.elems old_before x.at_start x.at_end few;
    room_sets = ls;
    room_before = lb;
    told = takes x.elems ∙ sym (ap was_read reads);
    begins = λ t bytes j inside.
        let a = starts_at_agree (pattern_agrees fold x.at_start x.at_end x.elems old_sets old_before) t bytes j in
        let f = starts_iff (meet_as fold) x.at_start x.at_end x.elems (eqb j 0) (drop j t) in (
          λ v. subst⁻¹ (λ (o : Option Pattern). T (begins_of fold o t j)) reads (f.0 (a.0 v)),
          λ b. a.1 (f.1 (subst (λ (o : Option Pattern). T (begins_of fold o t j)) reads b)),
        );
    takes = λ t bytes j n inside.
        let g = pattern_agrees fold x.at_start x.at_end x.elems old_sets old_before in
        let f = taken (meet_as fold) x t j n inside in (
          λ v. record { pattern = x; reads = reads; fits = f.0 (part_agree g v (bytes_drop t j bytes)) },
          λ k.
              let same : k.pattern ≡ x = some-injective k.pattern x (sym k.reads ∙ reads) in
              part_agree (agree_back g) (f.1 (subst (λ (y : Pattern). FitsAt (meet_as fold) y t j n) same k.fits)) (bytes_drop t j bytes),
        );
  }

  pub ready_some : (h : Shape) (sets : List (List ℕ)) (before : List ℕ) → h ≡ shape → sets ≡ sets_of fold x.elems ++ old_sets
      → before ≡ befores no_marks x.elems ++ old_before → length sets ≡ 60 → length before ≡ 60 → Ready fold p h sets before
  ready_some h sets before e es eb ls lb =
      rw (e, es, eb) (laid_ready (ap length (sym es) ∙ ls) (ap length (sym eb) ∙ lb))

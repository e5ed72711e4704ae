-- The walk to the next line of a body that is a field, and what walks over values and such lines go by.
use mathlib.Core.Path.{◌≡◌, refl, sym, ap, ◌∙◌, subst}
use mathlib.Core.List.{List, [], ◌∷◌}
use Rattle.std.specs.Prelude.{Option, Some, None}
use Prim.Native.Nat.{ℕ, zero, suc, ◌+◌, ◌-◌, ◌≤◌, ◌<◌}
use native.Mathlib.Omega.{arith}
use lib.ListN.{length}
use Rattle.cuts.specs.Inner.Parts.{part}
use Rattle.contents.specs.Inner.Places.{body_line, session_from, piece_at, values_from}
use Rattle.contents.specs.declared.BodyLine.{BodyLine}
use Rattle.contents.specs.declared.BodyLine.TheVariants.{Typed, Other, Done}
use Rattle.contents.specs.declared.FieldLine.{FieldLine}
use Rattle.contents.specs.declared.Piece.{Piece}
use Rattle.contents.specs.declared.CutValue.{CutValue}
use Rattle.contents.proofs.Values.{ValueAt, value_says}
use Rattle.contents.specs.Inner.Walks.{field_or, field_among, first_field, behind, FieldLineAt, NextField, CutAt, NextCut}
use Rattle.cuts.proofs.Parts.{length_part}
use Rattle.contents.proofs.BodyLines.{TypedAt, OtherAt, LineSays, line_says, line_past}

-- ---- the first of all lines that is a field

-- as many lines as there can be are enough, by what the line at a place says
module _ (b : List ℕ) (k j : ℕ) (h : (p : ℕ) → length b + 1 - p ≤ k → length b + 1 - p ≤ j → field_among k b p ≡ field_among j b p) where
  enough_by : (p : ℕ) → length b + 1 - p ≤ suc k → length b + 1 - p ≤ suc j → (x : BodyLine) → LineSays b p x → field_or (field_among k b) x ≡ field_or (field_among j b) x
  enough_by p hk hj Done says = refl
  enough_by p hk hj (Typed start value end next) says = refl
  enough_by p hk hj (Other next) says = h next (omega (arith, says.on, hk)) (omega (arith, says.on, hj))

past_among : (b : List ℕ) (k p : ℕ) → length b < p → field_among k b p ≡ Done
unfolding field_among
past_among b zero p h = refl
past_among b (suc k) p h = ap (field_or (field_among k b)) (sym (line_past b p h))

enough : (b : List ℕ) (k j p : ℕ) → length b + 1 - p ≤ k → length b + 1 - p ≤ j → field_among k b p ≡ field_among j b p
unfolding field_among
enough b zero j p hk hj = sym (past_among b j p (omega (arith, hk)))
enough b (suc k) zero p hk hj = past_among b (suc k) p (omega (arith, hj))
enough b (suc k) (suc j) p hk hj = enough_by b k j (enough b k j) p hk hj (body_line b p) (line_says b p)

first_here : (b : List ℕ) (p : ℕ) → p ≤ length b → first_field b p ≡ field_or (field_among (length b - p) b) (body_line b p)
unfolding field_among
first_here b p h = let e : length b + 1 - p ≡ suc (length b - p) = omega arith in ap (λ (k : ℕ). field_among k b p) e

-- no line from the place `from` to `at` is a field
pub record Passed (b : List ℕ) (from at : ℕ) : Type 0 where
  pub same : session_from b from ≡ session_from b at
  pub first : first_field b from ≡ first_field b at
  pub on : from ≤ at

pub passed_none : (b : List ℕ) (from : ℕ) → Passed b from from
passed_none b from = record { same = refl; first = refl; on = omega arith }

module _ (b : List ℕ) (from at : ℕ) (w : Passed b from at) (x : BodyLine) (ex : x ≡ body_line b at) where
  said : LineSays b at x
  said = subst (LineSays b at) (sym ex) (line_says b at)

  pub passed_all : x ≡ Done → session_from b from ≡ []
  passed_all e = w.same ∙ subst (LineSays b at) e said

  module _ (next : ℕ) (e : x ≡ Other next) where
    other : OtherAt b at next
    other = subst (LineSays b at) e said

    pub other_less : length b + 1 - next < length b + 1 - at
    other_less = omega (arith, other.on, other.next_inside)

    first_other : first_field b at ≡ first_field b next
    first_other =
        first_here b at (omega (arith, other.on, other.next_inside)) ∙ ap (field_or (field_among (length b - at) b)) (sym ex ∙ e)
        ∙ enough b (length b - at) (length b + 1 - next) next (omega (arith, other.on)) (omega arith)

    pub passed_other : Passed b from next
    passed_other = record { same = w.same ∙ other.list; first = w.first ∙ first_other; on = omega (arith, w.on, other.on) }

  module _ (start value end next : ℕ) (e : x ≡ Typed start value end next) where
    typed : TypedAt b at start value end next
    typed = subst (LineSays b at) e said

    pub type_room : length b ≤ 65535 → start + 1 < 18446744073709551616
    type_room short = omega (arith, typed.type_inside)

    pub type_inside : start + 1 ≤ length b
    type_inside = omega (arith, typed.type_inside)

    first_typed : behind (first_field b at) ≡ next
    first_typed = ap behind (first_here b at (omega (arith, typed.on, typed.next_inside)) ∙ ap (field_or (field_among (length b - at) b)) (sym ex ∙ e))

    pub value_order : value ≤ end
    value_order = typed.value_order

    pub value_inside : end ≤ length b
    value_inside = typed.value_inside

    pub field_line : (l : FieldLine) → l.kind.now ≡ part b start (start + 1) → l.value.now ≡ part b value end → l.next ≡ next → FieldLineAt b from l
    field_line l ek ev en = record {
      list = w.same ∙ typed.list ∙ (λ i. record { type = sym ek i; value = sym ev i } ∷ session_from b (sym en i));
      next_is = en ∙ sym first_typed ∙ ap behind (sym w.first);
      short = omega (arith, ap (λ (v : List ℕ). length v) ev, length_part b value end typed.value_order typed.value_inside, typed.value_inside);
      on = omega (arith, w.on, typed.on, en);
      next_inside = omega (arith, typed.next_inside, en);
    }

-- ---- what a walk over them goes by

pub line_here : (b : List ℕ) (p : ℕ) (x : Option FieldLine) → NextField b p x → (l : FieldLine) → x ≡ Some l → FieldLineAt b p l
line_here b p x says l e = subst (NextField b p) e says

pub line_less : (b : List ℕ) (p : ℕ) (x : Option FieldLine) → NextField b p x → (l : FieldLine) → x ≡ Some l → length b + 1 - l.next < length b + 1 - p
line_less b p x says l e = let h = line_here b p x says l e in omega (arith, h.on, h.next_inside)

pub line_none : (b : List ℕ) (p : ℕ) (x : Option FieldLine) → NextField b p x → x ≡ None → session_from b p ≡ []
line_none b p x says e = subst (NextField b p) e says

-- ---- the values

module _ (v : List ℕ) (p : ℕ) (inside : p ≤ length v) (x : Piece) (ex : x ≡ piece_at v p) where
  cut : ValueAt v p x
  cut = subst (ValueAt v p) (sym ex) (value_says v p inside)

  pub cut_order : x.start ≤ x.end
  cut_order = cut.order

  pub cut_inside : x.end ≤ length v
  cut_inside = cut.inside

  pub cut_value : (r : CutValue) → r.bytes.now ≡ part v x.start x.end → r.next ≡ x.next → CutAt v p r
  cut_value r eb en = record {
    list = cut.list ∙ (λ i. sym eb i ∷ values_from v (sym en i));
    next_is = en ∙ ap (λ (q : Piece). q.next) ex;
    short = omega (arith, ap (λ (b : List ℕ). length b) eb, length_part v x.start x.end cut.order cut.inside, cut.inside);
    inside = inside;
    on = omega (arith, cut.on, en);
    next_inside = omega (arith, cut.next_inside, en);
  }

pub cut_here : (v : List ℕ) (p : ℕ) (x : Option CutValue) → NextCut v p x → (r : CutValue) → x ≡ Some r → CutAt v p r
cut_here v p x says r e = subst (NextCut v p) e says

pub cut_less : (v : List ℕ) (p : ℕ) (x : Option CutValue) → NextCut v p x → (r : CutValue) → x ≡ Some r → length v + 1 - r.next < length v + 1 - p
cut_less v p x says r e = let h = cut_here v p x says r e in omega (arith, h.on, h.next_inside)

pub cut_none : (v : List ℕ) (p : ℕ) (x : Option CutValue) → NextCut v p x → x ≡ None → values_from v p ≡ []
cut_none v p x says e = subst (NextCut v p) e says

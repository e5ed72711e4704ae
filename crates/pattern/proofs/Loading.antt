-- Reading into the lent places in one go: what is read is counted and stored at once, for a string that may turn out to be no pattern.
use mathlib.Core.Path.{◌≡◌, sym, ap, ◌∙◌, subst⁻¹}
use mathlib.Core.Bool.{Bool, true, false}
use mathlib.Core.List.{List, []}
use Prim.Native.Nat.{ℕ, ◌+◌, ◌-◌, ◌<◌, ◌≤◌}
use native.Mathlib.Omega.{arith}
use lib.Dec.{eqb, ltb}
use lib.ListN.{length, get_or, set, length-set}
use Rattle.octets.specs.Lists.{pick, peek}
use Rattle.machine.specs.declared.Shape.{Shape}
use Rattle.basic.specs.Inner.Judged.{is_pattern}
use Rattle.basic.specs.Inner.Places.{start_of, stop_of}
use Rattle.basic.specs.declared.reader.Piece.{Piece}
use Rattle.basic.proofs.Elements.{repeats_at, behind_of, stop_inside, stop_before, Counted, count_empty, count_start, count_lost, count_more, count_full, count_done}
use Rattle.pattern.specs.Inner.Prepared.{no_marks, mark, before_at, set_as, shape_by, no_shape, LaidHere, NotLaid, Ready}
use Rattle.pattern.specs.declared.edition1.Marks.{Marks}
use Rattle.pattern.proofs.Filling.{Whole, whole_of, Filling, fill_start, fill_stop, fill_more}
use Rattle.pattern.proofs.Readying.{ready_none}

pub load_room : (n : ℕ) → n ≤ 60 → (n ≡ 60 → ⊥) → n < 60
load_room n l free = omega arith

-- what is left gets shorter
pub load_less : (n i e j : ℕ) → i < e → e ≤ j → e ≤ n → n - j < n - i
load_less n i e j h k l = omega arith

module _ (fold : Bool) (s : List ℕ) (old_sets : List (List ℕ)) (old_before : List ℕ) where
  -- the elements before i are counted and stored, and those from i on decide whether there is a pattern
  pub record Loading (i : ℕ) (first : Bool) (m : Marks) (ss : List (List ℕ)) (bs : List ℕ) : Type 0 where
    pub counts : Counted s i first m.at
    pub fills : is_pattern s ≡ true → (w : Whole s) × Filling fold s old_sets old_before w i first m ss bs
    pub low : m.at ≤ 60
    pub room_sets : length ss ≡ 60
    pub room_before : length bs ≡ 60

  pub load_empty : (h : Shape) → length s ≡ 0 → h ≡ no_shape → length old_sets ≡ 60 → length old_before ≡ 60 → Ready fold s h old_sets old_before
  load_empty h e z ls lb = ready_none fold s h old_sets old_before (count_empty s e) z ls lb

  module _ (ls : length old_sets ≡ 60) (lb : length old_before ≡ 60) where
    pub load_start : (i : ℕ) (m : Marks) → (length s ≡ 0 → ⊥) → i ≡ start_of s → m ≡ no_marks → Loading i true m old_sets old_before
    load_start i m n e z =
        subst⁻¹ (λ (k : Marks). Loading i true k old_sets old_before) z
        (record {
          counts = count_start s i n e;
          fills = λ y. let w = whole_of s y in (w, fill_start fold s old_sets old_before w i e);
          low = omega arith;
          room_sets = ls;
          room_before = lb;
        })

    module _ (i : ℕ) (first : Bool) (m : Marks) (ss : List (List ℕ)) (bs : List ℕ) (l : Loading i first m ss bs) where
      module _ (stop : ℕ) (w : stop ≡ stop_of s) where
        pub load_end : stop ≤ i → (h : Shape) (next : ℕ) → next ≡ peek s → h ≡ shape_by m (eqb next 94) (ltb i (length s)) → Ready fold s h ss bs
        load_end k h next q z =
            let f = l.fills (sym (count_done s i first m.at l.counts stop w k l.low)) in
            fill_stop fold s old_sets old_before f.0 i first m ss bs f.1 ls lb stop w k h next q z l.room_sets l.room_before

        module _ (k : i < stop) where
          pub load_many : m.at ≡ 60 → (h : Shape) → h ≡ no_shape → Ready fold s h ss bs
          load_many full h q = ready_none fold s h ss bs (count_full s i first m.at l.counts stop w k full) q l.room_sets l.room_before

          pub load_lost : (ss' : List (List ℕ)) → NotLaid fold first s i ss ss' → (h : Shape) → h ≡ no_shape → Ready fold s h ss' bs
          load_lost ss' a h q =
              ready_none fold s h ss' bs (count_lost s i first m.at l.counts stop w k (set_as fold) a.refused) q (ap length a.same ∙ l.room_sets) l.room_before

          -- the element at i is laid
          module _ (end : ℕ) (ss' : List (List ℕ)) (a : LaidHere fold first s i m.at end ss ss') where
            abbrev r : Piece
            r = record { end = end; set = get_or ss' m.at [] }

            module _ (free : m.at ≡ 60 → ⊥) where
              counts_on : (i' : ℕ) → i' ≡ behind_of s end → (x : ℕ) → x ≡ m.at + 1 → Counted s i' false x
              counts_on i' q x e = rw e (count_more s i first m.at l.counts stop w k (set_as fold) r a.piece i' q)

              load_more : (i' : ℕ) (m' : Marks) (v : ℕ) (b : Bool) → b ≡ repeats_at s end → i' ≡ behind_of s end → m' ≡ mark m b → v ≡ before_at m b
                  → Loading i' false m' ss' (set bs m.at v)
              load_more i' m' v b eb ei em ev =
                  let one : m'.at ≡ m.at + 1 = ap (λ (x : Marks). x.at) em in
                  subst⁻¹ (λ (x : List (List ℕ)). Loading i' false m' x (set bs m.at v)) a.stored
                  (record {
                    counts = counts_on i' ei m'.at one;
                    fills = λ y. let f = l.fills y in (
                      f.0,
                      fill_more fold s old_sets old_before f.0 i first m ss bs f.1 (stop_inside s i stop w k) (stop_before s i stop w k) r a.piece i' m' v b eb ei em ev,
                    );
                    low = omega (arith, load_room m.at l.low free);
                    room_sets = length-set ss m.at r.set ∙ l.room_sets;
                    room_before = length-set bs m.at v ∙ l.room_before;
                  })

              -- it stands once, or a `*` follows it
              module _ (t : Bool) (f : t ≡ repeats_at s end) (m' : Marks) (v : ℕ) where
                pub load_starred : t ≡ true → m' ≡ mark m true → v ≡ before_at m true → Loading (end + 1) false m' ss' (set bs m.at v)
                load_starred z em ev =
                    let e : true ≡ repeats_at s end = sym z ∙ f in
                    load_more (end + 1) m' v true e (ap (λ (b : Bool). pick b (end + 1) end) e) em ev

                pub load_once : t ≡ false → m' ≡ mark m false → v ≡ before_at m false → Loading end false m' ss' (set bs m.at v)
                load_once z em ev =
                    let e : false ≡ repeats_at s end = sym z ∙ f in
                    load_more end m' v false e (ap (λ (b : Bool). pick b (end + 1) end) e) em ev

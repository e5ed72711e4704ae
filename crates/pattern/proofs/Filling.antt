-- A pattern while it is read: what remains, and what the lent places hold at its end.
use mathlib.Core.Path.{◌≡◌, refl, sym, ap, ap₂, ◌∙◌, subst⁻¹}
use mathlib.Core.Bool.{Bool, true, false, not, ◌&&◌, true≢false}
use mathlib.Core.Option.{Option, none, some}
use mathlib.Core.List.{List, [], ◌∷◌, ◌++◌}
use Prim.Native.Nat.{ℕ, suc, ◌+◌, ◌*◌, ◌%◌, ◌^◌, ◌<◌, ◌≤◌}
use native.Mathlib.Nat.{zero-add}
use native.Mathlib.Numerals.{add-one}
use native.Mathlib.Omega.{arith}
use lib.Dec.{eqb, leb, ltb}
use lib.ListN.{length, get_or, drop, set}
use lib.Seq.{sets, sets-eq}
use borrow.Author.Tests.{leb-true}
use Rattle.octets.specs.Lists.{pick, peek}
use Rattle.octets.specs.Option.{◌>>=◌, holds}
use Rattle.octets.proofs.Bits.{shl_one}
use Rattle.machine.specs.declared.Shape.{Shape}
use Rattle.basic.specs.Reading.{atom, elem, Body, read_pattern}
use Rattle.basic.specs.Inner.Judged.{was_read, is_pattern}
use Rattle.basic.specs.Pattern.{Atom, Elem}
use Rattle.basic.specs.Inner.Places.{map_got, body_of, start_of, stop_of, PieceHere}
use Rattle.basic.specs.declared.reader.Piece.{Piece}
use Rattle.basic.proofs.Elements.{repeats_at, behind_of, with_elem, Step, anchor_at, body_stop, body_more, finished, read_is, count_empty}
use Rattle.pattern.specs.Inner.Prepared.{starred, atom_of, no_marks, may_lead, mark, marks, before_at, set_as, sets_of, befores, shape_by, Ready}
use Rattle.pattern.specs.declared.edition1.Marks.{Marks}
use Rattle.pattern.proofs.Positions.{befores_length}
use Rattle.pattern.proofs.Readying.{ready_some}

-- ---- what was read

-- the pattern, where it was read
pub record Whole (s : List ℕ) : Type 0 where
  pub body : Body
  pub reads : body_of true (drop (start_of s) s) ≡ some body
  pub few : length body.parts ≤ 60
  pub is : read_pattern s ≡ some (record { at_start = eqb (peek s) 94; elems = body.parts; at_end = body.anchored })

pub whole_of : (s : List ℕ) → is_pattern s ≡ true → Whole s
unfolding is_pattern
whole_of s e = go (body_of true (drop (start_of s) s)) refl (read_is s (λ z. true≢false (sym e ∙ sym (count_empty s z))))
  where
    held : (b : Body) → body_of true (drop (start_of s) s) ≡ some b → (t : Bool) → leb (length b.parts) 60 ≡ t
        → read_pattern s ≡ (holds t >>= (λ x. some (record { at_start = eqb (peek s) 94; elems = b.parts; at_end = b.anchored }))) → Whole s
    held b q true l r = record { body = b; reads = q; few = leb-true (length b.parts) 60 l; is = r }
    held b q false l r = absurd (true≢false (sym e ∙ ap was_read r))

    go : (o : Option Body) → body_of true (drop (start_of s) s) ≡ o → read_pattern s ≡ finished (eqb (peek s) 94) o → Whole s
    go none q r = absurd (true≢false (sym e ∙ ap was_read r))
    go (some b) q r = held b q (leb (length b.parts) 60) refl r

-- ---- an element's parts

starred_elem : (t : Bool) (x : Atom) → starred (elem t x) ≡ t
starred_elem true x = refl
starred_elem false x = refl

atom_elem : (t : Bool) (x : Atom) → atom_of (elem t x) ≡ x
atom_elem true x = refl
atom_elem false x = refl

-- ---- the loop

-- what the elements leave in a lent place
lengths : (fold : Bool) (es : List Elem) → length (sets_of fold es) ≡ length es
lengths fold [] = refl
lengths fold (e ∷ es) = ap suc (lengths fold es)

laid : {A : Type 0} (l old : List A) (n : ℕ) → length l ≡ n → n ≤ length old → sets old 0 l ≡ l ++ drop n old
laid l old n e h =
    let q : length l ≤ length old = omega arith in
    sets-eq l old 0 (subst⁻¹ (λ (k : ℕ). k ≤ length old) (zero-add (length l)) q) ∙ ap (λ (k : ℕ). l ++ drop k old) (zero-add (length l) ∙ e)

module _ (fold : Bool) (s : List ℕ) (old_sets : List (List ℕ)) (old_before : List ℕ) (w : Whole s) where
  -- the elements before i are stored; with those from i on stored too, the lent places hold the whole pattern
  pub record Filling (i : ℕ) (first : Bool) (m : Marks) (ss : List (List ℕ)) (bs : List ℕ) : Type 0 where
    pub rest : Body
    pub reads : body_of first (drop i s) ≡ some rest
    pub right : rest.anchored ≡ w.body.anchored
    pub marked : marks m rest.parts ≡ marks no_marks w.body.parts
    pub sets_on : sets ss m.at (sets_of fold rest.parts) ≡ sets old_sets 0 (sets_of fold w.body.parts)
    pub before_on : sets bs m.at (befores m rest.parts) ≡ sets old_before 0 (befores no_marks w.body.parts)

  pub fill_start : (i : ℕ) → i ≡ start_of s → Filling i true no_marks old_sets old_before
  fill_start i q =
      subst⁻¹ (λ (k : ℕ). Filling k true no_marks old_sets old_before) q
      (record { rest = w.body; reads = w.reads; right = refl; marked = refl; sets_on = refl; before_on = refl })

  module _ (i : ℕ) (first : Bool) (m : Marks) (ss : List (List ℕ)) (bs : List ℕ) (f : Filling i first m ss bs) where
    -- nothing is left but the anchor
    pub fill_stop : length old_sets ≡ 60 → length old_before ≡ 60 → (stop : ℕ) → stop ≡ stop_of s → stop ≤ i → (h : Shape) (next : ℕ) → next ≡ peek s
        → h ≡ shape_by m (eqb next 94) (ltb i (length s)) → length ss ≡ 60 → length bs ≡ 60 → Ready fold s h ss bs
    fill_stop os ob stop q k h next en eh ls lb =
        let z : ◌≡◌ {A = Option Body} (some f.rest) (some (record { parts = []; anchored = ltb i (length s) })) = sym f.reads ∙ body_stop s i first stop q k in
        let rest : f.rest ≡ record { parts = []; anchored = ltb i (length s) } = cc in
        let none : f.rest.parts ≡ [] = ap (λ (b : Body). b.parts) rest in
        let all : m ≡ marks no_marks w.body.parts = ap (marks m) (sym none) ∙ f.marked in
        let right : ltb i (length s) ≡ w.body.anchored = sym (ap (λ (b : Body). b.anchored) rest) ∙ f.right in
        let few : length w.body.parts ≤ 60 = w.few in
        let n : ℕ = length w.body.parts in
        ready_some fold s (record { at_start = eqb (peek s) 94; elems = w.body.parts; at_end = w.body.anchored }) w.is few (drop n old_sets) (drop n old_before) h ss bs
        (eh ∙ ap₂ (λ (k : Marks) (b : Bool). shape_by k (eqb next 94) b) all right ∙ ap (λ (k : ℕ). shape_by (marks no_marks w.body.parts) (eqb k 94) w.body.anchored) en)
        (ap (λ (l : List Elem). sets ss m.at (sets_of fold l)) (sym none) ∙ f.sets_on
        ∙ laid (sets_of fold w.body.parts) old_sets n (lengths fold w.body.parts) (omega arith))
        (ap (λ (l : List Elem). sets bs m.at (befores m l)) (sym none) ∙ f.before_on
        ∙ laid (befores no_marks w.body.parts) old_before n (befores_length no_marks w.body.parts) (omega arith))
        ls lb

    module _ (h : i < length s) (e : anchor_at s i ≡ false) (r : Piece)
        (a : PieceHere (map_got (set_as fold) (atom first (get_or s i 0) (drop (i + 1) s))) s i r) where
      abbrev repeats : Bool
      repeats = repeats_at s r.end

      abbrev behind : ℕ
      behind = behind_of s r.end

      -- the element at i, and those behind it
      record Split : Type 0 where
        value : Atom
        drawing : set_as fold value ≡ r.set
        more : Body
        reads : body_of false (drop behind s) ≡ some more
        is : f.rest ≡ record { parts = elem repeats value ∷ more.parts; anchored = more.anchored }

      split : Split
      split = go (body_more s i first h (set_as fold) e r a) (body_of false (drop behind s)) refl
        where
          go : (x : Step (set_as fold) s i first r.end r.set) (o : Option Body) → body_of false (drop behind s) ≡ o → Split
          go x none q =
              let z : ◌≡◌ {A = Option Body} none (some f.rest) = sym (x.left ∙ ap (with_elem (elem repeats x.value)) q) ∙ f.reads in
              absurd (let y : ◌≡◌ {A = ℕ} 0 1 = cc in omega arith)
          go x (some more) q =
              let z : ◌≡◌ {A = Option Body} (some (record { parts = elem repeats x.value ∷ more.parts; anchored = more.anchored })) (some f.rest) =
              sym (x.left ∙ ap (with_elem (elem repeats x.value)) q) ∙ f.reads
              in
              record { value = x.value; drawing = x.drawing; more = more; reads = q; is = cc }

      pub fill_more : (i' : ℕ) (m' : Marks) (v : ℕ) (t : Bool) → t ≡ repeats → i' ≡ behind → m' ≡ mark m t → v ≡ before_at m t
          → Filling i' false m' (set ss m.at r.set) (set bs m.at v)
      fill_more i' m' v t et ei em ev =
          let x = split in
          let p : f.rest.parts ≡ elem repeats x.value ∷ x.more.parts = ap (λ (b : Body). b.parts) x.is in
          let one : starred (elem repeats x.value) ≡ t = starred_elem repeats x.value ∙ sym et in
          let draw : set_as fold (atom_of (elem repeats x.value)) ≡ r.set = ap (set_as fold) (atom_elem repeats x.value) ∙ x.drawing in
          subst⁻¹ (λ (k : ℕ). Filling k false m' (set ss m.at r.set) (set bs m.at v)) ei
          (subst⁻¹ (λ (k : Marks). Filling behind false k (set ss m.at r.set) (set bs m.at v)) em
          (record {
            rest = x.more;
            reads = x.reads;
            right = sym (ap (λ (b : Body). b.anchored) x.is) ∙ f.right;
            marked = ap (λ (b : Bool). marks (mark m b) x.more.parts) (sym one) ∙ ap (marks m) (sym p) ∙ f.marked;
            sets_on =
                ap₂ (λ (k : ℕ) (y : List ℕ). sets (set ss m.at y) k (sets_of fold x.more.parts)) (add-one m.at) (sym draw)
                ∙ ap (λ (l : List Elem). sets ss m.at (sets_of fold l)) (sym p) ∙ f.sets_on;
            before_on =
                ap₂ (λ (k : ℕ) (y : ℕ). sets (set bs m.at y) k (befores (mark m t) x.more.parts)) (add-one m.at) ev
                ∙ ap (λ (b : Bool). sets (set bs m.at (before_at m b)) (suc m.at) (befores (mark m b) x.more.parts)) (sym one)
                ∙ ap (λ (l : List Elem). sets bs m.at (befores m l)) (sym p) ∙ f.before_on;
          }))

-- ---- the machine

pub shape_is : (m : Marks) (left right : Bool) (start inner stops : ℕ) (free : Bool) → m.at ≤ 60 → start ≡ m.lead % (1 * 2 ^ m.at % 2 ^ 64) → free ≡ may_lead m
    → inner ≡ pick left 0 start → stops ≡ pick right 0 m.run
    → ◌≡◌ {A = Shape}
    (record {
      size = m.at;
      start = start;
      inner = inner;
      ends = m.run;
      stops = stops;
      whole = free;
      head = free && not right;
      tail = free && not left;
      middle = free && not left && not right;
    })
    (shape_by m left right)
shape_is m left right start inner stops free h a f i s = rw (i, a, shl_one 64 m.at (omega arith), f, s) refl

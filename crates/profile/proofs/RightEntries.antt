-- What was written and is read is right, entry by entry: the converse of `WrittenEntries`.
use mathlib.Core.Bool.{Bool, true, false, not, cond, ◌||◌}
use mathlib.Core.Path.{◌≡◌, sym, subst}
use Prim.Native.Nat.{ℕ, ◌+◌, ◌≤◌, ◌<◌}
use native.Mathlib.Omega.{arith}
use mathlib.Core.List.{List, ◌++◌}
use lib.ListN.{length, drop}
use lib.Dec.{T, leb, eqb, ltb, ltb→lt, le→leb}
use Rattle.cells.specs.Inner.Out.{Out, good, ◌>>=◌}
use Rattle.profile.specs.Judging.{first_ok}
use Rattle.cells.specs.Inner.Places as cells
use Rattle.entries.specs.Inner.Places as places
use Rattle.cells.specs.Inner.Places.{u16, counted, sized, exactly, absent, named, named_or_absent}
use Rattle.entries.specs.Inner.Places.{first_of_row, second_of_row, follows, stands, right_count, row_start, row_count, trigger, rest}
use Rattle.profile.specs.Written.{two, string, row, membership, criterion}
use Rattle.profile.specs.Inner.Writable.{names, names_or_none, RightString, RightRow, RightMember, RightCriterion}
use Rattle.entries.specs.declared.Row.{Row}
use Rattle.entries.specs.declared.Member.{Member}
use Rattle.entries.specs.declared.Trigger.{Trigger}
use Rattle.entries.specs.declared.Criterion.{Criterion}
use Rattle.cells.proofs.Laws.{bind_inv, good_inj}
use Rattle.profile.proofs.WrittenFields.{Rest, further, u16_back}
use Rattle.profile.proofs.RightFields.{must_on, tested_on, limited_on, word_on, counted_on, exactly_on, named_on, named_or_absent_on, long_on}

-- ---- strings

pub string_right : (s : List ℕ) (at : ℕ) (b t : List ℕ) (x : List ℕ × ℕ) → length b < 65536 → Rest s at (string b ++ t) → cells.string s at ≡ good x → RightString b
unfolding cells.string sized
string_right s at b t x low r e =
    let (v, q, f) = bind_inv (sized s at) _ x e in
    (counted_on s at (b ++ t) _ v (length b) low r 1024 q).0

-- ---- rows

-- its numbers have a place in their fields
pub record RowLow (x : Row) : Type 0 where
  pub first : x.first < 65536
  pub second : x.second < 65536

module _ {B : Type 0} (s : List ℕ) (at : ℕ) (t : List ℕ) (strs : List (List ℕ)) (k i : ℕ) (low : i < 65536) (r : Rest s at (two i ++ t)) (f : ℕ → Out B) (b : B) where
  first_on : (first_of_row s strs k at >>= f) ≡ good b → T (cond (eqb k 3) (leb i 3) (names strs k i)) × (f i ≡ good b)
  unfolding first_of_row
  first_on = by (eqb k 3)
    where
      by : (c : Bool) → (cond c (counted s at 3) (named s strs k at) >>= f) ≡ good b → T (cond c (leb i 3) (names strs k i)) × (f i ≡ good b)
      by true h = let w = counted_on s at t f b i low r 3 h in (le→leb i 3 w.0, w.1)
      by false h = named_on s at t f b i low r strs k h

  second_on : (second_of_row s strs k at >>= f) ≡ good b → T (cond (eqb k 2 || eqb k 4) (names_or_none strs k i) (eqb i absent)) × (f i ≡ good b)
  unfolding second_of_row
  second_on = by (eqb k 2 || eqb k 4)
    where
      by : (c : Bool) → (cond c (named_or_absent s strs k at) (exactly s absent at) >>= f) ≡ good b
          → T (cond c (names_or_none strs k i) (eqb i absent)) × (f i ≡ good b)
      by true h = named_or_absent_on s at t f b i low r strs k h
      by false h = exactly_on s at t f b i low r absent h

pub row_right : (s : List ℕ) (at : ℕ) (t : List ℕ) (strs : List (List ℕ)) (x : Row) (b : Row × ℕ) → RowLow x → Rest s at (row x ++ t)
    → places.reading_row s strs at ≡ good b → RightRow strs x
unfolding places.reading_row
row_right s at t strs x b low r e =
    let n = limited_on s at _ _ b 1 x.negated r e in
    let k = limited_on s (at + 1) _ _ b 4 x.kind (further r 1 (omega arith)) n.1 in
    let f = first_on s (at + 2) _ strs x.kind x.first low.first (further r 2 (omega arith)) _ b k.1 in
    let d = second_on s (at + 4) _ strs x.kind x.second low.second (further r 4 (omega arith)) _ b f.1 in
    let g = limited_on s (at + 6) _ _ b 6 x.set (further r 6 (omega arith)) d.1 in
    record { negated = n.0; kind = k.0; first = f.0; second = d.0; set = g.0 }

-- ---- memberships

pub member_right : (s : List ℕ) (at : ℕ) (t : List ℕ) (rows : ℕ) (before : List Member) (m : Member) (b : Member × ℕ) → (m.row < 65536) × (m.group < 65536)
    → Rest s at (membership m ++ t) → places.reading_member s rows (follows before) at ≡ good b → RightMember rows before m
unfolding places.reading_member
member_right s at t rows before m b low r e =
    let w = word_on s at _ _ b m.row low.0 r e in
    let n = must_on (ltb m.row rows) 4 at _ b w in
    let g = word_on s (at + 2) t _ b m.group low.1 (further r 2 (omega arith)) n.1 in
    let f = must_on (follows before m.row m.group) 4 at _ b g in
    record { row = ltb→lt m.row rows n.0; group = low.1; rises = f.0 }

-- ---- criteria

pub record CriterionLow (c : Criterion) : Type 0 where
  pub priority : c.priority < 4294967296
  pub first : c.trigger.first < 65536
  pub count : c.trigger.count < 65536
  pub server : c.server < 65536
  pub info : c.info < 65536

module _ {B : Type 0} (s : List ℕ) (at : ℕ) (t : List ℕ) (form i : ℕ) (low : i < 65536) (r : Rest s at (two i ++ t)) (f : ℕ → Out B) (b : B) where
  start_on : (row_start s form at >>= f) ≡ good b → T (first_ok form i) × (f i ≡ good b)
  unfolding row_start
  start_on = by (eqb form 2)
    where
      by : (c : Bool) → (cond c (exactly s 0 at) (u16 s at) >>= f) ≡ good b → T (not c || eqb i 0) × (f i ≡ good b)
      by true h = exactly_on s at t f b i low r 0 h
      by false h = (tt, word_on s at t f b i low r h)

  count_on : (rows first : ℕ) → (row_count s rows form first at >>= f) ≡ good b → T (right_count rows form first i) × (f i ≡ good b)
  unfolding row_count
  count_on rows first h = tested_on (u16 s at) i (right_count rows form first) 4 at f b (u16_back s at t i low r) h

module _ (s : List ℕ) (at : ℕ) (t : List ℕ) (strs : List (List ℕ)) (rows : ℕ) (before : List Criterion) (c : Criterion) (low : CriterionLow c)
    (r : Rest s at (criterion c ++ t)) where
  -- form, first row and row count
  record RightTrigger : Type 0 where
    form : c.trigger.form ≤ 2
    first : T (first_ok c.trigger.form c.trigger.first)
    count : T (right_count rows c.trigger.form c.trigger.first c.trigger.count)

  from_form : Rest s (at + 5) (drop 5 (criterion c ++ t))
  from_form = further r 5 (omega arith)

  trigger_right : (x : Trigger) → trigger s rows (at + 5) ≡ good x → RightTrigger × (c.trigger ≡ x)
  unfolding trigger
  trigger_right x e =
      let f = limited_on s (at + 5) _ _ x 2 c.trigger.form from_form e in
      let i = start_on s (at + 5 + 1) _ c.trigger.form c.trigger.first low.first (further from_form 1 (omega arith)) _ x f.1 in
      let n = count_on s (at + 5 + 3) _ c.trigger.form c.trigger.count low.count (further from_form 3 (omega arith)) _ x rows c.trigger.first i.1 in
      (record { form = f.0; first = i.0; count = n.0 }, good_inj n.1)

  trigger_on : {B : Type 0} (f : Trigger → Out B) (b : B) → (trigger s rows (at + 5) >>= f) ≡ good b → RightTrigger × (f c.trigger ≡ good b)
  trigger_on f b e =
      let (x, q, g) = bind_inv (trigger s rows (at + 5)) f b e in
      let w = trigger_right x q in
      (w.0, subst (λ (y : Trigger). f y ≡ good b) (sym w.1) g)

  -- all after the priority
  record RightRest : Type 0 where
    part : c.part ≤ 2
    trigger : RightTrigger
    server : T (names strs 0 c.server)
    handling : c.handling ≤ 2
    info : T (names_or_none strs 5 c.info)

  rest_right : (b : Criterion × ℕ) → rest s strs rows c.priority at ≡ good b → RightRest
  unfolding rest
  rest_right b e =
      let p = limited_on s (at + 4) _ _ b 2 c.part (further r 4 (omega arith)) e in
      let g = trigger_on _ b p.1 in
      let n = named_on s (at + 10) _ _ b c.server low.server (further r 10 (omega arith)) strs 0 g.1 in
      let h = limited_on s (at + 12) _ _ b 2 c.handling (further r 12 (omega arith)) n.1 in
      let i = named_or_absent_on s (at + 13) t _ b c.info low.info (further r 13 (omega arith)) strs 5 h.1 in
      record { part = p.0; trigger = g.0; server = n.0; handling = h.0; info = i.0 }

  pub criterion_right : (b : Criterion × ℕ) → places.reading_criterion s strs rows (stands before) at ≡ good b → RightCriterion strs rows before c
  unfolding places.reading_criterion
  criterion_right b e =
      let p = long_on s at _ _ b c.priority low.priority r e in
      let n = must_on (not (stands before c.priority)) 6 at _ b p in
      let w = rest_right b n.1 in
      record {
        priority = low.priority;
        new = n.0;
        part = w.part;
        form = w.trigger.form;
        first = w.trigger.first;
        count = w.trigger.count;
        server = w.server;
        handling = w.handling;
        info = w.info;
      }

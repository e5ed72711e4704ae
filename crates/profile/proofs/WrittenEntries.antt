-- What is written is read back, entry by entry: a string, a row, a membership, a criterion.
use mathlib.Core.Bool.{Bool, true, false, not, cond, ◌&&◌, ◌||◌}
use mathlib.Core.Path.{◌≡◌, sym, ap, ap₂, ◌∙◌}
use Prim.Native.Nat.{ℕ, ◌+◌, ◌≤◌, ◌<◌}
use native.Mathlib.Omega.{arith}
use borrow.Author.Tests.{lt-ltb}
use mathlib.Core.List.{List, ◌++◌}
use lib.ListN.{length, take, drop}
use lib.Seq.{take-append_seam}
use lib.Dec.{T, leb, eqb, leb→le, eqb→eq}
use Rattle.octets.proofs.Tests.{right, is_true}
use Rattle.cells.specs.Inner.Out.{good}
use Rattle.profile.specs.Judging.{first_ok}
use Rattle.cells.specs.Inner.Places as cells
use Rattle.entries.specs.Inner.Places as places
use Rattle.cells.specs.Inner.Places.{word, text_at, u16, counted, sized, exactly, absent, named, named_or_absent}
use Rattle.entries.specs.Inner.Places.{first_of_row, second_of_row, follows, stands, right_count, row_start, row_count, trigger, rest}
use Rattle.profile.specs.Written.{two, string, row, membership, criterion}
use Rattle.profile.specs.Inner.Writable.{names, names_or_none, RightString, RightRow, RightMember, RightCriterion}
use Rattle.entries.specs.declared.Row.{Row}
use Rattle.entries.specs.declared.Member.{Member}
use Rattle.entries.specs.declared.Criterion.{Criterion}
use Rattle.cells.proofs.Laws.{sized_yes}
use Rattle.profile.proofs.WrittenFields.{Rest, further, after, word_back, u16_back, limited_back, counted_back, exactly_back, u32_back, named_back, named_or_absent_back}

-- ---- strings

module _ (s : List ℕ) (at : ℕ) (b t : List ℕ) (h : RightString b) (r : Rest s at (string b ++ t)) where
  pub length_back : word s at ≡ length b
  length_back = word_back s at (b ++ t) (length b) (omega (arith, h)) r

  pub bytes_back : Rest s (at + 2) (b ++ t)
  bytes_back = further r 2 (omega arith)

  text_back : take (length b) (drop (at + 2) s) ≡ b
  text_back = ap (take (length b)) bytes_back.is ∙ take-append_seam b t

  pub text_at_back : text_at s at ≡ b
  text_at_back = rw length_back text_back

  pub string_back : cells.string s at ≡ good (b, at + length (string b))
  unfolding cells.string
  string_back =
      let count : counted s at 1024 ≡ good (length b) = counted_back s at (b ++ t) 1024 (length b) h (omega arith) r in
      let size : sized s at ≡ good (length b) = sym (sized_yes s at (length b) count (after s (at + 2) b t bytes_back).inside) in
      rw size (ap₂ (λ (l : List ℕ) (k : ℕ). good (l, k)) text_back (omega arith))

-- ---- rows

module _ (s : List ℕ) (at : ℕ) (t : List ℕ) (strs : List (List ℕ)) (few : length strs ≤ 1024) (k i : ℕ) where
  -- the first field, by whether the kind is SessionCase
  first_by : (b : Bool) → T (cond b (leb i 3) (names strs k i)) → Rest s at (two i ++ t)
      → cond b (counted s at 3) (named s strs k at) ≡ good i
  first_by true h r = counted_back s at t 3 i (leb→le i 3 h) (omega arith) r
  first_by false h r = named_back s at t strs few k i h r

  -- the second, by whether the kind has a Content
  second_by : (b : Bool) → T (cond b (names_or_none strs k i) (eqb i absent)) → Rest s at (two i ++ t)
      → cond b (named_or_absent s strs k at) (exactly s absent at) ≡ good i
  second_by true h r = named_or_absent_back s at t strs few k i h r
  second_by false h r = exactly_back s at t absent i h (omega arith) r

module _ (s : List ℕ) (at : ℕ) (t : List ℕ) (strs : List (List ℕ)) (few : length strs ≤ 1024)
    (x : Row) (h : RightRow strs x) (r : Rest s at (row x ++ t)) where
  first_back : first_of_row s strs x.kind (at + 2) ≡ good x.first
  unfolding first_of_row
  first_back = first_by s (at + 2) _ strs few x.kind x.first (eqb x.kind 3) h.first (further r 2 (omega arith))

  second_back : second_of_row s strs x.kind (at + 4) ≡ good x.second
  unfolding second_of_row
  second_back =
      second_by s (at + 4) _ strs few x.kind x.second (eqb x.kind 2 || eqb x.kind 4) h.second (further r 4 (omega arith))

  pub row_back : places.reading_row s strs at ≡ good (x, at + 7)
  unfolding places.reading_row
  row_back =
      rw (
        limited_back s at _ 1 x.negated h.negated r,
        limited_back s (at + 1) _ 4 x.kind h.kind (further r 1 (omega arith)),
        first_back,
        second_back,
        limited_back s (at + 6) _ 6 x.set h.set (further r 6 (omega arith)),
      )

-- ---- memberships

pub member_back : (s : List ℕ) (at : ℕ) (t : List ℕ) (rows : ℕ) → rows ≤ 2048 → (before : List Member) (m : Member)
    → RightMember rows before m → Rest s at (membership m ++ t)
    → places.reading_member s rows (follows before) at ≡ good (m, at + 4)
unfolding places.reading_member
member_back s at t rows few before m h r =
    rw (
      u16_back s at _ m.row (omega (arith, h.row)) r,
      lt-ltb m.row rows h.row,
      u16_back s (at + 2) t m.group h.group (further r 2 (omega arith)),
      is_true (follows before m.row m.group) h.rises,
    )

-- ---- criteria

module _ (s : List ℕ) (at : ℕ) (t : List ℕ) (rows form first count : ℕ) (few : rows ≤ 2048)
    (fh : T (first_ok form first)) (ch : T (right_count rows form first count)) where
  low : (first < 65536) × (count < 65536)
  low = by (eqb form 2) fh ch
    where
      by : (b : Bool) → T (not b || eqb first 0) → T (cond b (eqb count 0) (leb 1 count && leb count 32 && leb (first + count) rows))
          → (first < 65536) × (count < 65536)
      by true f c = (omega (arith, eqb→eq first 0 f), omega (arith, eqb→eq count 0 c))
      by false f c =
          let sum = leb→le (first + count) rows (right (leb 1 count && leb count 32) (leb (first + count) rows) c) in
          (omega arith, omega arith)

  start_back : Rest s at (two first ++ t) → row_start s form at ≡ good first
  unfolding row_start
  start_back r = by (eqb form 2) fh
    where
      by : (b : Bool) → T (not b || eqb first 0) → cond b (exactly s 0 at) (u16 s at) ≡ good first
      by true f = exactly_back s at t 0 first f (omega arith) r
      by false f = u16_back s at t first low.0 r

  count_back : Rest s at (two count ++ t) → row_count s rows form first at ≡ good count
  unfolding row_count
  count_back r = rw (u16_back s at t count low.1 r, is_true (right_count rows form first count) ch)

module _ (s : List ℕ) (at : ℕ) (t : List ℕ) (strs : List (List ℕ)) (strs_few : length strs ≤ 1024) (rows : ℕ) (rows_few : rows ≤ 2048)
    (before : List Criterion) (c : Criterion) (h : RightCriterion strs rows before c) (r : Rest s at (criterion c ++ t)) where
  -- the bytes from the form on
  from_form : Rest s (at + 5) (drop 5 (criterion c ++ t))
  from_form = further r 5 (omega arith)

  trigger_back : trigger s rows (at + 5) ≡ good c.trigger
  unfolding trigger
  trigger_back =
      rw (
        limited_back s (at + 5) _ 2 c.trigger.form h.form from_form,
        start_back s (at + 5 + 1) _ rows c.trigger.form c.trigger.first c.trigger.count rows_few h.first h.count
            (further from_form 1 (omega arith)),
        count_back s (at + 5 + 3) _ rows c.trigger.form c.trigger.first c.trigger.count rows_few h.first h.count
            (further from_form 3 (omega arith)),
      )

  rest_back : rest s strs rows c.priority at ≡ good (c, at + 15)
  unfolding rest
  rest_back =
      rw (
        limited_back s (at + 4) _ 2 c.part h.part (further r 4 (omega arith)),
        trigger_back,
        named_back s (at + 10) _ strs strs_few 0 c.server h.server (further r 10 (omega arith)),
        limited_back s (at + 12) _ 2 c.handling h.handling (further r 12 (omega arith)),
        named_or_absent_back s (at + 13) t strs strs_few 5 c.info h.info (further r 13 (omega arith)),
      )

  pub criterion_back : places.reading_criterion s strs rows (stands before) at ≡ good (c, at + 15)
  unfolding places.reading_criterion
  criterion_back = rw (u32_back s at c.priority _ h.priority r, is_true (not (stands before c.priority)) h.new) rest_back

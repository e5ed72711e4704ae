-- How the judgement goes, section by section.
use Prim.Native.Nat.{ℕ, ◌+◌, ◌*◌, ◌≤◌}
use native.Mathlib.Omega.{arith}
use mathlib.Core.Path.{◌≡◌, refl, sym, ap, ◌∙◌}
use mathlib.Core.List.{List, ◌++◌}
use lib.ListN.{length, drop}
use lib.Dec.{leb, eqb}
use borrow.Author.Tests.{leb-true, eqb-true}
use Rattle.cells.specs.Inner.Out.{Out, good, bad, ◌>>=◌, ◌>>◌, must}
use Rattle.profile.specs.Written.{Entries}
use Rattle.entries.specs.declared.Member.{Member}
use Rattle.profile.specs.Inner.Places.{judge_by_places}
use Rattle.cells.specs.Inner.Places.{byte, word, whole, u8, counted, reading_strings, texts, ends, offsets, past}
use Rattle.entries.specs.Inner.Places.{reading_rows, reading_members, reading_criteria, reading_placed, placed, has, spaced, row_numbers, member_numbers}
use Rattle.cells.specs.Inner.Answers.{Table, Tabled, Filled}
use Rattle.profile.specs.Inner.Answers.{opening, criteria_on, members_on, rows_on, judged_out, Laid}
use Rattle.profile.specs.Inner.Decoded.{layout}
use Rattle.std.specs.Prelude.{Ok}
use Rattle.profile.specs.declared.Layout.{Layout}
use Rattle.cells.proofs.Laws.{must_inv, bind_inv, counted_inv, good_inj, bad_good}
use Rattle.cells.proofs.Many.{ends_bad, ends_inv}
use Rattle.entries.proofs.Decode.{rows_are, members_are, criteria_are}

pub opening_inv : (s : List ℕ) (n : ℕ) → opening s ≡ good n → (length s ≤ 32768) × (n ≤ 1024)
unfolding opening
opening_inv s n e =
    let h = must_inv (leb (length s) 32768) 1 0 _ n e in
    let (v, q, r) = bind_inv (u8 s 0) _ n h.1 in
    let k = must_inv (eqb v 1) 4 0 _ n r in
    (leb-true (length s) 32768 h.0, (counted_inv s 1 1024 n k.1).1)

then_assoc : {A B : Type 0} (o : Out Unit) (r : Out A) (k : A → Out B) → ((o >> r) >>= k) ≡ (o >> (r >>= k))
then_assoc (good u) r k = refl
then_assoc (bad n p) r k = refl

bind_assoc : {A B C : Type 0} (o : Out A) (f : A → Out B) (k : B → Out C) → ((o >>= f) >>= k) ≡ (o >>= λ a. f a >>= k)
bind_assoc (good a) f k = refl
bind_assoc (bad n p) f k = refl

inner : (o : Out ℕ) (t : ℕ → Out Unit) (r : Out ℕ) (k : ℕ → Out Entries) → (o >>= λ v. (t v >> r) >>= k) ≡ (o >>= λ v. t v >> (r >>= k))
inner (good v) t r k = then_assoc (t v) r k
inner (bad n p) t r k = refl

abbrev pub strings_on : List ℕ → ℕ → Out Entries
strings_on s n = reading_strings s n 3 >>= λ q. rows_on s q.0 q.1

pub judge_opens : (s : List ℕ) → judge_by_places s ≡ (opening s >>= strings_on s)
unfolding judge_by_places opening rows_on members_on criteria_on
judge_opens s = sym (then_assoc (must (leb (length s) 32768) 1 0) (u8 s 0 >>= λ v. must (eqb v 1) 4 0 >> counted s 1 1024) (strings_on s)
    ∙ ap (λ (r : Out Entries). must (leb (length s) 32768) 1 0 >> r)
    (bind_assoc (u8 s 0) (λ v. must (eqb v 1) 4 0 >> counted s 1 1024) (strings_on s) ∙ inner (u8 s 0) (λ v. must (eqb v 1) 4 0) (counted s 1 1024) (strings_on s)))

pub opening_count : (s : List ℕ) (n : ℕ) → opening s ≡ good n → n ≡ word s 1
unfolding opening
opening_count s n e =
    let h = must_inv (leb (length s) 32768) 1 0 _ n e in
    let (v, q, r) = bind_inv (u8 s 0) _ n h.1 in
    let k = must_inv (eqb v 1) 4 0 _ n r in
    (counted_inv s 1 1024 n k.1).0

-- section three as one reading
placed_on : {B : Type 0} (s : List ℕ) (rows n at first : ℕ) (f : List Member × ℕ → Out B)
    → (reading_members s rows n at >>= λ q. placed (has q.0) rows 0 first >> f q) ≡ (reading_placed s rows n at first >>= f)
unfolding reading_placed
placed_on s rows n at first f = go (reading_members s rows n at)
  where
    by : (o : Out Unit) (q : List Member × ℕ) → (o >> f q) ≡ ((o >> good q) >>= f)
    by (good u) q = refl
    by (bad m p) q = refl

    go : (o : Out (List Member × ℕ)) → (o >>= λ q. placed (has q.0) rows 0 first >> f q) ≡ ((o >>= λ q. placed (has q.0) rows 0 first >> good q) >>= f)
    go (good q) = by (placed (has q.0) rows 0 first) q
    go (bad m p) = refl

placed_are : (s : List ℕ) (rows n at first e : ℕ) → ends (reading_placed s rows n at first) ≡ good e
    → (reading_placed s rows n at first ≡ good (spaced (member_numbers s) 4 at n, e)) × (e ≡ at + 4 * n)
unfolding reading_placed
placed_are s rows n at first e h =
    let (l, o) = ends_inv (reading_placed s rows n at first) e h in
    let (q, r, g) = bind_inv (reading_members s rows n at) _ (l, e) o in
    let z : q ≡ (l, e) = good_inj (then_good (placed (has q.0) rows 0 first) (good q) (l, e) g) in
    let m = members_are s rows n at l e (r ∙ ap good z) in
    (rw (← m.0) o, m.1)
  where
    then_good : {A : Type 0} (o : Out Unit) (r : Out A) (a : A) → (o >> r) ≡ good a → r ≡ good a
    then_good (good u) r a h = h
    then_good (bad n p) r a h = bad_good h

-- an image that is opened is of edition 1
opening_edition : (s : List ℕ) (n : ℕ) → opening s ≡ good n → byte s 0 ≡ 1
unfolding opening u8 whole
opening_edition s n e =
    let h = must_inv (leb (length s) 32768) 1 0 _ n e in
    let (v, q, r) = bind_inv (u8 s 0) _ n h.1 in
    let k = must_inv (eqb v 1) 4 0 _ n r in
    let w = must_inv (leb 1 (length s)) 2 (length s) (good (byte s 0)) v q in
    good_inj w.1 ∙ eqb-true v 1 k.0

-- ---- the judgement, field by field: each fact is what the code read, and a refusal there is the image's

pub opening_no : (s : List ℕ) (m q : ℕ) → bad m q ≡ opening s → bad m q ≡ judge_by_places s
opening_no s m q e = sym (judge_opens s ∙ rw (← e))

module _ (s : List ℕ) (n : ℕ) (opened : good n ≡ opening s) where
  on_strings : judge_by_places s ≡ strings_on s n
  on_strings = judge_opens s ∙ rw (← opened)

  pub strings_no : (m q : ℕ) → reading_strings s n 3 ≡ bad m q → bad m q ≡ judge_by_places s
  strings_no m q e = sym (on_strings ∙ rw e)

  module _ (table : List ℕ) (at₂ : ℕ) (tabled : Tabled (Ok at₂) s n table) where
    pub table_is : Table s n table
    table_is = record { count = (opening_inv s n (sym opened)).1; long = tabled.3; inside = tabled.1 }

    abbrev strs : List (List ℕ)
    strs = texts s n table

    on_rows : judge_by_places s ≡ rows_on s strs at₂
    on_rows = on_strings ∙ rw tabled.0

    pub row_count_no : (m q : ℕ) → bad m q ≡ counted s at₂ 2048 → bad m q ≡ judge_by_places s
    unfolding rows_on
    row_count_no m q e = sym (on_rows ∙ rw (← e))

    module _ (n₂ : ℕ) (rows_counted : good n₂ ≡ counted s at₂ 2048) where
      pub rows_low : (at₂ + 2 ≤ 40000) × (n₂ ≤ 2048)
      rows_low = (omega (arith, tabled.2), (counted_inv s at₂ 2048 n₂ (sym rows_counted)).1)

      pub rows_no : (m q : ℕ) → bad m q ≡ ends (reading_rows s strs n₂ (at₂ + 2)) → bad m q ≡ judge_by_places s
      unfolding rows_on
      rows_no m q e = sym (on_rows ∙ rw (← rows_counted, ends_bad (reading_rows s strs n₂ (at₂ + 2)) m q (sym e)))

      module _ (at₃ : ℕ) (rows_read : good at₃ ≡ ends (reading_rows s strs n₂ (at₂ + 2))) where
        rows_end : at₃ ≡ at₂ + 2 + 7 * n₂
        rows_end = (rows_are s strs n₂ (at₂ + 2) at₃ (sym rows_read)).1

        pub members_low : at₃ + 2 ≤ 60000
        members_low = omega (arith, rows_end, tabled.2, rows_low.1)

        on_members : judge_by_places s ≡ members_on s strs (spaced (row_numbers s) 7 (at₂ + 2) n₂) n₂ (at₂ + 2) at₃
        unfolding rows_on
        on_members = on_rows ∙ rw (← rows_counted, (rows_are s strs n₂ (at₂ + 2) at₃ (sym rows_read)).0)

        pub member_count_no : (m q : ℕ) → bad m q ≡ counted s at₃ 16384 → bad m q ≡ judge_by_places s
        unfolding members_on
        member_count_no m q e = sym (on_members ∙ rw (← e))

        module _ (n₃ : ℕ) (members_counted : good n₃ ≡ counted s at₃ 16384) where
          pub members_few : n₃ ≤ 16384
          members_few = (counted_inv s at₃ 16384 n₃ (sym members_counted)).1

          pub members_no : (m q : ℕ) → bad m q ≡ ends (reading_placed s n₂ n₃ (at₃ + 2) (at₂ + 2)) → bad m q ≡ judge_by_places s
          unfolding members_on
          members_no m q e = sym (on_members ∙ rw (← members_counted) (placed_on s n₂ n₃ (at₃ + 2) (at₂ + 2) _ ∙ rw (ends_bad (reading_placed s n₂ n₃ (at₃ + 2) (at₂ + 2)) m q (sym e))))

          module _ (at₄ : ℕ) (members_read : good at₄ ≡ ends (reading_placed s n₂ n₃ (at₃ + 2) (at₂ + 2))) where
            section : (reading_placed s n₂ n₃ (at₃ + 2) (at₂ + 2) ≡ good (spaced (member_numbers s) 4 (at₃ + 2) n₃, at₄)) × (at₄ ≡ at₃ + 2 + 4 * n₃)
            section = placed_are s n₂ n₃ (at₃ + 2) (at₂ + 2) at₄ (sym members_read)

            pub criteria_low : at₄ + 2 ≤ 150000
            criteria_low = omega (arith, section.1, members_low, members_few)

            on_criteria : judge_by_places s ≡ criteria_on s strs (spaced (row_numbers s) 7 (at₂ + 2) n₂) (spaced (member_numbers s) 4 (at₃ + 2) n₃) n₂ at₄
            unfolding members_on
            on_criteria = on_members ∙ rw (← members_counted) (placed_on s n₂ n₃ (at₃ + 2) (at₂ + 2) _ ∙ rw section.0)

            pub criterion_count_no : (m q : ℕ) → bad m q ≡ counted s at₄ 64 → bad m q ≡ judge_by_places s
            unfolding criteria_on
            criterion_count_no m q e = sym (on_criteria ∙ rw (← e))

            module _ (n₄ : ℕ) (criteria_counted : good n₄ ≡ counted s at₄ 64) where
              pub criteria_few : n₄ ≤ 64
              criteria_few = (counted_inv s at₄ 64 n₄ (sym criteria_counted)).1

              pub criteria_no : (m q : ℕ) → bad m q ≡ ends (reading_criteria s strs n₂ n₄ (at₄ + 2)) → bad m q ≡ judge_by_places s
              unfolding criteria_on
              criteria_no m q e = sym (on_criteria ∙ rw (← criteria_counted, ends_bad (reading_criteria s strs n₂ n₄ (at₄ + 2)) m q (sym e)))

              module _ (end : ℕ) (criteria_read : good end ≡ ends (reading_criteria s strs n₂ n₄ (at₄ + 2))) where
                pub trailing_no : (m q : ℕ) → bad m q ≡ must (eqb end (length s)) 3 end → bad m q ≡ judge_by_places s
                unfolding criteria_on
                trailing_no m q e = sym (on_criteria ∙ rw (← criteria_counted, (criteria_are s strs n₂ n₄ (at₄ + 2) end (sym criteria_read)).0, ← e))

                module _ (whole_read : good tt ≡ must (eqb end (length s)) 3 end) where
                  abbrev y : Layout
                  y = record {
                    edition = 1;
                    strings = n;
                    rows = at₂ + 2;
                    row_count = n₂;
                    members = at₃ + 2;
                    member_count = n₃;
                    criteria = at₄ + 2;
                    criterion_count = n₄;
                  }

                  pub accepts : judged_out (Ok y) s table ≡ judge_by_places s
                  unfolding criteria_on
                  accepts = sym (on_criteria ∙ rw (← criteria_counted, (criteria_are s strs n₂ n₄ (at₄ + 2) end (sym criteria_read)).0, ← whole_read))

                  pub lays : (before : List ℕ) → Filled (Ok at₂) s n before table → Laid (Ok y) s before table
                  unfolding layout
                  lays before filled =
                      let a : n ≡ word s 1 = opening_count s n (sym opened) in
                      let b : 1 ≡ byte s 0 = sym (opening_edition s n (sym opened)) in
                      let c : at₂ ≡ past s (word s 1) 3 = filled.1 ∙ ap (λ (k : ℕ). past s k 3) a in
                      let d : n₂ ≡ word s at₂ = (counted_inv s at₂ 2048 n₂ (sym rows_counted)).0 in
                      let e : at₃ ≡ at₂ + 2 + 7 * n₂ = rows_end in
                      let f : n₃ ≡ word s at₃ = (counted_inv s at₃ 16384 n₃ (sym members_counted)).0 in
                      let g : at₄ ≡ at₃ + 2 + 4 * n₃ = section.1 in
                      let h : n₄ ≡ word s at₄ = (counted_inv s at₄ 64 n₄ (sym criteria_counted)).0 in
                      (cc, filled.0 ∙ ap (λ (k : ℕ). offsets s k 3 ++ drop k before) a)

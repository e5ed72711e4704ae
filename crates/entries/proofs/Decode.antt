-- What a reading that is not refused gives is what stands at its place.
use Prim.Native.Nat.{ℕ, zero, suc, ◌+◌, ◌*◌}
use native.Mathlib.Omega.{arith}
use native.Mathlib.Nat.{mul-suc}
use mathlib.Core.Path.{◌≡◌, refl, sym, ap, ◌∙◌, subst}
use mathlib.Core.Bool.{Bool, true, false, not, cond, ◌||◌}
use mathlib.Core.List.{List, [], ◌∷◌, ◌++◌, append-nil, append_assoc}
use lib.ListN.{length, get_or}
use lib.Dec.{leb, ltb, eqb}
use Rattle.cells.specs.Inner.Out.{Out, good, bad, ◌>>=◌, ◌>>◌, must}
use Rattle.cells.specs.Inner.Places.{byte, word, whole, u8, u16, u32, limited, many, named, named_or_absent, exactly, usable, absent, ends}
use Rattle.entries.specs.Inner.Places.{first_of_row, second_of_row, reading_row, reading_rows, reading_member, follows, reading_members, row_start, right_count, row_count, trigger, rest, reading_criterion, stands, reading_criteria, spaced, row_numbers, member_numbers, trigger_numbers, criterion_numbers}
use Rattle.entries.specs.declared.Row.{Row}
use Rattle.entries.specs.declared.Member.{Member}
use Rattle.entries.specs.declared.Trigger.{Trigger}
use Rattle.entries.specs.declared.Criterion.{Criterion}
use Rattle.cells.proofs.Laws.{bad_good, good_inj, u16_inv, u32_inv, counted_inv}
use Rattle.cells.proofs.Many.{ends_inv}

-- what holds of all that the rest of a reading can give holds of what the reading gives
gives : {A B : Type 0} (P : B → Type 0) (o : Out A) (f : A → Out B) → ((a : A) → o ≡ good a → (b : B) → f a ≡ good b → P b) → (b : B) → (o >>= f) ≡ good b → P b
gives P (good a) f h b e = h a refl b e
gives P (bad n p) f h b e = bad_good e

after : {B : Type 0} (P : B → Type 0) (o : Out Unit) (r : Out B) → ((b : B) → r ≡ good b → P b) → (b : B) → (o >> r) ≡ good b → P b
after P (good u) r h b e = h b e
after P (bad n p) r h b e = bad_good e

u8_is : (s : List ℕ) (at v : ℕ) → u8 s at ≡ good v → v ≡ byte s at
unfolding u8
u8_is s at = after (λ (v : ℕ). v ≡ byte s at) (whole s at 1) _ λ v e. good_inj (sym e)

limited_is : (s : List ℕ) (at k v : ℕ) → limited s at k ≡ good v → v ≡ byte s at
unfolding limited
limited_is s at k = gives (λ (v : ℕ). v ≡ byte s at) (u8 s at) _ λ i q. after (λ (v : ℕ). v ≡ byte s at) (must (leb i k) 4 at) _ λ v e. good_inj (sym e) ∙ u8_is s at i q

module _ (s : List ℕ) (at : ℕ) where
  abbrev Word : ℕ → Type 0
  Word v = v ≡ word s at

  u16_is : (v : ℕ) → u16 s at ≡ good v → Word v
  u16_is v e = (u16_inv s at v e).1

  exactly_is : (k v : ℕ) → exactly s k at ≡ good v → Word v
  unfolding exactly
  exactly_is k = gives Word (u16 s at) _ λ i q. after Word (must (eqb i k) 4 at) _ λ v e. good_inj (sym e) ∙ u16_is i q

  named_is : (strs : List (List ℕ)) (k v : ℕ) → named s strs k at ≡ good v → Word v
  unfolding named
  named_is strs k = gives Word (u16 s at) _ λ i q. after Word (must (ltb i (length strs)) 4 at) _ (after Word (must (usable k (get_or strs i [])) 5 at) _ λ v e. good_inj (sym e) ∙ u16_is i q)

  named_or_absent_is : (strs : List (List ℕ)) (k v : ℕ) → named_or_absent s strs k at ≡ good v → Word v
  unfolding named_or_absent
  named_or_absent_is strs k = gives Word (u16 s at) _ λ i q. after Word (must (eqb i absent || ltb i (length strs)) 4 at) _ (after Word (must (eqb i absent || usable k (get_or strs i [])) 5 at) _ λ v e. good_inj (sym e) ∙ u16_is i q)

  either : (b : Bool) (x y : Out ℕ) → ((v : ℕ) → x ≡ good v → Word v) → ((v : ℕ) → y ≡ good v → Word v) → (v : ℕ) → cond b x y ≡ good v → Word v
  either true x y f g = f
  either false x y f g = g

  first_of_row_is : (strs : List (List ℕ)) (k v : ℕ) → first_of_row s strs k at ≡ good v → Word v
  unfolding first_of_row
  first_of_row_is strs k = either (eqb k 3) _ _ (λ v e. (counted_inv s at 3 v e).0) (named_is strs k)

  second_of_row_is : (strs : List (List ℕ)) (k v : ℕ) → second_of_row s strs k at ≡ good v → Word v
  unfolding second_of_row
  second_of_row_is strs k = either (eqb k 2 || eqb k 4) _ _ (named_or_absent_is strs k) (exactly_is absent)

  row_start_is : (form v : ℕ) → row_start s form at ≡ good v → Word v
  unfolding row_start
  row_start_is form = either (eqb form 2) _ _ (exactly_is 0) u16_is

  row_count_is : (rows form first v : ℕ) → row_count s rows form first at ≡ good v → Word v
  unfolding row_count
  row_count_is rows form first = gives Word (u16 s at) _ λ i q. after Word (must (right_count rows form first i) 4 at) _ λ v e. good_inj (sym e) ∙ u16_is i q

-- an item that is g of its place, and ends w further on
abbrev Item : {A : Type 0} → (ℕ → A) → ℕ → ℕ → A × ℕ → Type 0
Item g w at q = (q.0 ≡ g at) × (q.1 ≡ at + w)

abbrev R : List ℕ → ℕ → Row × ℕ → Type 0
R s at = Item (row_numbers s) 7 at

-- the item that is read, at the values that are read
item : {A : Type 0} (g : ℕ → A) (w at : ℕ) (a : A) (q : A × ℕ) → good (a, at + w) ≡ good q → a ≡ g at → Item g w at q
item g w at a q e h = (sym (ap (λ (z : _ × ℕ). z.0) (good_inj e)) ∙ h, sym (ap (λ (z : _ × ℕ). z.1) (good_inj e)))

row_is : (s : List ℕ) (strs : List (List ℕ)) (at : ℕ) (q : Row × ℕ) → reading_row s strs at ≡ good q → R s at q
unfolding reading_row
row_is s strs at =
    gives (R s at) (limited s at 1) _ λ a₁ e₁. gives (R s at) (limited s (at + 1) 4) _ λ k e₂. gives (R s at) (first_of_row s strs k (at + 2)) _
    λ a₃ e₃. gives (R s at) (second_of_row s strs k (at + 4)) _ λ a₄ e₄. gives (R s at) (limited s (at + 6) 6) _
    λ a₅ e₅ q e. item (row_numbers s) 7 at _ q e
    (rw (limited_is s at 1 a₁ e₁, limited_is s (at + 1) 4 k e₂, first_of_row_is s (at + 2) strs k a₃ e₃, second_of_row_is s (at + 4) strs k a₄ e₄, limited_is s (at + 6) 6 a₅ e₅))

abbrev M : List ℕ → ℕ → Member × ℕ → Type 0
M s at = Item (member_numbers s) 4 at

member_is : (s : List ℕ) (rows : ℕ) (ok : ℕ → ℕ → Bool) (at : ℕ) (q : Member × ℕ) → reading_member s rows ok at ≡ good q → M s at q
unfolding reading_member
member_is s rows ok at =
    gives (M s at) (u16 s at) _ λ r e₁. after (M s at) (must (ltb r rows) 4 at) _ (gives (M s at) (u16 s (at + 2)) _ λ g e₂. after (M s at) (must (ok r g) 4 at) _
    λ q e. item (member_numbers s) 4 at _ q e (rw (u16_is s at r e₁, u16_is s (at + 2) g e₂)))

trigger_is : (s : List ℕ) (rows at : ℕ) (t : Trigger) → trigger s rows at ≡ good t → t ≡ trigger_numbers s at
unfolding trigger
trigger_is s rows at =
    gives (λ t. t ≡ trigger_numbers s at) (limited s at 2) _ λ form e₁. gives (λ t. t ≡ trigger_numbers s at) (row_start s form (at + 1)) _
    λ first e₂. gives (λ t. t ≡ trigger_numbers s at) (row_count s rows form first (at + 3)) _
    λ n e₃ t e. sym (good_inj e) ∙ rw (limited_is s at 2 form e₁, row_start_is s (at + 1) form first e₂, row_count_is s (at + 3) rows form first n e₃)

abbrev C : List ℕ → ℕ → Criterion × ℕ → Type 0
C s at = Item (criterion_numbers s) 15 at

criterion_is : (s : List ℕ) (strs : List (List ℕ)) (rows : ℕ) (ok : ℕ → Bool) (at : ℕ) (q : Criterion × ℕ) → reading_criterion s strs rows ok at ≡ good q → C s at q
unfolding reading_criterion rest
criterion_is s strs rows ok at =
    gives (C s at) (u32 s at) _ λ p e₀. after (C s at) (must (not (ok p)) 6 at) _ (gives (C s at) (limited s (at + 4) 2) _ λ a₁ e₁. gives (C s at) (trigger s rows (at + 5)) _
    λ t e₂. gives (C s at) (named s strs 0 (at + 10)) _ λ a₃ e₃. gives (C s at) (limited s (at + 12) 2) _ λ a₄ e₄. gives (C s at) (named_or_absent s strs 5 (at + 13)) _
    λ a₅ e₅ q e. item (criterion_numbers s) 15 at _ q e
    (rw ((u32_inv s at p e₀).1, limited_is s (at + 4) 2 a₁ e₁, trigger_is s rows (at + 5) t e₂, named_is s (at + 10) strs 0 a₃ e₃, limited_is s (at + 12) 2 a₄ e₄, named_or_absent_is s (at + 13) strs 5 a₅ e₅)))

-- a section of such items
section_is : {A : Type 0} (g : ℕ → A) (w : ℕ) (f : List A → ℕ → Out (A × ℕ)) → ((l : List A) (at : ℕ) (q : A × ℕ) → f l at ≡ good q → Item g w at q)
    → (n at : ℕ) (l : List A) (q : List A × ℕ) → many f n at l ≡ good q → (q.0 ≡ l ++ spaced g w at n) × (q.1 ≡ at + w * n)
unfolding many spaced
section_is g w f h zero at l q e = subst (λ (z : List _ × ℕ). (z.0 ≡ l ++ []) × (z.1 ≡ at + w * 0)) (good_inj e) (sym (append-nil l), omega arith)
section_is g w f h (suc n) at l q e =
    gives (λ (z : List _ × ℕ). (z.0 ≡ l ++ (g at ∷ spaced g w (at + w) n)) × (z.1 ≡ at + w * suc n)) (f l at) _
    (λ a ea z ez. let i = h l at a ea in let r = section_is g w f h n a.1 (l ++ (a.0 ∷ [])) z ez in
    (r.0 ∙ append_assoc l (a.0 ∷ []) (spaced g w a.1 n) ∙ rw (i.0, i.1), omega (arith, mul-suc w n))) q e

pub rows_are : (s : List ℕ) (strs : List (List ℕ)) (n at e : ℕ) → ends (reading_rows s strs n at) ≡ good e → (reading_rows s strs n at ≡ good (spaced (row_numbers s) 7 at n, e)) × (e ≡ at + 7 * n)
unfolding reading_rows
rows_are s strs n at e q =
    let (l, o) = ends_inv (reading_rows s strs n at) e q in
    let r = section_is (row_numbers s) 7 _ (λ _ a. row_is s strs a) n at [] (l, e) o in
    (rw (← r.0) o, r.1)

pub members_are : (s : List ℕ) (rows n at : ℕ) (l : List Member) (e : ℕ) → reading_members s rows n at ≡ good (l, e) → (l ≡ spaced (member_numbers s) 4 at n) × (e ≡ at + 4 * n)
unfolding reading_members
members_are s rows n at l e o = section_is (member_numbers s) 4 _ (λ b a. member_is s rows (follows b) a) n at [] (l, e) o

pub criteria_are : (s : List ℕ) (strs : List (List ℕ)) (rows n at e : ℕ) → ends (reading_criteria s strs rows n at) ≡ good e → (reading_criteria s strs rows n at ≡ good (spaced (criterion_numbers s) 15 at n, e)) × (e ≡ at + 15 * n)
unfolding reading_criteria
criteria_are s strs rows n at e q =
    let (l, o) = ends_inv (reading_criteria s strs rows n at) e q in
    let r = section_is (criterion_numbers s) 15 _ (λ b a. criterion_is s strs rows (stands b) a) n at [] (l, e) o in
    (rw (← r.0) o, r.1)

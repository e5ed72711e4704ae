-- The judgement by places says what the judgement field by field says: one number and one place, or one profile.
use mathlib.Core.Bool.{Bool, true, false}
use mathlib.Core.Path.{◌≡◌, refl, sym, ap, ◌∙◌, subst}
use Prim.Native.Nat.{ℕ, ◌+◌, ◌*◌, ◌≤◌}
use native.Mathlib.Omega.{arith}
use mathlib.Core.List.{List}
use lib.ListN.{length}
use lib.Dec.{leb, leb→le, eqb, eqb→eq}
use Rattle.octets.specs.Lists.{pick}
use Rattle.profile.specs.Reader.{Got, got, fault, and_then}
use Rattle.profile.specs.Image as image
use Rattle.profile.specs.Image.{accepted, refused}
use Rattle.profile.specs.Judging as judging
use Rattle.profile.specs.Judging.{verdict}
use Rattle.cells.specs.Inner.Out.{Out, good, bad}
use Rattle.profile.specs.Written.{Entries}
use Rattle.profile.specs.Inner.Places as places
use Rattle.cells.specs.Inner.Places.{word, past}
use Rattle.entries.specs.Inner.Places.{spaced, row_numbers, member_numbers, criterion_numbers}
use Rattle.profile.specs.Inner.Decoded.{layout, strings, profile_in, judged_by}
use Rattle.cells.proofs.Laws.{good_inj, bad_good}
use Rattle.profile.proofs.SameFields.{Same, same_got, same_fault, then_is, then_must, then_done, then_tested, texts_of, u8_same, counted_same}
use Rattle.profile.proofs.SameSections.{strings_same, rows_same, members_same, all_placed_same, criteria_same}

-- an accepted image: its parts by places lie where `layout` says, to the image's end
pub record Laid (s : List ℕ) (p : Entries) : Type 0 where
  pub size : length s ≤ 32768
  pub strings : p.strings ≡ texts_of (strings s)
  pub rows : p.rows ≡ spaced (row_numbers s) 7 (layout s).rows (layout s).row_count
  pub members : p.members ≡ spaced (member_numbers s) 4 (layout s).members (layout s).member_count
  pub criteria : p.criteria ≡ spaced (criterion_numbers s) 15 (layout s).criteria (layout s).criterion_count
  pub end : (layout s).criteria + 15 * (layout s).criterion_count ≡ length s

module _ (s : List ℕ) where
  -- the size, then all else
  abbrev sized : Got image.Profile
  sized = and_then (pick (leb (length s) 32768) (got (tt {0}) 0) (fault 1 0)) (λ u at. judging.profile s at)

  -- what both readings of an accepted image give
  abbrev Read : image.Profile → ℕ → Entries → Type 0
  Read q k p = (q ≡ profile_in s) × Laid s p

  image_same : Same Read sized (places.judge_by_places s)
  unfolding judging.profile places.judge_by_places layout strings profile_in
  image_same =
      let n₁ : ℕ = word s 1 in
      let at₂ : ℕ = past s n₁ 3 in
      let n₂ : ℕ = word s at₂ in
      let at₃ : ℕ = at₂ + 2 + 7 * n₂ in
      let n₃ : ℕ = word s at₃ in
      let at₄ : ℕ = at₃ + 2 + 4 * n₃ in
      let n₄ : ℕ = word s at₄ in
      let end : ℕ = at₄ + 2 + 15 * n₄ in
      then_must Read (leb (length s) 32768) 1 0 0 _ _ λ fits.
      then_tested Read (λ v. eqb v 1) 0 _ _ (u8_same s 0) λ edition.
      then_is Read _ _ (counted_same s 1 1024)
      (then_is Read _ _ (strings_same s n₁ 3)
      (then_is Read _ _ (counted_same s at₂ 2048)
      (then_is Read _ _ (rows_same (strings s) s n₂ (at₂ + 2))
      (then_is Read _ _ (counted_same s at₃ 16384)
      (then_is Read _ _ (members_same s n₂ n₃ (at₃ + 2))
      (then_done Read _ _ (all_placed_same (strings s) s n₃ (at₃ + 2) n₂ (at₂ + 2) at₄)
      (then_is Read _ _ (counted_same s at₄ 64)
      (then_is Read _ _ (criteria_same (strings s) s n₂ n₄ (at₄ + 2))
      (then_must Read (eqb end (length s)) 3 end end _ _ λ all. same_got (
        refl,
        record {
          size = leb→le (length s) 32768 fits;
          strings = refl;
          rows = refl;
          members = refl;
          criteria = refl;
          end = eqb→eq end (length s) all;
        },
      ))))))))))

  -- readings that agree are one judgement
  judged_same : {x : Got image.Profile} {o : Out Entries} → Same Read x o → verdict x ≡ judged_by s o
  judged_same (same_got r) = ap accepted r.0
  judged_same same_fault = refl

  -- Judging asks the size outside the reading
  size_first : (b : Bool) (x : ℕ → Got image.Profile) → pick b (verdict (x 0)) (refused 1 0) ≡ verdict (and_then (pick b (got (tt {0}) 0) (fault 1 0)) (λ u at. x at))
  size_first true x = refl
  size_first false x = refl

  pub judge_same : judging.judge s ≡ judged_by s (places.judge_by_places s)
  unfolding judging.judge
  judge_same = size_first (leb (length s) 32768) (judging.profile s) ∙ judged_same image_same

  -- ---- an accepted image

  laid_by : {x : Got image.Profile} {o : Out Entries} (p : Entries) → Same Read x o → o ≡ good p → Laid s p
  laid_by p (same_got r) e = subst (Laid s) (good_inj e) r.1
  laid_by p same_fault e = bad_good e

  pub laid : (p : Entries) → places.judge_by_places s ≡ good p → Laid s p
  laid p e = laid_by p image_same e

  good_of : (o : Out Entries) (q : image.Profile) → judged_by s o ≡ accepted q → (p : Entries) × (o ≡ good p) × (q ≡ profile_in s)
  good_of (good p) q e = (p, refl, cc)
  good_of (bad n k) q e = let z : ◌≡◌ {A = ℕ} 0 1 = cc in absurd (omega arith)

  -- what is accepted is accepted by places, and is the profile that stands there
  pub accepted_good : (q : image.Profile) → judging.judge s ≡ accepted q → (p : Entries) × (places.judge_by_places s ≡ good p) × (q ≡ profile_in s)
  accepted_good q e = good_of (places.judge_by_places s) q (sym judge_same ∙ e)

-- What the answers mean: some part of the text fits, and where the first one begins.
use mathlib.Core.Path.{◌≡◌, refl, subst⁻¹}
use mathlib.Core.Bool.{Bool, true, false, not, ◌||◌}
use mathlib.Core.Logic.{◌↔◌}
use mathlib.Core.Option.{Option, none, some}
use mathlib.Core.List.{List, [], ◌++◌}
use Prim.Native.Nat.{ℕ, suc, ◌<◌, ◌≤◌}
use native.Mathlib.Omega.{arith}
use lib.Dec.{T, eqb, eqb→eq}
use lib.ListN.{length, drop}
use borrow.Author.Tests.{eq-eqb}
use Rattle.octets.proofs.Tests.{both, left, right, T_of, not_T_of}
use Rattle.basic.specs.Pattern.{Pattern, Fits, Matches}
use Rattle.basic.specs.Reading.{read_pattern}
use Rattle.pattern.specs.Inner.Answers.{matches_as, read_matches, meets_text, meet_as, fits_from, begins_of, begins_at, first_fit}
use Rattle.pattern.specs.Matching.{front}
use Rattle.pattern.proofs.Finding.{First, first_of_smallest}
use Rattle.pattern.proofs.Meaning.{front_sound, front_complete, written_iff, name_iff}

-- ---- matching

-- the string is a pattern, and "some part of the string, empty parts too, fits it"
pub record Met (fold : Bool) (s t : List ℕ) : Type 0 where
  pub pattern : Pattern
  pub reads : read_pattern s ≡ some pattern
  pub matches : Matches (meet_as fold) pattern t

as_iff : (fold : Bool) (p : Pattern) (t : List ℕ) → T (matches_as fold p t) ↔ Matches (meet_as fold) p t
as_iff true p t = name_iff p t
as_iff false p t = written_iff p t

pub meets_iff : (fold : Bool) (s t : List ℕ) → T (meets_text fold s t) ↔ Met fold s t
unfolding meets_text
meets_iff fold s t = (λ h. sound (read_pattern s) refl h, λ m. subst⁻¹ (λ (o : Option Pattern). T (read_matches fold o t)) m.reads ((as_iff fold m.pattern t).1 m.matches))
  where
    sound : (o : Option Pattern) → read_pattern s ≡ o → T (read_matches fold o t) → Met fold s t
    sound none e h = absurd h
    sound (some p) e h = record { pattern = p; reads = e; matches = (as_iff fold p t).0 h }

-- ---- where the first part begins

-- a part of the text that begins at j fits
pub record PartAt (fold : Bool) (p : Pattern) (t : List ℕ) (j : ℕ) : Type 0 where
  pub part : List ℕ
  pub after : List ℕ
  pub cut : drop j t ≡ part ++ after
  pub fits : Fits (meet_as fold) p.elems part
  pub start : T p.at_start → j ≡ 0
  pub end : T p.at_end → after ≡ []

anchored : (b c : Bool) → T (not b || c) → T b → T c
anchored true c h t = h
anchored false c h t = absurd t

anchored' : (b c : Bool) → (T b → T c) → T (not b || c)
anchored' true c f = f tt
anchored' false c f = tt

pub part_iff : (fold : Bool) (p : Pattern) (t : List ℕ) (j : ℕ) → T (fits_from fold p t j) ↔ PartAt fold p t j
part_iff fold p t j = (sound, complete)
  where
    here : Bool
    here = front (meet_as fold) p.at_end p.elems (drop j t)

    sound : T (fits_from fold p t j) → PartAt fold p t j
    sound h =
        let f = front_sound (meet_as fold) p.at_end p.elems (drop j t) (right (not p.at_start || eqb j 0) here h) in
        record {
          part = f.part;
          after = f.after;
          cut = f.cut;
          fits = f.fits;
          start = λ a. eqb→eq j 0 (anchored p.at_start (eqb j 0) (left (not p.at_start || eqb j 0) here h) a);
          end = f.ends;
        }

    complete : PartAt fold p t j → T (fits_from fold p t j)
    complete q =
        both (not p.at_start || eqb j 0) here (anchored' p.at_start (eqb j 0) (λ a. T_of (eq-eqb j 0 (q.start a))))
        (subst⁻¹ (λ (l : List ℕ). T (front (meet_as fold) p.at_end p.elems l)) q.cut
        (front_complete (meet_as fold) p.at_end q.after q.end q.fits))

module _ (fold : Bool) (s t : List ℕ) (p : Pattern) (reads : read_pattern s ≡ some p) where
  begins_iff : (j : ℕ) → T (begins_at fold s t j) ↔ PartAt fold p t j
  unfolding begins_at
  begins_iff j = subst⁻¹ (λ (o : Option Pattern). T (begins_of fold o t j) ↔ PartAt fold p t j) reads (part_iff fold p t j)

  first_one : First (begins_at fold s t) (suc (length t)) 0 (first_fit fold s t)
  unfolding first_fit
  first_one = first_of_smallest (begins_at fold s t) (suc (length t)) 0

  -- a part begins there, if it lies within the text
  pub first_begins : first_fit fold s t ≤ length t → PartAt fold p t (first_fit fold s t)
  first_begins h = (begins_iff (first_fit fold s t)).0 (T_of (first_one.found (omega arith)))

  -- and none before it
  pub first_least : (j : ℕ) → j < first_fit fold s t → PartAt fold p t j → ⊥
  first_least j h q = not_T_of (first_one.before j (omega arith) h) ((begins_iff j).1 q)

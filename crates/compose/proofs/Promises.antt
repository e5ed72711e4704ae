-- What change request 3 promises of its answer.
use mathlib.Core.Path.{◌≡◌, refl, sym, ap, ◌∙◌, subst}
use mathlib.Core.Bool.{Bool, true, false, not}
use mathlib.Core.Option.{Option, none}
use Prim.Native.Nat.{ℕ, ◌≤◌, ◌<◌}
use native.Mathlib.Omega.{arith}
use mathlib.Core.List.{List}
use lib.Dec.{T, leb, leb→le, nleb→lt}
use lib.ListN.{length}
use borrow.Author.Tests.{le-leb, lt-leb}
use Rattle.octets.specs.Lists.{pick}
use Rattle.octets.proofs.Tests.{test_cases, T_of}
use Rattle.profile.specs.Image.{Profile, Judged, accepted, refused}
use Rattle.profile.specs.Judging.{judge, profile, verdict}
use Rattle.scan.specs.Criteria.{Criterion}
use Rattle.grammar.specs.Grammar.{Member, WrongAt}
use Rattle.grammar.specs.Reading.{Read, read_as, wrong, twice, read_text}
use Rattle.grammar.proofs.Sound.{Says}
use Rattle.scan.specs.Table.{profile_text}
use Rattle.profile.specs.Written.{written}
use Rattle.compose.specs.Composing.{entries, cut_place, cut_at, image}
use Rattle.compose.specs.Answer.{Answer, writes, refuses, fit, judged, composed, from_reading, answer}
use Rattle.grammar.proofs.Meaning.{one_place}
use Rattle.scan.proofs.Unique.{never_twice}
use Rattle.scan.proofs.Subset.{profile_text_says}

-- ---- 14

-- "14 at 65,535 for a longer text"
pub too_long : (s : List ℕ) (room : ℕ) → 65535 < length s → answer s room ≡ refuses 14 65535
unfolding answer
too_long s room h = ap (λ (b : Bool). pick b (from_reading room (read_text profile_text s)) (refuses 14 65535)) (lt-leb (length s) 65535 h)

short : (s : List ℕ) (room : ℕ) → length s ≤ 65535 → answer s room ≡ from_reading room (read_text profile_text s)
unfolding answer
short s room h = ap (λ (b : Bool). pick b (from_reading room (read_text profile_text s)) (refuses 14 65535)) (le-leb (length s) 65535 h)

-- "else at the first byte with which no text of this subset goes on, or at the end if more is needed"
pub wrong_place : (s : List ℕ) (room n : ℕ) → length s ≤ 65535 → WrongAt profile_text s n → answer s room ≡ refuses 14 n
wrong_place s room n h w = short s room h ∙ by (read_text profile_text s) (never_twice s) (profile_text_says s)
  where
    by : (x : Read (List Criterion)) → (x ≡ twice → ⊥) → Says profile_text s x → from_reading room x ≡ refuses 14 n
    by (read_as cs) o m = absurd (w.no_text cs m.text)
    by (wrong k) o v = ap (refuses 14) (one_place profile_text s k n v w)
    by twice o v = absurd (o refl)

-- what is read from a text of the subset is all that can be read from it, and it is composed
pub right_text : (s : List ℕ) (room : ℕ) (cs : List Criterion) → length s ≤ 65535 → Member profile_text s cs → answer s room ≡ composed room cs
right_text s room cs h m = short s room h ∙ by (read_text profile_text s) (never_twice s) (profile_text_says s)
  where
    by : (x : Read (List Criterion)) → (x ≡ twice → ⊥) → Says profile_text s x → from_reading room x ≡ composed room cs
    by (read_as ds) o v = ap (composed room) (sym (v.only cs m))
    by (wrong k) o v = absurd (v.no_text cs m)
    by twice o v = absurd (o refl)

-- ---- "The image written is always one that document 01 accepts."

pub record Accepted (t : List ℕ) (room : ℕ) : Type 0 where
  pub profile_is : Profile
  pub accepts : judge t ≡ accepted profile_is
  pub fits : length t ≤ room

fit_by : (a b : Bool) (s t : List ℕ) → pick a (pick b (writes s) (refuses 12 0)) (refuses 1 0) ≡ writes t → (a ≡ true) × (b ≡ true) × (s ≡ t)
fit_by true true s t e = (refl, refl, cc)
fit_by true false s t e = let z : ◌≡◌ {A = ℕ} 0 1 = cc in absurd (omega arith)
fit_by false b s t e = let z : ◌≡◌ {A = ℕ} 0 1 = cc in absurd (omega arith)

judged_right : (s : List ℕ) (p : Profile) → leb (length s) 32768 ≡ true → verdict (profile s 0) ≡ accepted p → judge s ≡ accepted p
unfolding judge
judged_right s p h v = ap (λ (b : Bool). pick b (verdict (profile s 0)) (refused 1 0)) h ∙ v

fitted : (room : ℕ) (s t : List ℕ) (p : Profile) → verdict (profile s 0) ≡ accepted p → fit room s ≡ writes t → Accepted t room
fitted room s t p v e =
    let f = fit_by (leb (length s) 32768) (leb (length s) room) s t e in
    record {
      profile_is = p;
      accepts = ap judge (sym f.2) ∙ judged_right s p f.0 v;
      fits = subst (λ (x : List ℕ). length x ≤ room) f.2 (leb→le (length s) room (T_of f.1));
    }

judged_fitted : (room : ℕ) (s t : List ℕ) (j : Judged) → verdict (profile s 0) ≡ j → judged room s j ≡ writes t → Accepted t room
judged_fitted room s t (accepted p) v e = fitted room s t p v e
judged_fitted room s t (refused n place) v e = let z : ◌≡◌ {A = ℕ} 0 1 = cc in absurd (omega arith)

composed_written : (room : ℕ) (cs : List Criterion) (t : List ℕ) → composed room cs ≡ writes t → Accepted t room
unfolding composed
composed_written room cs t e = judged_fitted room (image cs) t (verdict (profile (image cs) 0)) refl e

read_written : (room : ℕ) (x : Read (List Criterion)) (t : List ℕ) → from_reading room x ≡ writes t → Accepted t room
read_written room (read_as cs) t e = composed_written room cs t e
read_written room (wrong n) t e = let z : ◌≡◌ {A = ℕ} 0 1 = cc in absurd (omega arith)
read_written room twice t e = let z : ◌≡◌ {A = ℕ} 0 1 = cc in absurd (omega arith)

pub always_accepted : (s : List ℕ) (room : ℕ) (t : List ℕ) → answer s room ≡ writes t → Accepted t room
always_accepted s room t e =
    test_cases (leb (length s) 65535)
    (λ h. read_written room (read_text profile_text s) t (sym (short s room (leb→le (length s) 65535 (T_of h))) ∙ e))
    (λ h. let z : ◌≡◌ {A = Answer} (refuses 14 65535) (writes t) = sym (too_long s room (nleb→lt (length s) 65535 (not_T_of' h))) ∙ e in
    let y : ◌≡◌ {A = ℕ} 0 1 = cc in absurd (omega arith))
  where
    not_T_of' : leb (length s) 65535 ≡ false → T (not (leb (length s) 65535))
    not_T_of' h = subst (λ (b : Bool). T (not b)) (sym h) tt

-- ---- the image is document 01's

-- where every value has a place, the image is the bytes of the criteria's entries
pub image_written : (cs : List Criterion) → cut_place cs ≡ none → image cs ≡ written (entries cs)
unfolding image
image_written cs e = ap (λ (o : Option ℕ). cut_at o (written (entries cs))) e

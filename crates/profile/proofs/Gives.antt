-- What holds of whatever a reading gives, where it gives something: one line for each field read, no inversion.
use mathlib.Core.Bool.{Bool, true, false}
use mathlib.Core.Option.{Option, none, some}
use mathlib.Core.Path.{◌≡◌, refl}
use Prim.Native.Nat.{ℕ, zero, suc, ◌+◌}
use native.Mathlib.Omega.{arith}
use mathlib.Core.List.{List, [], ◌∷◌, ◌++◌}
use lib.ListN.{length, get_elem?, length-append}
use lib.Dec.{T, eqb}
use Rattle.octets.specs.Lists.{pick}
use Rattle.octets.proofs.Tests.{T_of}
use Rattle.octets.proofs.Options.{Ok}
use Rattle.octets.proofs.Each.{Each, each_snoc, each_at}
use Rattle.profile.specs.Reader.{Got, got, fault, Reader, ◌>>=◌, and_then, give, unless, integer, field, entries}
use Rattle.profile.specs.Image.{Stored}
use Rattle.profile.specs.Judging.{from_option, named, naming, naming_or_absent}

abbrev pub Gives : {A : Type 0} → (A → Type 0) → Got A → Type 0
Gives P (got a at) = P a
Gives P (fault n place) = Unit {0}

module _ {A B : Type 0} (P : B → Type 0) where
  -- whatever is read first
  pub then_any : (r : Got A) (f : A → ℕ → Got B) → ((a : A) (at : ℕ) → Gives P (f a at)) → Gives P (and_then r f)
  then_any (got a at) f h = h a at
  then_any (fault n place) f h = tt

  -- with what holds of what is read first
  pub then_with : (Q : A → Type 0) (r : Got A) (f : A → ℕ → Got B) → Gives Q r → ((a : A) (at : ℕ) → Q a → Gives P (f a at)) → Gives P (and_then r f)
  then_with Q (got a at) f q h = h a at q
  then_with Q (fault n place) f q h = tt

-- what follows from what is given
pub gives_so : {A : Type 0} (P Q : A → Type 0) (r : Got A) → Gives P r → ((a : A) → P a → Q a) → Gives Q r
gives_so P Q (got a at) p h = h a p
gives_so P Q (fault n place) p h = tt

-- ---- fields

-- a field that is read passes its test
pub field_passes : (n : ℕ) (ok : ℕ → Bool) (s : List ℕ) (at : ℕ) → Gives (λ v. T (ok v)) (field n ok s at)
field_passes n ok s at = then_any (λ v. T (ok v)) (integer n s at) _ (λ v next. tested v next (ok v) refl)
  where
    tested : (v next : ℕ) (b : Bool) → ok v ≡ b
        → Gives (λ k. T (ok k)) (and_then (pick b (got (tt {0}) next) (fault 4 at)) (λ u after. got v after))
    tested v next true e = T_of e
    tested v next false e = tt

-- `unless` lets only what passes go on
pub unless_passes : (b : Bool) (n place : ℕ) (s : List ℕ) (at : ℕ) → Gives (λ u. T b) (unless b n place s at)
unless_passes true n place s at = tt
unless_passes false n place s at = tt

-- ---- strings that are named

module _ {A : Type 0} (P : A → Type 0) (Q : Stored → Type 0) (strings : List Stored) (all : Each Q strings)
    (as_used : Stored → Option A) (keeps : (x : Stored) → Q x → Ok P (as_used x)) (s : List ℕ) where
  named_gives : (i place at : ℕ) → Gives P (named strings as_used i place s at)
  named_gives i place at = go (get_elem? strings i) (each_at Q strings i all)
    where
      used : (o : Option A) → Ok P o → Gives P (from_option o 5 place s at)
      used none h = tt
      used (some a) h = h

      go : (o : Option Stored) → Ok Q o → Gives P (and_then (from_option o 4 place s at) (λ x next. from_option (as_used x) 5 place s next))
      go none q = tt
      go (some x) q = used (as_used x) (keeps x q)

  pub naming_gives : (at : ℕ) → Gives P (naming strings as_used s at)
  naming_gives at = then_any P (integer 2 s at) _ (λ i next. named_gives i at next)

  pub naming_or_absent_gives : (at : ℕ) → Gives (Ok P) (naming_or_absent strings as_used s at)
  naming_or_absent_gives at = then_any (Ok P) (integer 2 s at) _ (λ i next. go i next (eqb i 65535))
    where
      go : (i next : ℕ) (b : Bool) → Gives (Ok P) (pick {A = Reader (Option A)} b (give none) (named strings as_used i at >>= (λ a. give (some a))) s next)
      go i next true = tt
      go i next false = then_with (Ok P) P (named strings as_used i at s next) (λ a after. got (some a) after) (named_gives i at next) (λ a after h. h)

-- ---- entries

module _ {A : Type 0} (one : List A → Reader A) (s : List ℕ) where
  -- what each entry keeps of those before it holds of all
  pub entries_keep : (I : List A → Type 0) → ((l : List A) (at : ℕ) → I l → Gives (λ a. I (l ++ (a ∷ []))) (one l s at))
      → (n : ℕ) (l : List A) (at : ℕ) → I l → Gives I (entries one n l s at)
  unfolding entries
  entries_keep I keeps zero l at h = h
  entries_keep I keeps (suc n) l at h =
      then_with I (λ a. I (l ++ (a ∷ []))) (one l s at) (λ a next. entries one n (l ++ (a ∷ [])) s next) (keeps l at h)
      (λ a next k. entries_keep I keeps n (l ++ (a ∷ [])) next k)

  -- what holds of every entry read
  pub entries_each : (P : A → Type 0) → ((l : List A) (at : ℕ) → Gives P (one l s at)) → (n at : ℕ) → Gives (Each P) (entries one n [] s at)
  entries_each P gives n at =
      entries_keep (Each P) (λ l at h. gives_so P (λ a. Each P (l ++ (a ∷ []))) (one l s at) (gives l at) (λ a p. each_snoc P l a h p)) n [] at tt

  -- n entries are read
  pub entries_count : (n : ℕ) (l : List A) (at : ℕ) → Gives (λ (m : List A). length m ≡ length l + n) (entries one n l s at)
  unfolding entries
  entries_count zero l at = omega arith
  entries_count (suc n) l at =
      then_any (λ (m : List A). length m ≡ length l + suc n) (one l s at) (λ a next. entries one n (l ++ (a ∷ [])) s next)
      (λ a next. gives_so (λ (m : List A). length m ≡ length (l ++ (a ∷ [])) + n) (λ (m : List A). length m ≡ length l + suc n)
      (entries one n (l ++ (a ∷ [])) s next) (entries_count n (l ++ (a ∷ [])) next) (λ m e. omega (arith, e, length-append l (a ∷ []))))

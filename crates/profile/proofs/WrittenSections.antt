-- What is written is read back, section by section.
use mathlib.Core.Path.{◌≡◌, refl, sym, ap, ap₂, ◌∙◌}
use Prim.Native.Nat.{ℕ, zero, suc, ◌+◌, ◌≤◌, ◌<◌}
use native.Mathlib.Omega.{arith}
use borrow.Author.Tests.{le-leb}
use mathlib.Core.List.{List, [], ◌∷◌, ◌++◌, map, append-nil, append_assoc}
use lib.ListN.{length, length-append}
use Rattle.profile.specs.Image.{Stored}
use Rattle.cells.specs.Inner.Out.{Out, good}
use Rattle.cells.specs.Inner.Places.{word, many, counted, offsets, past}
use Rattle.entries.specs.Inner.Places.{placed}
use Rattle.profile.specs.Inner.Decoded.{stored}
use Rattle.profile.specs.Written.{string, joined, section}
use Rattle.profile.specs.Inner.Writable.{InTurn, RightString, strings_from}
use Rattle.profile.proofs.WrittenFields.{Rest, further, after, counted_back}
use Rattle.profile.proofs.WrittenEntries.{length_back, text_at_back, bytes_back}

-- ---- a section

-- the place after it
abbrev pub beyond : {A : Type 0} → (A → List ℕ) → List A → ℕ → ℕ
beyond bytes l at = at + 2 + length (joined bytes l)

-- at a place: its count, its entries, and what follows
pub record Back {A : Type 0} (s : List ℕ) (f : List A → ℕ → Out (A × ℕ)) (bytes : A → List ℕ)
    (most at : ℕ) (l : List A) (t : List ℕ) : Type 0 where
  pub count : counted s at most ≡ good (length l)
  pub items : many f (length l) (at + 2) [] ≡ good (l, beyond bytes l at)
  pub next : Rest s (beyond bytes l at) t

module _ {A : Type 0} (s : List ℕ) (f : List A → ℕ → Out (A × ℕ)) (bytes : A → List ℕ) (P : List A → A → Type 0)
    (each : (before : List A) (a : A) (at : ℕ) (t : List ℕ) → P before a → Rest s at (bytes a ++ t)
    → f before at ≡ good (a, at + length (bytes a))) where
  many_back : (l before : List A) (at : ℕ) (t : List ℕ) → InTurn P before l → Rest s at (joined bytes l ++ t)
      → many f (length l) at before ≡ good (before ++ l, at + length (joined bytes l))
  unfolding many
  many_back [] before at t h r = ap₂ (λ (m : List A) (k : ℕ). good (m, k)) (sym (append-nil before)) (omega arith)
  many_back (a ∷ l) before at t h r =
      let r' : Rest s at (bytes a ++ (joined bytes l ++ t)) = rw (append_assoc (bytes a) (joined bytes l) t) at r in
      rw (each before a at (joined bytes l ++ t) h.0 r')
      (many_back l (before ++ (a ∷ [])) (at + length (bytes a)) t h.1 (after s at (bytes a) (joined bytes l ++ t) r')
      ∙ ap₂ (λ (m : List A) (k : ℕ). good (m, k)) (append_assoc before (a ∷ []) l) (omega (arith, length-append (bytes a) (joined bytes l))))

  pub section_back : (most at : ℕ) (l : List A) (t : List ℕ) → length l ≤ most → most < 65536 → InTurn P [] l
      → Rest s at (section bytes l ++ t) → Back s f bytes most at l t
  section_back most at l t few m h r =
      let r' : Rest s (at + 2) (joined bytes l ++ t) = further r 2 (omega arith) in
      record {
        count = counted_back s at (joined bytes l ++ t) most (length l) few m r;
        items = many_back l [] (at + 2) t h r';
        next = after s (at + 2) (joined bytes l) t r';
      }

-- ---- every row has 1 to 8

pub placed_back : (m : ℕ → ℕ) (n r at : ℕ) → ((k : ℕ) → r ≤ k → k < r + n → (1 ≤ m k) × (m k ≤ 8)) → placed m n r at ≡ good tt
unfolding placed
placed_back m zero r at h = refl
placed_back m (suc n) r at h =
    let q = h r (omega arith) (omega arith) in
    rw (le-leb 1 (m r) q.0, le-leb (m r) 8 q.1) (placed_back m n (r + 1) (at + 7) (λ k l u. h k (omega arith) (omega arith)))

-- ---- where the strings stand, and where they end

module _ (s : List ℕ) where
  pub stored_back : (l before : List (List ℕ)) (at : ℕ) (t : List ℕ) → InTurn (λ _. RightString) before l → Rest s at (joined string l ++ t)
      → (map (stored s) (offsets s (length l) at) ≡ strings_from at l) × (past s (length l) at ≡ at + length (joined string l))
  unfolding offsets past
  stored_back [] before at t h r = (refl, omega arith)
  stored_back (b ∷ l) before at t h r =
      let r' : Rest s at (string b ++ (joined string l ++ t)) = rw (append_assoc (string b) (joined string l) t) at r in
      let next : at + 2 + word s at ≡ at + 2 + length b = ap (λ (k : ℕ). at + 2 + k) (length_back s at b (joined string l ++ t) h.0 r') in
      let more = stored_back l (before ++ (b ∷ [])) (at + 2 + length b) t h.1
      (after s (at + 2) b (joined string l ++ t) (bytes_back s at b (joined string l ++ t) h.0 r')) in (
        ap₂ (λ (x : List ℕ) (m : List Stored). record { start = at + 2; bytes = x } ∷ m) (text_at_back s at b (joined string l ++ t) h.0 r')
            (ap (λ (k : ℕ). map (stored s) (offsets s (length l) k)) next ∙ more.0),
        ap (past s (length l)) next ∙ more.1 ∙ omega (arith, length-append b (joined string l)),
      )

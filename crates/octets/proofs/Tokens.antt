-- A token, as a test of all its bytes finds it.
use Rattle.std.proofs.Common.{◌≡◌, refl, sym, ap, ◌∙◌, ℕ, zero, suc, ◌<◌, Bool, true, false, ◌&&◌, List, [], ◌∷◌, length, get_or, arith}
use Rattle.std.specs.Bool.{MatchBool}
use Rattle.std.specs.List.{AllWithin, HoldsAt}
use borrow.Author.Tests.{eq-eqb, ne_eqb}
use Rattle.octets.specs.Lists.{every}
use Rattle.octets.specs.Bytes.{token_byte, token}
use Rattle.octets.specs.Inner.Tables.{class_of}
use Rattle.octets.proofs.Classes as C

abbrev Yes : ℕ → Type 0
Yes x = class_of x ≡ 1

abbrev No : ℕ → Type 0
No x = class_of x ≡ 1 → ⊥

module _ (b : ℕ) (small : b < 256) where
  is_token : Yes b → token_byte b ≡ true
  is_token e = sym (C.rules b small).token_is ∙ eq-eqb (class_of b) 1 e

  no_token : No b → token_byte b ≡ false
  no_token e = sym (C.rules b small).token_is ∙ ne_eqb (class_of b) 1 e

all_tokens : (s : List ℕ) → ((i : ℕ) → get_or s i 0 < 256) → ((k : ℕ) → k < length s → Yes (get_or s k 0)) → every token_byte s ≡ true
all_tokens [] f h = refl
all_tokens (b ∷ s) f h = ap (λ (t : Bool). t && every token_byte s) (is_token b (f 0) (h 0 (omega arith))) ∙ all_tokens s (λ i. f (suc i)) (λ k l. h (suc k) (omega arith))

and_no : (t : Bool) → (t && false) ≡ false
and_no true = refl
and_no false = refl

one_not : (s : List ℕ) → ((i : ℕ) → get_or s i 0 < 256) → (k : ℕ) → k < length s → No (get_or s k 0) → every token_byte s ≡ false
one_not [] f k l n = absurd (omega arith)
one_not (b ∷ s) f zero l n = ap (λ (t : Bool). t && every token_byte s) (no_token b (f 0) n)
one_not (b ∷ s) f (suc k) l n = ap (λ (t : Bool). token_byte b && t) (one_not s (λ i. f (suc i)) k (omega arith) n) ∙ and_no (token_byte b)

every_by : (s : List ℕ) (r : Bool) → ((i : ℕ) → get_or s i 0 < 256)
    → MatchBool r (AllWithin Yes s 0 (length s)) ((k : ℕ) × (k < length s) × HoldsAt No s k) → r ≡ every token_byte s
every_by s true f h = sym (all_tokens s f (λ k l. h k 0 (omega arith) l))
every_by s false f h = sym (one_not s f h.0 h.1 (h.2 0))

-- of a text that is not empty
pub token_all : (s : List ℕ) (r : Bool) → (length s ≡ 0 → ⊥) → ((i : ℕ) → get_or s i 0 < 256)
    → MatchBool r (AllWithin Yes s 0 (length s)) ((k : ℕ) × (k < length s) × HoldsAt No s k) → r ≡ token s
token_all [] r n f h = absurd (n refl)
token_all (b ∷ s) r n f h = every_by (b ∷ s) r f h

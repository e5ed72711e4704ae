-- The string that the grammar reads is the one that its bytes say.
use mathlib.Core.Path.{◌≡◌, refl, sym, ap, ap₂, ◌∙◌, subst, subst⁻¹}
use mathlib.Core.Bool.{Bool, ◌||◌}
use mathlib.Core.Logic.{inl, inr}
use Prim.Native.Nat.{ℕ}
use mathlib.Core.List.{List, [], ◌∷◌, ◌++◌}
use lib.Dec.{T, eqb}
use lib.ListN.{length, drop}
use lib.Seq.{drop_at}
use Rattle.octets.specs.Lists.{pick, text}
use Rattle.octets.proofs.Tests.{is_false, or_neither}
use Rattle.grammar.specs.Grammar.{Member, Each, one, many, into, ◌then◌}
use Rattle.scan.specs.Table.{plain, character, digit, decimal}
use Rattle.compose.specs.Inner.Values.{as_character, entity_of, character_of, decoded}
use Rattle.compose.specs.declared.values.Character.{Character}
use Rattle.compose.proofs.Decoding.{decoded_cons}

-- the bytes u say the character a, whatever stands behind them
pub record Saying (u : List ℕ) (a : ℕ) : Type 0 where
  pub first : ℕ
  pub more : List ℕ
  pub some_bytes : u ≡ first ∷ more
  pub says : (v : List ℕ) → character_of (u ++ v) ≡ as_character a (length u)

saying_plain : (a : ℕ) → T (plain a) → Saying (a ∷ []) a
saying_plain a h = record {
  first = a;
  more = [];
  some_bytes = refl;
  says = λ v. ap (λ (b : Bool). pick b (entity_of v) (as_character a 1)) (or_neither (eqb a 60) (eqb a 38) (is_false (eqb a 60 || eqb a 38) h)).1;
}

saying_word : (b : ℕ) (w : List ℕ) (c : ℕ) → ((v : List ℕ) → character_of ((b ∷ w) ++ v) ≡ as_character c (length (b ∷ w)))
    → (u : List ℕ) (a : ℕ) → a ≡ c → u ≡ b ∷ w → Saying u a
saying_word b w c f u a e g =
    subst⁻¹ (λ (x : List ℕ). Saying x a) g (subst⁻¹ (λ (x : ℕ). Saying (b ∷ w) x) e (record { first = b; more = w; some_bytes = refl; says = f }))

saying : (u : List ℕ) (a : ℕ) → Member character u a → Saying u a
unfolding Member
saying u a (inl m) = subst⁻¹ (λ (x : List ℕ). Saying x a) m.0 (saying_plain a m.1)
saying u a (inr (inl m)) = saying_word 38 (text "lt;") 60 (λ v. refl) u a m.1 m.2
saying u a (inr (inr (inl m))) = saying_word 38 (text "gt;") 62 (λ v. refl) u a m.1 m.2
saying u a (inr (inr (inr (inl m)))) = saying_word 38 (text "amp;") 38 (λ v. refl) u a m.1 m.2
saying u a (inr (inr (inr (inr (inl m))))) = saying_word 38 (text "quot;") 34 (λ v. refl) u a m.1 m.2
saying u a (inr (inr (inr (inr (inr m))))) = saying_word 38 (text "apos;") 39 (λ v. refl) u a m.1 m.2

-- one character, and then the rest
said : (u v : List ℕ) (a : ℕ) → Saying u a → decoded (u ++ v) ≡ a ∷ decoded v
said u v a s =
    let w : List ℕ = s.first ∷ s.more in
    let c : character_of (w ++ v) ≡ as_character a (length w) = subst (λ (x : List ℕ). character_of (x ++ v) ≡ as_character a (length x)) s.some_bytes (s.says v) in
    ap (λ (x : List ℕ). decoded (x ++ v)) s.some_bytes
    ∙ decoded_cons s.first (s.more ++ v)
    ∙ ap (λ (x : Character). x.byte ∷ decoded (drop x.width (w ++ v))) c
    ∙ ap (λ (x : List ℕ). a ∷ decoded x) (drop_at w v (length w) refl)

pub decoded_right : (t u : List ℕ) → Each (Member character) u t → decoded u ≡ t
unfolding decoded
decoded_right [] u m = ap decoded m
decoded_right (a ∷ t) u m =
    ap decoded m.2 ∙ said m.0 m.1 a (saying m.0 a m.3) ∙ ap (λ (x : List ℕ). a ∷ x) (decoded_right t m.1 m.4)

-- a string's bytes say the string that is read from them
pub string_right : (u t : List ℕ) → Member (many character) u t → decoded u ≡ t
unfolding Member
string_right u t m = decoded_right t u m

-- ---- numbers

each_digit : (p : ℕ → Bool) (l u : List ℕ) → Each (Member (one p)) u l → u ≡ l
unfolding Member
each_digit p [] u m = m
each_digit p (a ∷ l) u m = m.2 ∙ ap₂ ◌++◌ m.3.0 (each_digit p l m.1 m.4)

-- a number's digits say the number that is read from them
pub number_right : (u : List ℕ) (n : ℕ) → Member (into (λ (p : ℕ × List ℕ). decimal 0 (p.0 ∷ p.1)) (one digit then many (one digit))) u n → decimal 0 u ≡ n
unfolding Member
number_right u n m =
    let d = m.2 in
    ap (decimal 0) (d.2 ∙ ap₂ ◌++◌ d.3.0 (each_digit digit m.0.1 d.1 d.4)) ∙ sym m.1

-- The start line: its words byte by byte, and its three parts by the places of the two SPs.
use Rattle.std.specs.Prelude.{None}
use mathlib.Core.Bool.{Bool, true, false, not, ◌&&◌, ◌||◌, and-false}
use mathlib.Core.Option.{Option, none, some}
use mathlib.Core.Path.{◌≡◌, refl, sym, ap, ◌∙◌}
use mathlib.Core.List.{List, [], ◌∷◌}
use Prim.Native.Nat.{ℕ, suc, ◌+◌, ◌-◌, ◌≤◌, ◌<◌, zero-le}
use native.Mathlib.Nat.{sub-zero, le_of_eq}
use native.Mathlib.Numerals.{add-one}
use native.Mathlib.Omega.{arith}
use native.Mathlib.Decide.{dec_le}
use lib.ListN.{length, get_or, take, drop, drop_of_length-le, length-drop}
use lib.Dec.{leb, eqb}
use lib.Seq.{drop-cons, drop-drop, take_all, length-take-le}
use borrow.Author.Tests.{not-true, not-false, ne_eqb, leb-true}
use Rattle.octets.specs.Bytes.{token, within, lowers, same_any_case}
use Rattle.octets.specs.Inner.Tables.{class_of}
use Rattle.octets.specs.Lists.{text, every, empty, pick}
use Rattle.octets.specs.Option.{◌>>=◌, holds}
use Rattle.octets.proofs.Classes.{rules}
use Rattle.octets.proofs.Equal.{lowers_length}
use Rattle.octets.proofs.Tests.{left, T_of, is_true, same_eq}
use Rattle.cuts.specs.Cutting.{begins, cut_at}
use Rattle.cuts.specs.Inner.Parts.{part}
use Rattle.cuts.specs.Inner.Searching.{first}
use Rattle.cuts.proofs.Cuts.{cut_on, cut_last, nonempty}
use Rattle.request.specs.Request.{Start, three, start_line, parts_right}
use Rattle.request.specs.Inner.Steps.{start_at, word_byte, start_places}

-- ---- words

module _ (b k : ℕ) (byte : b < 256) (ek : k ≡ class_of b) where
  pub uri_word : (u : Bool) → u ≡ true → (eqb k 1 || eqb k 3) ≡ word_byte u b
  uri_word u e = ap (λ (x : ℕ). eqb x 1 || eqb x 3) ek ∙ (rules b byte).uri_is ∙ sym (ap (λ (t : Bool). word_byte t b) e)

  pub token_word : (u : Bool) → u ≡ false → eqb k 1 ≡ word_byte u b
  token_word u e = ap (λ (x : ℕ). eqb x 1) ek ∙ (rules b byte).token_is ∙ sym (ap (λ (t : Bool). word_byte t b) e)

-- all bytes before i fit
pub record Word (u : Bool) (w : List ℕ) (i : ℕ) : Type 0 where
  pub inside : i ≤ length w
  pub rest : (not (empty w) && every (word_byte u) w) ≡ every (word_byte u) (drop i w)

pub word_none : (u : Bool) (w : List ℕ) → length w ≡ 0 → false ≡ (not (empty w) && every (word_byte u) w)
word_none u [] h = refl
word_none u (b ∷ w) h = absurd (omega arith)

pub word_first : (u : Bool) (w : List ℕ) → (length w ≡ 0 → ⊥) → Word u w 0
word_first u [] h = absurd (h refl)
word_first u (b ∷ w) h = record { inside = zero-le; rest = refl }

module _ (u : Bool) (w : List ℕ) (i : ℕ) (k : Word u w i) (inside : i < length w) (r : Bool) (er : r ≡ word_byte u (get_or w i 0)) where
  here : (not (empty w) && every (word_byte u) w) ≡ (r && every (word_byte u) (drop (i + 1) w))
  here = k.rest ∙ ap (every (word_byte u)) (drop-cons w i 0 inside) ∙ rw (add-one, er)

  pub word_no : not r ≡ true → false ≡ (not (empty w) && every (word_byte u) w)
  word_no n = sym (here ∙ rw (not-true r n))

  pub word_next : not r ≡ false → Word u w (i + 1)
  word_next n = record { inside = omega (arith, inside); rest = here ∙ rw (not-false r n) }

pub word_end : (u : Bool) (w : List ℕ) (i : ℕ) → Word u w i → length w ≤ i → true ≡ (not (empty w) && every (word_byte u) w)
word_end u w i k past = sym (k.rest ∙ rw (drop_of_length-le w past))

-- ---- its parts

-- what is found of the parts that the code takes
module _ (l : List ℕ) (m u : ℕ) (r : Bool) (er : r ≡ (not (empty (take (m - 0) (drop 0 l))) && every (word_byte false) (take (m - 0) (drop 0 l)))) where
  method_is : r ≡ token (take m l)
  method_is = er ∙ ap (λ (k : ℕ). token (take k l)) (sub-zero m)

  pub parts_no_method : not r ≡ true → false ≡ parts_right (take m l) (part l (m + 1) u) (drop (u + 1) l)
  parts_no_method n = rw (← method_is, not-true r n)

  module _ (r₂ : Bool) (er₂ : r₂ ≡ (not (empty (part l (m + 1) u)) && every (word_byte true) (part l (m + 1) u))) (y : not r ≡ false) where
    parts_are : parts_right (take m l) (part l (m + 1) u) (drop (u + 1) l) ≡ (r₂ && same_any_case (drop (u + 1) l) (text "SIP/2.0"))
    parts_are = rw (← method_is, not-false r y, er₂)

    pub parts_no_uri : not r₂ ≡ true → false ≡ parts_right (take m l) (part l (m + 1) u) (drop (u + 1) l)
    parts_no_uri n = sym (parts_are ∙ rw (not-true r₂ n))

    pub parts_version : not r₂ ≡ false → (r₃ : Bool) → r₃ ≡ same_any_case (take (length l - (u + 1)) (drop (u + 1) l)) (text "SIP/2.0")
        → r₃ ≡ parts_right (take m l) (part l (m + 1) u) (drop (u + 1) l)
    parts_version n r₃ er₃ =
        er₃ ∙ ap (λ (v : List ℕ). same_any_case v (text "SIP/2.0")) (take_all (length l - (u + 1)) (drop (u + 1) l) (le_of_eq (length-drop (u + 1) l)))
        ∙ sym (parts_are ∙ rw (not-false r₂ n))

-- ---- its two SPs

abbrev sp : List ℕ → ℕ
sp s = first (begins (32 ∷ [])) s

-- no letter's lower form is SP
lower_sp : (b : ℕ) (t : Bool) → within 65 90 b ≡ t → eqb 32 (pick t (b + 32) b) ≡ eqb 32 b
lower_sp b true e =
    let low : 65 ≤ b = leb-true 65 b (is_true (leb 65 b) (left (leb 65 b) (leb b 90) (T_of e))) in
    ne_eqb 32 (b + 32) (λ q. omega arith) ∙ sym (ne_eqb 32 b (λ q. omega arith))
lower_sp b false e = refl

sp_lowers : (s : List ℕ) → sp (lowers s) ≡ sp s
unfolding first
sp_lowers [] = refl
sp_lowers (b ∷ s) =
    ap (λ (t : Bool). pick (t && true) 0 (suc (sp (lowers s)))) (lower_sp b (within 65 90 b) refl)
    ∙ ap (λ (k : ℕ). pick (eqb 32 b && true) 0 (suc k)) (sp_lowers s)

-- no SP stands in the version
version_sp : (v : List ℕ) → same_any_case v (text "SIP/2.0") ≡ true → length v ≤ sp v
unfolding first
version_sp v e =
    let same : lowers v ≡ lowers (text "SIP/2.0") = same_eq (lowers v) (lowers (text "SIP/2.0")) (T_of e) in
    let place : sp v ≡ 7 = sym (sp_lowers v) ∙ ap sp same in
    let long : length v ≡ 7 = sym (lowers_length v) ∙ ap length same in
    omega arith

version_not : (v : List ℕ) → sp v < length v → same_any_case v (text "SIP/2.0") ≡ false
version_not v h = go (same_any_case v (text "SIP/2.0")) refl
  where
    go : (t : Bool) → same_any_case v (text "SIP/2.0") ≡ t → t ≡ false
    go true e = absurd (omega (arith, version_sp v e))
    go false e = refl

abbrev pub started : List ℕ → List ℕ → Bool → Option Start
started m u t = holds t >>= λ _. some (record { method = m; uri = u })

-- what stands after the second SP is the version, or there is a third
three_parts : (m u v : List ℕ) → three (m ∷ u ∷ cut_at 32 v) ≡ started m u (parts_right m u v)
three_parts m u v =
    elim (dec_le (length v) (sp v)) [
      | yes h ↦ ap (λ (ls : List (List ℕ)). three (m ∷ u ∷ ls)) (cut_last 32 v h)
      | no h ↦
          let more : sp v < length v = omega (arith, h) in
          let k = sp v + 1 in
          let no_version : parts_right m u v ≡ false = rw (version_not v more, and-false) in
          ap (λ (ls : List (List ℕ)). three (m ∷ u ∷ ls)) (cut_on 32 v more)
          ∙ four (cut_at 32 (drop k v)) (nonempty 32 (drop k v))
          ∙ sym (ap (started m u) no_version)
    ]
  where
    four : (ls : List (List ℕ)) → (ls ≡ [] → ⊥) → three (m ∷ u ∷ take (sp v) v ∷ ls) ≡ none
    four [] h = absurd (h refl)
    four (l ∷ ls) h = refl

module _ (l : List ℕ) (m : ℕ) (em : m ≡ 0 + first (begins (32 ∷ [])) (drop 0 l)) where
  m_is : sp l ≡ m
  m_is = omega (arith, em)

  pub start_no_sp : length l ≤ m → None ≡ start_places (start_line l)
  start_no_sp h = sym (ap (λ (ls : List (List ℕ)). start_places (three ls)) (cut_last 32 l (omega (arith, m_is))))

  module _ (more : m < length l) (u : ℕ) (eu : u ≡ m + 1 + first (begins (32 ∷ [])) (drop (m + 1) l)) where
    in_after : length (drop (m + 1) l) ≡ length l - (m + 1)
    in_after = length-drop (m + 1) l

    on_m : cut_at 32 l ≡ take m l ∷ cut_at 32 (drop (m + 1) l)
    on_m = cut_on 32 l (omega (arith, m_is)) ∙ ap (λ (k : ℕ). take k l ∷ cut_at 32 (drop (k + 1) l)) m_is

    pub start_one_sp : length l ≤ u → None ≡ start_places (start_line l)
    start_one_sp h =
        sym (ap (λ (ls : List (List ℕ)). start_places (three ls))
        (on_m ∙ ap (λ (ls : List (List ℕ)). take m l ∷ ls) (cut_last 32 (drop (m + 1) l) (omega (arith, in_after, eu)))))

    module _ (further : u < length l) (r : Bool) (er : r ≡ parts_right (take m l) (part l (m + 1) u) (drop (u + 1) l)) where
      on_u : cut_at 32 (drop (m + 1) l) ≡ part l (m + 1) u ∷ cut_at 32 (drop (u + 1) l)
      on_u =
          let k = sp (drop (m + 1) l) in
          let e : k ≡ u - (m + 1) = omega (arith, eu) in
          let f : m + 1 + (k + 1) ≡ u + 1 = omega (arith, eu) in
          cut_on 32 (drop (m + 1) l) (omega (arith, in_after, eu))
          ∙ ap (λ (j : ℕ). take j (drop (m + 1) l) ∷ cut_at 32 (drop (k + 1) (drop (m + 1) l))) e
          ∙ ap (λ (s : List ℕ). part l (m + 1) u ∷ cut_at 32 s) (drop-drop (k + 1) (m + 1) l ∙ ap (λ (j : ℕ). drop j l) f)

      pub start_whole : start_line l ≡ started (take m l) (part l (m + 1) u) r
      start_whole =
          ap three (on_m ∙ ap (λ (ls : List (List ℕ)). take m l ∷ ls) on_u)
          ∙ three_parts (take m l) (part l (m + 1) u) (drop (u + 1) l)
          ∙ ap (started (take m l) (part l (m + 1) u)) (sym er)

      pub start_wrong : r ≡ false → None ≡ start_places (start_line l)
      start_wrong f = sym (ap start_places (start_whole ∙ ap (started (take m l) (part l (m + 1) u)) f))

      pub start_right : r ≡ true → start_at m u ≡ start_places (start_line l)
      start_right f =
          let long_m : length (take m l) ≡ m = length-take-le m l (omega arith) in
          let long_u : length (part l (m + 1) u) ≡ u - (m + 1) = length-take-le (u - (m + 1)) (drop (m + 1) l) (omega (arith, in_after)) in
          let u_is : m + 1 + (u - (m + 1)) ≡ u = omega (arith, eu) in
          sym (ap start_places (start_whole ∙ ap (started (take m l) (part l (m + 1) u)) f)
          ∙ (λ i. start_at (long_m i) (long_m i + 1 + long_u i)) ∙ ap (start_at m) u_is)

-- A point in a value: the value up to its end tag, which is the last word of the point, and then the point that this word leads to.
use mathlib.Core.Path.{◌≡◌, refl, ap, ap₂, subst, subst⁻¹, ◌∙◌}
use mathlib.Core.Bool.{Bool, ◌&&◌, ◌||◌}
use Prim.Native.Nat.{ℕ, suc, ◌+◌, ◌-◌, ◌≤◌, ◌<◌}
use native.Mathlib.Numerals.{add-one}
use native.Mathlib.Omega.{arith}
use lib.ListN.{length, get_or}
use lib.Dec.{T, leb, ltb, eqb, leb→le, ltb→lt}
use Rattle.octets.proofs.Tests.{left, right, or_cases}
use Rattle.octets.proofs.Table as table
use Rattle.scan.specs.Inner.Points.{firsts, starts, nexts, letters, word_at, first_word}
use Rattle.scan.specs.Inner.Rests.{rest, rests, in_number, in_string, in_priority, in_cnf, in_negated, in_group, in_case, in_type, in_type_2, in_handling, in_part, in_uri_text, in_method_text, in_header_text, in_content_text, in_line_text, in_line_content_text, in_server_text, in_info_text}
use Rattle.scan.specs.Inner.Tags.{last_word, as_tag, tag_of}
use Rattle.scan.proofs.Lettered.{Placed, placed, word_long}
use Rattle.scan.proofs.PointLaws.{All, of}

abbrev pub Number : ℕ → Type 0
Number q = rest q ≡ in_number q (word_at (last_word q)) (rest (get_or nexts (last_word q) 0))

abbrev pub Text : ℕ → Type 0
Text q = rest q ≡ in_string q (word_at (last_word q)) (rest (get_or nexts (last_word q) 0))

number_25 : Number 25
unfolding rest rests word_at firsts starts letters nexts in_priority
number_25 = refl

number_26 : Number 26
unfolding rest rests word_at firsts starts letters nexts in_cnf
number_26 = refl

number_27 : Number 27
unfolding rest rests word_at firsts starts letters nexts in_negated
number_27 = refl

number_28 : Number 28
unfolding rest rests word_at firsts starts letters nexts in_group
number_28 = refl

number_29 : Number 29
unfolding rest rests word_at firsts starts letters nexts in_case
number_29 = refl

number_30 : Number 30
unfolding rest rests word_at firsts starts letters nexts in_type
number_30 = refl

number_31 : Number 31
unfolding rest rests word_at firsts starts letters nexts in_type_2
number_31 = refl

number_32 : Number 32
unfolding rest rests word_at firsts starts letters nexts in_handling
number_32 = refl

number_33 : Number 33
unfolding rest rests word_at firsts starts letters nexts in_part
number_33 = refl

text_34 : Text 34
unfolding rest rests word_at firsts starts letters nexts in_uri_text
text_34 = refl

text_35 : Text 35
unfolding rest rests word_at firsts starts letters nexts in_method_text
text_35 = refl

text_36 : Text 36
unfolding rest rests word_at firsts starts letters nexts in_header_text
text_36 = refl

text_37 : Text 37
unfolding rest rests word_at firsts starts letters nexts in_content_text
text_37 = refl

text_38 : Text 38
unfolding rest rests word_at firsts starts letters nexts in_line_text
text_38 = refl

text_39 : Text 39
unfolding rest rests word_at firsts starts letters nexts in_line_content_text
text_39 = refl

text_40 : Text 40
unfolding rest rests word_at firsts starts letters nexts in_server_text
text_40 = refl

text_41 : Text 41
unfolding rest rests word_at firsts starts letters nexts in_info_text
text_41 = refl

numbers : All (λ i. Number (25 + i)) 9
numbers = (((((((((tt, number_25), number_26), number_27), number_28), number_29), number_30), number_31), number_32), number_33)

texts : All (λ i. Text (34 + i)) 8
texts = ((((((((tt, text_34), text_35), text_36), text_37), text_38), text_39), text_40), text_41)

pub at_number : (q : ℕ) → 25 ≤ q → q < 34 → Number q
at_number q h k = let e : 25 + (q - 25) ≡ q = omega (arith, h) in subst Number e (of (λ i. Number (25 + i)) 9 numbers (q - 25) (omega (arith, h, k)))

pub at_text : (q : ℕ) → 34 ≤ q → q < 42 → Text q
at_text q h k = let e : 34 + (q - 34) ≡ q = omega (arith, h) in subst Text e (of (λ i. Text (34 + i)) 8 texts (q - 34) (omega (arith, h, k)))

-- ---- end tags

ruled : ℕ → ℕ → Bool
unfolding word_at
ruled i x = ltb i 26 || (leb 1 x && (leb x 123 && (eqb 60 (get_or (word_at (x - 1)) 0 0) && ltb (get_or nexts (x - 1) 0) 42)))

tested : (i : ℕ) → i < 43 → T (ruled i (get_or firsts i 0))
unfolding ruled word_at firsts starts letters nexts
tested i h = table.at ruled firsts tt i h

pub record EndTag (q : ℕ) : Type 0 where
  pub some_word : 1 ≤ first_word (suc q)
  pub few : first_word (suc q) ≤ 123
  pub opens : T (eqb 60 (get_or (word_at (last_word q)) 0 0))
  pub leads : get_or nexts (last_word q) 0 < 42

pub end_tag : (q : ℕ) → 25 ≤ q → q < 42 → EndTag q
unfolding ruled
end_tag q h k =
    let x : ℕ = first_word (suc q) in
    or_cases (ltb (suc q) 26) _ (tested (suc q) (omega (arith, k)))
    (λ t. let l : suc q < 26 = ltb→lt (suc q) 26 t in absurd (omega (arith, l, h)))
    (λ t. let a = right (leb 1 x) _ t in
    let b = right (leb x 123) _ a in
    record {
      some_word = leb→le 1 x (left (leb 1 x) _ t);
      few = leb→le x 123 (left (leb x 123) _ a);
      opens = left (eqb 60 (get_or (word_at (x - 1)) 0 0)) _ b;
      leads = ltb→lt (get_or nexts (x - 1) 0) 42 (right (eqb 60 (get_or (word_at (x - 1)) 0 0)) _ b);
    })

-- ---- what the code reads of an end tag

module _ (q end : ℕ) (h : 25 ≤ q) (k : q < 42) (e : end ≡ get_or firsts (q + 1) 0) where
  end_is : end ≡ first_word (suc q)
  end_is = rw add-one at e

  pub tag_some : 1 ≤ end
  tag_some = let t : EndTag q = end_tag q h k in let f : end ≡ first_word (suc q) = end_is in omega (arith, f, t.some_word)

  pub tag_number : end - 1 < 123
  tag_number = let t : EndTag q = end_tag q h k in let f : end ≡ first_word (suc q) = end_is in omega (arith, f, t.few, t.some_word)

  module _ (width : ℕ) (a : width ≡ length (word_at (end - 1))) where
    pub tag_wide : width ≤ 1103
    tag_wide =
        let p : Placed (end - 1) = placed (end - 1) tag_number in
        omega (arith, a, word_long (end - 1) tag_number, p.ends)

    pub tag_is : (n : ℕ) → n ≡ get_or nexts (end - 1) 0 → as_tag width n ≡ tag_of q
    unfolding tag_of
    tag_is n c = ap₂ as_tag a c ∙ ap (λ (x : ℕ). as_tag (length (word_at (x - 1))) (get_or nexts (x - 1) 0)) end_is

  pub tag_leads : (n : ℕ) → n ≡ get_or nexts (end - 1) 0 → n < 42
  tag_leads n c =
      let t : EndTag q = end_tag q h k in
      subst⁻¹ (λ (x : ℕ). x < 42) (c ∙ ap (λ (x : ℕ). get_or nexts (x - 1) 0) end_is) t.leads

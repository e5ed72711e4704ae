-- Over a value of a whole text: its bytes go up to the first `<`, where its end tag stands.
use mathlib.Core.Path.{◌≡◌, refl, sym, ap, ap₂, subst, subst⁻¹, ◌∙◌}
use mathlib.Core.Bool.{Bool, true, false, not, ◌&&◌, ◌||◌}
use mathlib.Core.Logic.{inl, inr}
use Prim.Native.Nat.{ℕ, suc, ◌+◌, ◌-◌, ◌≤◌, ◌<◌}
use native.Mathlib.Omega.{arith}
use mathlib.Core.List.{List, [], ◌∷◌, ◌++◌, append_assoc}
use lib.Dec.{T, eqb, ltb, leb, leb→le, eqb→eq}
use lib.ListN.{length, get_or, take, drop, length-drop, length-append}
use lib.Seq.{drop-drop, take_at, drop_at}
use borrow.Author.Tests.{lt-ltb, le-ltb, ltb-true, ltb-false}
use Rattle.octets.specs.Lists.{pick, every}
use Rattle.octets.proofs.Tests.{both, left, right, is_true, is_false, T_of, test_cases, or_neither, not_T_of}
use Rattle.cuts.specs.Cutting.{begins}
use Rattle.cuts.specs.Inner.Searching.{first}
use Rattle.cuts.proofs.Search.{first_yes, first_no, first_le}
use Rattle.grammar.specs.Grammar.{Grammar, one, ◌then◌, many, Member, Each}
use Rattle.grammar.specs.Reading.{read_as, expect}
use Rattle.grammar.specs.Inner.Made.{made}
use Rattle.grammar.proofs.Split.{split, expect_read, made_read_as}
use Rattle.scan.specs.Table.{digit, character, decimal}
use Rattle.scan.specs.Inner.Events.{Event, number_at, string_at, note, note_text}
use Rattle.scan.specs.Inner.Points.{nexts, word_at}
use Rattle.scan.specs.Inner.Tags.{last_word, tag_of}
use Rattle.scan.specs.Inner.Rests.{Ahead, told, rest, in_number, in_string}
use Rattle.scan.specs.declared.tags.Tag.{Tag}
use Rattle.scan.proofs.ValuePoints.{at_number, at_text, end_tag}
use Rattle.compose.specs.Inner.Telling.{event_at, as_value, Comes, Passes}
use Rattle.compose.specs.Inner.Values.{decoded}
use Rattle.compose.proofs.Characters.{string_right, number_right}

-- ---- no `<` stands in a value

abbrev free : ℕ → Bool
free b = not (eqb 60 b)

every_append : (u v : List ℕ) → T (every free u) → T (every free v) → T (every free (u ++ v))
every_append [] v h k = k
every_append (b ∷ u) v h k = both (free b) (every free (u ++ v)) (left (free b) (every free u) h) (every_append u v (right (free b) (every free u) h) k)

free_many : {A : Type 0} (g : Grammar A) → ((u : List ℕ) (a : A) → Member g u a → T (every free u))
    → (l : List A) (s : List ℕ) → Each (Member g) s l → T (every free s)
free_many g f [] s m = subst⁻¹ (λ (z : List ℕ). T (every free z)) m tt
free_many g f (a ∷ l) s m =
    subst⁻¹ (λ (z : List ℕ). T (every free z)) m.2 (every_append m.0 m.1 (f m.0 a m.3) (free_many g f l m.1 m.4))

free_by : (b : ℕ) → (b ≡ 60 → ⊥) → T (free b)
free_by b h = test_cases (eqb 60 b) (λ e. absurd (h (sym (eqb→eq 60 b (T_of e))))) (λ e. subst⁻¹ (λ (x : Bool). T (not x)) e tt)

free_digit : (u : List ℕ) (a : ℕ) → Member (one digit) u a → T (every free u)
unfolding Member
free_digit u a m =
    let l : a ≤ 57 = leb→le a 57 (right (leb 48 a) (leb a 57) m.1) in
    subst⁻¹ (λ (z : List ℕ). T (every free z)) m.0 (both (free a) true (free_by a (λ e. absurd (omega (arith, l, e)))) tt)

free_character : (u : List ℕ) (a : ℕ) → Member character u a → T (every free u)
unfolding Member
free_character u a (inl m) =
    subst⁻¹ (λ (z : List ℕ). T (every free z)) m.0
    (both (free a) true
    (free_by a (λ e. let f : eqb a 60 ≡ false = (or_neither (eqb a 60) (eqb a 38) (is_false (eqb a 60 || eqb a 38) m.1)).0 in
    not_T_of (subst (λ (x : ℕ). eqb x 60 ≡ false) e f) tt)) tt)
free_character u a (inr (inl m)) = subst⁻¹ (λ (z : List ℕ). T (every free z)) m.2 tt
free_character u a (inr (inr (inl m))) = subst⁻¹ (λ (z : List ℕ). T (every free z)) m.2 tt
free_character u a (inr (inr (inr (inl m)))) = subst⁻¹ (λ (z : List ℕ). T (every free z)) m.2 tt
free_character u a (inr (inr (inr (inr (inl m))))) = subst⁻¹ (λ (z : List ℕ). T (every free z)) m.2 tt
free_character u a (inr (inr (inr (inr (inr m))))) = subst⁻¹ (λ (z : List ℕ). T (every free z)) m.2 tt

free_digits : (u : List ℕ) (p : ℕ × List ℕ) → Member (one digit then many (one digit)) u p → T (every free u)
unfolding Member
free_digits u p m =
    subst⁻¹ (λ (z : List ℕ). T (every free z)) m.2
    (every_append m.0 m.1 (free_digit m.0 p.0 m.3) (free_many (one digit) free_digit p.1 m.1 m.4))

free_string : (u t : List ℕ) → Member (many character) u t → T (every free u)
unfolding Member
free_string u t m = free_many character free_character t u m

-- the first `<` is that of the tag behind it
tag_first : (u c v : List ℕ) → T (every free u) → T (eqb 60 (get_or c 0 0)) → first (begins (60 ∷ [])) (u ++ (c ++ v)) ≡ length u
tag_first [] [] v h k = absurd k
tag_first [] (b ∷ c) v h k = first_yes (begins (60 ∷ [])) b (c ++ v) (is_true (eqb 60 b && true) (both (eqb 60 b) true k tt))
tag_first (b ∷ u) c v h k =
    first_no (begins (60 ∷ [])) b (u ++ (c ++ v)) (ap (λ (x : Bool). x && true) (is_false (eqb 60 b) (left (free b) (every free u) h)))
    ∙ ap suc (tag_first u c v (right (free b) (every free u) h) k)

-- ---- a value, its end tag and what comes

pub record ValueThen (q : ℕ) (c : List ℕ) (n : ℕ) (t : List ℕ) (l : List Event) : Type 0 where
  pub bytes : List ℕ
  pub behind : List ℕ
  pub more : List Event
  pub parts : t ≡ bytes ++ (c ++ behind)
  pub no_tag : T (every free bytes)
  pub first_is : l ≡ event_at q bytes ∷ more
  pub goes : rest n behind ≡ read_as more

number_then : (q : ℕ) (c : List ℕ) (n : ℕ) (t : List ℕ) (l : List Event) → q < 34 → in_number q c (rest n) t ≡ read_as l → ValueThen q c n t l
unfolding in_number told Member
number_then q c n t l h e =
    let p = split (one digit then many (one digit)) (λ (a : ℕ × List ℕ) u. made (note q (decimal 0 (a.0 ∷ a.1))) (expect c (rest n) u)) t l e in
    let a = p.0 in
    let m = made_read_as (note q (decimal 0 (a.0 ∷ a.1))) (expect c (rest n) p.2) l p.5 in
    let w = expect_read c (rest n) p.2 m.0 m.1 in
    let v : decimal 0 p.1 ≡ decimal 0 (a.0 ∷ a.1) = number_right p.1 (decimal 0 (a.0 ∷ a.1)) (a, refl, p.4) in
    record {
      bytes = p.1;
      behind = w.0;
      more = m.0;
      parts = p.3 ∙ ap (λ (z : List ℕ). p.1 ++ z) w.1;
      no_tag = free_digits p.1 a p.4;
      first_is =
          m.2 ∙ ap (λ (x : ℕ). number_at q x ∷ m.0) (sym v)
          ∙ ap (λ (b : Bool). pick b (number_at q (decimal 0 p.1)) (string_at q (decoded p.1)) ∷ m.0) (sym (lt-ltb q 34 h));
      goes = w.2;
    }

string_then : (q : ℕ) (c : List ℕ) (n : ℕ) (t : List ℕ) (l : List Event) → 34 ≤ q → in_string q c (rest n) t ≡ read_as l → ValueThen q c n t l
unfolding in_string told
string_then q c n t l h e =
    let p = split (many character) (λ a u. made (note_text q a) (expect c (rest n) u)) t l e in
    let m = made_read_as (note_text q p.0) (expect c (rest n) p.2) l p.5 in
    let w = expect_read c (rest n) p.2 m.0 m.1 in
    let v : decoded p.1 ≡ p.0 = string_right p.1 p.0 p.4 in
    record {
      bytes = p.1;
      behind = w.0;
      more = m.0;
      parts = p.3 ∙ ap (λ (z : List ℕ). p.1 ++ z) w.1;
      no_tag = free_string p.1 p.0 p.4;
      first_is =
          m.2 ∙ ap (λ (x : List ℕ). string_at q x ∷ m.0) (sym v)
          ∙ ap (λ (b : Bool). pick b (number_at q (decimal 0 p.1)) (string_at q (decoded p.1)) ∷ m.0) (sym (le-ltb q 34 h));
      goes = w.2;
    }

value_then : (q : ℕ) → 25 ≤ q → q < 42 → (t : List ℕ) (l : List Event) → rest q t ≡ read_as l
    → ValueThen q (word_at (last_word q)) (get_or nexts (last_word q) 0) t l
value_then q h k t l e =
    test_cases (ltb q 34)
    (λ b. let i : q < 34 = ltb-true q 34 b in
    number_then q (word_at (last_word q)) (get_or nexts (last_word q) 0) t l i (sym (ap (λ (f : List ℕ → Ahead). f t) (at_number q h i)) ∙ e))
    (λ b. let i : 34 ≤ q = ltb-false q 34 b in
    string_then q (word_at (last_word q)) (get_or nexts (last_word q) 0) t l i (sym (ap (λ (f : List ℕ → Ahead). f t) (at_text q i k)) ∙ e))

-- ---- what the code answers

module _ (s : List ℕ) (at end : ℕ) (h : at ≤ length s) (e : end ≡ at + first (begins (60 ∷ [])) (drop at s)) where
  pub end_inside : end ≤ length s
  end_inside =
      let l : first (begins (60 ∷ [])) (drop at s) ≤ length (drop at s) = first_le (begins (60 ∷ [])) (drop at s) in
      omega (arith, l, e, length-drop at s, h)

  pub end_small : length s ≤ 65535 → end ≤ 65535
  end_small k = let l : end ≤ length s = end_inside in omega (arith, l, k)

  behind_is : (u c b : List ℕ) (y : ℕ) → y ≡ at + (length u + length c) → drop at s ≡ u ++ (c ++ b) → drop y s ≡ b
  behind_is u c b y f g =
      ap (λ (x : ℕ). drop x s) f
      ∙ sym (drop-drop (length u + length c) at s)
      ∙ ap (drop (length u + length c)) (g ∙ sym (append_assoc u c b))
      ∙ drop_at (u ++ c) b (length u + length c) (length-append u c)

  module _ (q : ℕ) (i : 25 ≤ q) (k : q < 42) where
    comes_by : (l : List Event) → ValueThen q (word_at (last_word q)) (get_or nexts (last_word q) 0) (drop at s) l
        → Comes q s at (as_value end (end + length (word_at (last_word q))) (get_or nexts (last_word q) 0)) l
    comes_by l v =
        let c : List ℕ = word_at (last_word q) in
        let u : List ℕ = v.bytes in
        let n : end - at ≡ length u =
        (let f : first (begins (60 ∷ [])) (drop at s) ≡ length u =
        ap (first (begins (60 ∷ []))) v.parts ∙ tag_first u c v.behind v.no_tag (end_tag q i k).opens in omega (arith, e, f)) in
        let m : length (drop at s) ≡ length u + (length c + length v.behind) =
        ap length v.parts ∙ length-append u (c ++ v.behind) ∙ ap (λ (x : ℕ). length u + x) (length-append c v.behind) in
        let z : end + length c ≡ at + (length u + length c) = omega (arith, n, e) in
        record {
          more = v.more;
          first = v.first_is ∙ ap (λ (x : List ℕ). event_at q x ∷ v.more) (sym (ap₂ take n v.parts ∙ take_at u (c ++ v.behind) (length u) refl));
          inside = omega (arith, m, length-drop at s, h, z);
          goes = ap (rest (get_or nexts (last_word q) 0)) (behind_is u c v.behind (end + length c) z v.parts) ∙ v.goes;
        }

    pub passes : (tag : Tag) → tag ≡ tag_of q → tag.next < 42 → Passes q s at (as_value end (end + tag.width) tag.next)
    unfolding tag_of
    passes tag f n = record {
      point = n;
      from = omega (arith, e);
      comes = λ l g.
          subst⁻¹ (λ (x : Tag). Comes q s at (as_value end (end + x.width) x.next) l) f (comes_by l (value_then q i k (drop at s) l g));
    }

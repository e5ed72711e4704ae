-- Whether the fields of a request say that its body is a session description: the search for its Content-Type field.
use Rattle.std.specs.Prelude.{Option, Some, None, is_some}
use Rattle.std.specs.Option.{unwrap_or}
use mathlib.Core.Bool.{Bool, true, false}
use mathlib.Core.Path.{◌≡◌, refl, sym, ap, ◌∙◌}
use mathlib.Core.List.{List, [], ◌∷◌}
use Prim.Native.Nat.{ℕ, ◌+◌, ◌-◌, ◌≤◌, ◌<◌}
use native.Mathlib.Omega.{arith}
use lib.ListN.{length, take, drop, drop_of_length-le}
use Rattle.octets.specs.Lists.{pick, only}
use Rattle.cuts.specs.Inner.Parts.{part, over}
use Rattle.contents.specs.Body.{session_lines}
use Rattle.contents.specs.Description.{content_type, one_description}
use Rattle.contents.specs.Names.{name_as_matched}
use Rattle.contents.specs.Inner.Places.{values_from}
use Rattle.contents.specs.Values.{reduced, values_of}
use Rattle.contents.proofs.Describing.{type_values}
use Rattle.contents.proofs.Laws.{reduced_front}
use Rattle.request.specs.Inner.Places.{head_of, Fielded, request_of, field_parts, lines_start}
use Rattle.request.specs.Request.{Field, described_by, is_description, request_lines}
use Rattle.request.specs.declared.FieldParts.{FieldParts}
use Rattle.request.proofs.Indexing.{short, head_inside, body_is, body_length}
use Rattle.request.proofs.OneField.{said}

-- ---- the value of such a field, reduced into the room

pub value_says : (raw before room : List ℕ) (n : ℕ) → n ≡ length (reduced raw) → room ≡ over (reduced raw) before
    → (r : Bool) → r ≡ one_description (values_from (take (n - 0) (drop 0 room)) 0) → r ≡ one_description (values_from (reduced raw) 0)
value_says raw before room n en er r e = e ∙ ap (λ (v : List ℕ). one_description (values_from v 0)) (reduced_front raw before room n en er)

-- ---- the search

abbrev typed : Field → Bool
typed f = content_type f.name

-- the answer by what the Content-Type field before says, if there is one, and by those that are left
abbrev going : Option Bool → List Field → Bool
going None l = described_by l
going (Some says) [] = says
going (Some says) (f ∷ l) = false

-- the fields before i were looked at
pub record Looking (s : List ℕ) (fields i : ℕ) (o : Option Bool) : Type 0 where
  pub answer : going o (only typed (drop i (request_of s).fields)) ≡ is_description (request_of s)

pub looking_first : (s : List ℕ) (fields : ℕ) → Looking s fields 0 None
unfolding is_description
looking_first s fields = record { answer = refl }

typed_or_not : (o : Option Bool) (f : Field) (l : List Field) (b : Bool) → typed f ≡ b
    → going o (only typed (f ∷ l)) ≡ going o (pick b (f ∷ only typed l) (only typed l))
typed_or_not o f l b e = ap (λ (t : Bool). going o (pick t (f ∷ only typed l) (only typed l))) e

-- the first one's values decide, unless another follows
first_one : (f : Field) (l : List Field) → going None (f ∷ l) ≡ going (Some (one_description f.values)) l
first_one f [] = refl
first_one f (g ∷ l) = refl

second : (o : Option Bool) (f : Field) (l : List Field) → is_some o ≡ true → going o (f ∷ l) ≡ false
second None f l e = let z : ◌≡◌ {A = ℕ} 0 1 = cc in absurd (omega arith)
second (Some b) f l e = refl

not_seen : (o : Option Bool) → is_some o ≡ false → o ≡ None
not_seen None e = refl
not_seen (Some b) e = let z : ◌≡◌ {A = ℕ} 0 1 = cc in absurd (omega arith)

module _ (s starts colons : List ℕ) (head fields : ℕ) (x : Fielded s starts colons head fields) (i : ℕ) (o : Option Bool) (k : Looking s fields i o) where
  module _ (less : i < fields) (f : FieldParts) (f_is : f ≡ field_parts (head_of s) i) where
    abbrev name : List ℕ
    name = name_as_matched (part s f.name f.stop)

    abbrev this : Field
    this = record { name = name; values = values_of name (reduced (part s f.value f.end)) }

    abbrev later : List Field
    later = drop (i + 1) (request_of s).fields

    list_is : drop i (request_of s).fields ≡ (this ∷ later)
    list_is = (said s starts colons head fields x i less f f_is).list

    module _ (w : List ℕ) (w_is : w ≡ name) (t : Bool) (t_of : t ≡ content_type w) where
      t_is : content_type name ≡ t
      t_is = sym (t_of ∙ ap content_type w_is)

      this_by : (b : Bool) → t ≡ b → going o (pick b (this ∷ only typed later) (only typed later)) ≡ is_description (request_of s)
      this_by b e = sym (typed_or_not o this later b (t_is ∙ e)) ∙ sym (ap (λ (l : List Field). going o (only typed l)) list_is) ∙ k.answer

      pub looking_past : t ≡ false → Looking s fields (i + 1) o
      looking_past n = record { answer = this_by false n }

      module _ (y : t ≡ true) where
        pub second_one : is_some o ≡ true → false ≡ is_description (request_of s)
        second_one e = sym (second o this (only typed later) e) ∙ this_by true y

        pub looking_on : is_some o ≡ false → (r : Bool) → r ≡ one_description (values_from (reduced (part s f.value f.end)) 0) → Looking s fields (i + 1) (Some r)
        looking_on e r r_is = record {
          answer =
              ap (λ (b : Bool). going (Some b) (only typed later)) (r_is ∙ sym (ap one_description (type_values name (reduced (part s f.value f.end)) (t_is ∙ y))))
              ∙ sym (first_one this (only typed later)) ∙ sym (ap (λ (p : Option Bool). going p (this ∷ only typed later)) (not_seen o e)) ∙ this_by true y;
        }

  pub looking_end : fields ≤ i → unwrap_or o false ≡ is_description (request_of s)
  looking_end past = at_end o ∙ sym (ap (λ (l : List Field). going o (only typed l)) none_left) ∙ k.answer
    where
      none_left : drop i (request_of s).fields ≡ []
      none_left = let past_all : length (request_of s).fields ≤ i = omega (arith, x.count) in drop_of_length-le (request_of s).fields past_all

      at_end : (p : Option Bool) → unwrap_or p false ≡ going p []
      at_end None = refl
      at_end (Some b) = refl

-- ---- where body lines begin

module _ (s starts colons : List ℕ) (head fields : ℕ) (x : Fielded s starts colons head fields) where
  pub start_room : head + 4 < 18446744073709551616
  start_room = omega (arith, head_inside s starts colons head fields x, short s starts colons head fields x)

  abbrev start_by : Bool → ℕ
  start_by b = length (head_of s) + 4 + pick b 0 (length (request_of s).body)

  module _ (r : Bool) (r_is : r ≡ is_description (request_of s)) where
    pub after_head : r ≡ true → head + 4 ≡ lines_start (head_of s) (request_of s)
    after_head e = let at : head + 4 ≡ start_by true = omega (arith, x.head_is) in at ∙ ap start_by (sym e ∙ r_is)

    pub at_the_end : r ≡ false → length s ≡ lines_start (head_of s) (request_of s)
    at_the_end e =
        let at : length s ≡ start_by false = omega (arith, x.head_is, body_length s starts colons head fields x) in
        at ∙ ap start_by (sym e ∙ r_is)

  pub start_inside : lines_start (head_of s) (request_of s) ≤ length s
  start_inside = inside_by (is_description (request_of s))
    where
      inside_by : (b : Bool) → start_by b ≤ length s
      inside_by true = omega (arith, x.head_is, body_length s starts colons head fields x)
      inside_by false = omega (arith, x.head_is, body_length s starts colons head fields x)

  pub lines_there : session_lines (drop (lines_start (head_of s) (request_of s)) s) ≡ request_lines (request_of s)
  unfolding request_lines session_lines
  lines_there = lines_by (is_description (request_of s))
    where
      lines_by : (b : Bool) → session_lines (drop (start_by b) s) ≡ pick b (session_lines (request_of s).body) []
      lines_by true =
          let at : start_by true ≡ head + 4 = omega (arith, x.head_is) in
          ap session_lines (ap (λ (i : ℕ). drop i s) at ∙ sym (body_is s starts colons head fields x))
      lines_by false =
          let at_end : length s ≤ start_by false = omega (arith, x.head_is, body_length s starts colons head fields x) in
          ap session_lines (drop_of_length-le s at_end)

-- Each point in a value, and the one at the top: how the grammar goes on is what the table says.
use mathlib.Core.Path.{◌≡◌, refl, sym, ap, ◌∙◌, fun_ext}
use Prim.Native.Nat.{ℕ}
use mathlib.Core.List.{List}
use Rattle.octets.specs.Lists.{text}
use Rattle.grammar.specs.Grammar.{Grammar, one, ◌then◌, ◌or◌, many}
use Rattle.grammar.specs.Reading.{wrong, better, expect, expect_one, read}
use Rattle.grammar.specs.Inner.Made.{Only, forget}
use Rattle.grammar.proofs.Sound.{solid, sound}
use Rattle.scan.specs.Table.{digit, plain, character, entity, end_tag}
use Rattle.scan.specs.Inner.Points.{firsts, starts, nexts, letters, word_at, choices, first_word, word_count}
use Rattle.grammar.proofs.Better.{better_none, better_assoc}
use Rattle.scan.proofs.Passing.{skipping}
use Rattle.scan.proofs.Forgetting.{forget_number, forget_string}
use Rattle.scan.specs.Inner.Rests.{pass, Ahead, plainly, in_number, in_string, rest, rests, after_priority, after_part, after_cnf, after_negated, after_group, after_test, after_type, after_types, after_header, after_content, after_line, after_line_content, after_name, after_handling, after_info, in_priority, in_cnf, in_negated, in_group, in_case, in_type, in_type_2, in_handling, in_part, in_uri_text, in_method_text, in_header_text, in_content_text, in_line_text, in_line_content_text, in_server_text, in_info_text}

-- ---- numbers

-- a point in a number
abbrev pub Number : ℕ → Type 0
Number q = (s : List ℕ) → plainly q s ≡ expect_one digit (λ b. pass (many (one digit)) (choices plainly (first_word q) (word_count q))) s

-- a digit, more digits, and then k, which is the only way on
digits : (k : List ℕ → Only) (s : List ℕ)
    → pass (one digit then many (one digit)) k s ≡ expect_one digit (λ b. pass (many (one digit)) (λ u. better (k u) (wrong 0))) s
unfolding pass read
digits k s = ap (λ (f : List ℕ → Only). pass (one digit then many (one digit)) f s) (fun_ext (λ u. sym (better_none (k u))))

numbers : (q : ℕ) (c : List ℕ) (k : List ℕ → Ahead) (s : List ℕ)
    → forget (in_number q c k s) ≡ expect_one digit (λ b. pass (many (one digit)) (λ u. better (expect c (λ v. forget (k v)) u) (wrong 0))) s
numbers q c k s = forget_number q c k s ∙ digits (expect c (λ v. forget (k v))) s

pub point_priority : Number 25
unfolding choices word_at firsts starts letters nexts rest rests in_priority
point_priority s = numbers 25 (end_tag "Priority") after_priority s

pub point_cnf : Number 26
unfolding choices word_at firsts starts letters nexts rest rests in_cnf
point_cnf s = numbers 26 (end_tag "ConditionTypeCNF") after_cnf s

pub point_negated : Number 27
unfolding choices word_at firsts starts letters nexts rest rests in_negated
point_negated s = numbers 27 (end_tag "ConditionNegated") after_negated s

pub point_group : Number 28
unfolding choices word_at firsts starts letters nexts rest rests in_group
point_group s = numbers 28 (end_tag "Group") after_group s

pub point_case : Number 29
unfolding choices word_at firsts starts letters nexts rest rests in_case
point_case s = numbers 29 (end_tag "SessionCase") after_test s

pub point_type : Number 30
unfolding choices word_at firsts starts letters nexts rest rests in_type
point_type s = numbers 30 (end_tag "RegistrationType") after_type s

pub point_type_2 : Number 31
unfolding choices word_at firsts starts letters nexts rest rests in_type_2
point_type_2 s = numbers 31 (end_tag "RegistrationType") after_types s

pub point_handling : Number 32
unfolding choices word_at firsts starts letters nexts rest rests in_handling
point_handling s = numbers 32 (end_tag "DefaultHandling") after_handling s

pub point_part : Number 33
unfolding choices word_at firsts starts letters nexts rest rests in_part
point_part s = numbers 33 (end_tag "ProfilePartIndicator") after_part s

-- ---- strings

-- a point in a string
abbrev pub Text : ℕ → Type 0
Text q = (s : List ℕ) → plainly q s ≡ pass (many (one plain)) (choices plainly (first_word q) (word_count q)) s

-- the five entities
abbrev entities : Grammar ℕ
entities = entity "&lt;" 60 or entity "&gt;" 62 or entity "&amp;" 38 or entity "&quot;" 34 or entity "&apos;" 39

six : (a b c d e k : Only) → better (better a (better b (better c (better d e)))) k ≡ better a (better b (better c (better d (better e (better k (wrong 0))))))
six a b c d e k =
    better_assoc a (better b (better c (better d e))) k
    ∙ ap (better a) (better_assoc b (better c (better d e)) k
    ∙ ap (better b) (better_assoc c (better d e) k
    ∙ ap (better c) (better_assoc d e k ∙ ap (λ (x : Only). better d (better e x)) (sym (better_none k)))))

-- behind the plain bytes of a string: an entity, and then r again, or k
abbrev on_from : (List ℕ → Only) → (List ℕ → Only) → List ℕ → Only
on_from r k u =
    better (expect (text "&lt;") r u)
    (better (expect (text "&gt;") r u)
    (better (expect (text "&amp;") r u)
    (better (expect (text "&quot;") r u)
    (better (expect (text "&apos;") r u)
    (better (k u) (wrong 0))))))

entity_ways : (r k : List ℕ → Only) (u : List ℕ) → better (pass entities r u) (k u) ≡ on_from r k u
unfolding pass read
entity_ways r k u = six (expect (text "&lt;") r u) (expect (text "&gt;") r u) (expect (text "&amp;") r u) (expect (text "&quot;") r u) (expect (text "&apos;") r u) (k u)

characters : (k : List ℕ → Only) (s : List ℕ) → pass (many character) k s ≡ pass (many (one plain)) (on_from (pass (many character) k) k) s
unfolding solid sound
characters k s =
    skipping (one plain) entities plain tt tt tt (λ l u. plainly l u) k s
    ∙ ap (λ (f : List ℕ → Only). pass (many (one plain)) f s) (fun_ext (λ u. entity_ways (pass (many character) k) k u))
  where
    plainly : (l : List ℕ → Only) (u : List ℕ) → pass (one plain) l u ≡ expect_one plain (λ b. l) u
    plainly l u = unfold pass read in refl

-- an entity leads back into the string
texts : (q : ℕ) (c : List ℕ) (k : List ℕ → Ahead) (s : List ℕ)
    → forget (in_string q c k s) ≡ pass (many (one plain)) (on_from (λ u. forget (in_string q c k u)) (expect c (λ v. forget (k v)))) s
texts q c k s =
    forget_string q c k s
    ∙ characters (expect c (λ v. forget (k v))) s
    ∙ ap (λ (r : List ℕ → Only). pass (many (one plain)) (on_from r (expect c (λ v. forget (k v)))) s) (sym (fun_ext (λ u. forget_string q c k u)))

pub point_uri_text : Text 34
unfolding choices word_at firsts starts letters nexts rest rests in_uri_text
point_uri_text s = texts 34 (end_tag "RequestURI") after_test s

pub point_method_text : Text 35
unfolding choices word_at firsts starts letters nexts rest rests in_method_text
point_method_text s = texts 35 (end_tag "Method") after_test s

pub point_header_text : Text 36
unfolding choices word_at firsts starts letters nexts rest rests in_header_text
point_header_text s = texts 36 (end_tag "Header") after_header s

pub point_content_text : Text 37
unfolding choices word_at firsts starts letters nexts rest rests in_content_text
point_content_text s = texts 37 (end_tag "Content") after_content s

pub point_line_text : Text 38
unfolding choices word_at firsts starts letters nexts rest rests in_line_text
point_line_text s = texts 38 (end_tag "Line") after_line s

pub point_line_content_text : Text 39
unfolding choices word_at firsts starts letters nexts rest rests in_line_content_text
point_line_content_text s = texts 39 (end_tag "Content") after_line_content s

pub point_server_text : Text 40
unfolding choices word_at firsts starts letters nexts rest rests in_server_text
point_server_text s = texts 40 (end_tag "ServerName") after_name s

pub point_info_text : Text 41
unfolding choices word_at firsts starts letters nexts rest rests in_info_text
point_info_text s = texts 41 (end_tag "ServiceInfo") after_info s

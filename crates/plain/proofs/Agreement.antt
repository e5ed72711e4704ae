-- The plain matcher agrees with the main one: on a pattern and a text of at most 256 bytes it answers the main one's place.
use mathlib.Core.Path.{◌≡◌, refl, sym, ap, ◌∙◌}
use mathlib.Core.Bool.{Bool, false}
use mathlib.Core.Option.{Option, some}
use mathlib.Core.List.{List}
use Prim.Native.Nat.{ℕ, ◌≤◌}
use lib.ListN.{length}
use borrow.Author.Tests.{le-ltb}
use Rattle.octets.specs.Lists.{pick}
use Rattle.basic.specs.Pattern.{Pattern, meets}
use Rattle.basic.specs.Reading.{read_pattern}
use Rattle.pattern.specs.Matching.{written_matches}
use Rattle.pattern.specs.Inner.Answers.{read_matches, meets_text}
use Rattle.place.specs.Place.{place_of}
use Rattle.place.specs.Inner.Texts.{place_read, place_text}
use Rattle.place.specs.declared.Place.{Place}
use Rattle.place.proofs.Meeting.{place_meets}
use Rattle.plain.specs.Plain.{refused, answered, by_pattern, plain_answer, Plains}
use Rattle.plain.specs.declared.Answer.{Answer}

module _ (s t : List ℕ) (p : Pattern) (e : read_pattern s ≡ some p) (l : length t ≤ 256) (own : Answer) (o : Plains s t own) where
  pub matchers_agree : (main : Place) → main ≡ place_of meets p t → own ≡ answered main
  unfolding plain_answer
  matchers_agree main m =
      o.answer ∙ ap (λ (x : Option Pattern). by_pattern x t) e
      ∙ ap (λ (b : Bool). pick b (refused 17) (answered (place_of meets p t))) (le-ltb 256 (length t) l)
      ∙ ap answered (sym m)

  -- and it finds a part exactly where the pattern matches
  pub plain_finds_matches : own.found ≡ written_matches p t
  unfolding place_text meets_text
  plain_finds_matches =
      ap (λ (a : Answer). a.found) (matchers_agree (place_of meets p t) refl)
      ∙ sym (ap (λ (x : Option Pattern). (place_read false x t).found) e)
      ∙ place_meets false s t
      ∙ ap (λ (x : Option Pattern). read_matches false x t) e

-- Lookups over worked images. One list, one claim.
use Rattle.std.specs.Prelude.{Bool, true, false, ◌&&◌, ℕ, List, [], ◌∷◌, T, eqb}
use Rattle.octets.specs.Lists.{every, agree}
use Rattle.profile.specs.Examples.{with_criteria, one_criterion}
use Rattle.profile.specs.Written.{criterion}
use Rattle.entries.specs.declared.Criterion.{Criterion}
use Rattle.lookups.specs.Lookups.{server, information}
use Rattle.lookups.specs.declared.Lookup.{Lookup}

-- a server's start and length; information's presence, start and length; no such criterion
pub data Example : Type 0 where
  serves : List ℕ → ℕ → ℕ → ℕ → Example
  informs : List ℕ → ℕ → Bool → ℕ → ℕ → Example
  no_such : List ℕ → ℕ → Example

abbrev stands : Lookup → Bool → ℕ → ℕ → Bool
stands l present start len = eqb l.refusal 0 && agree present l.present && eqb l.start start && eqb l.size len

unfoldable pub right : Example → Bool
unfolding server information
right (serves s i start len) = stands (server s i) true start len
right (informs s i present start len) = stands (information s i) present start len
right (no_such s i) = eqb (server s i).refusal 13 && eqb (information s i).refusal 13

-- no trigger, information string 2, the empty one
abbrev with_empty : Criterion
with_empty = record { priority = 5; part = 2; trigger = record { form = 2; first = 0; count = 0 }; server = 0; handling = 0; info = 2 }

unfoldable pub examples : List Example
examples =
    -- the part of the image; information that is absent, and present but empty
    serves one_criterion 0 5 5
    ∷ no_such one_criterion 1
    ∷ informs one_criterion 0 false 0 0
    ∷ informs (with_criteria 1 (criterion with_empty)) 0 true 11 0
    ∷ []

-- every example is right
pub all_right : T (every right examples)
unfolding right examples
all_right = tt

-- There is a place exactly if the pattern matches.
use mathlib.Core.Path.{◌≡◌, refl, ap, ap₂, ◌∙◌}
use mathlib.Core.Bool.{Bool, true, false, ◌&&◌, ◌||◌, or-false}
use mathlib.Core.Option.{Option, none, some}
use mathlib.Core.List.{List, [], ◌∷◌}
use Prim.Native.Nat.{ℕ, ◌+◌, ◌≤◌}
use native.Mathlib.Omega.{arith}
use lib.ListN.{length}
use Rattle.octets.specs.Lists.{pick}
use Rattle.pattern.specs.Inner.Answers.{meet_as, matches_as, read_matches, meets_text}
use Rattle.pattern.specs.Matching.{repeated, single_then, front, somewhere, matches, written_matches, name_matches}
use Rattle.basic.specs.Pattern.{Atom, Elem, once, star, Pattern}
use Rattle.basic.specs.Reading.{read_pattern}
use Rattle.place.specs.Place.{longer, one_more, single_far, repeated_far, furthest, nowhere, here_or, first_place, place_of}
use Rattle.place.specs.Inner.Texts.{place_read, place_text}
use Rattle.place.specs.declared.Place.{Place}
use Rattle.place.proofs.Placing.{place_is_best, place_sound}

-- whether there is a length
abbrev given : Option ℕ → Bool
given none = false
given (some n) = true

given_longer : (o u : Option ℕ) → given (longer o u) ≡ (given o || given u)
given_longer none u = refl
given_longer (some m) none = refl
given_longer (some m) (some n) = refl

given_step : (b : Bool) (o : Option ℕ) → given (pick b (one_more o) none) ≡ (b && given o)
given_step true none = refl
given_step true (some n) = refl
given_step false o = refl

module _ (m : ℕ → Bool) (far : List ℕ → Option ℕ) (k : List ℕ → Bool) (same : (s : List ℕ) → given (far s) ≡ k s) where
  single_given : (s : List ℕ) → given (single_far m far s) ≡ single_then m k s
  single_given [] = refl
  single_given (b ∷ s) = given_step (m b) (far s) ∙ ap (λ (x : Bool). m b && x) (same s)

  repeated_given : (s : List ℕ) → given (repeated_far m far s) ≡ repeated m k s
  repeated_given [] = same []
  repeated_given (b ∷ s) =
      given_longer (far (b ∷ s)) (pick (m b) (one_more (repeated_far m far s)) none)
      ∙ ap₂ (λ (x y : Bool). x || y) (same (b ∷ s)) (given_step (m b) (repeated_far m far s) ∙ ap (λ (x : Bool). m b && x) (repeated_given s))

front_given : (meet : Atom → ℕ → Bool) (end : Bool) (es : List Elem) (s : List ℕ) → given (furthest meet end es s) ≡ front meet end es s
unfolding furthest front
front_given meet true [] [] = refl
front_given meet true [] (b ∷ s) = refl
front_given meet false [] s = refl
front_given meet end (once a ∷ es) s = single_given (meet a) (furthest meet end es) (front meet end es) (front_given meet end es) s
front_given meet end (star a ∷ es) s = repeated_given (meet a) (furthest meet end es) (front meet end es) (front_given meet end es) s

-- ---- some place

found_or : (o : Option ℕ) (later : Place) → (here_or o later).found ≡ (given o || later.found)
found_or (some n) later = refl
found_or none later = go later.found later.start later.size
  where
    go : (t : Bool) (j n : ℕ) → (here_or none (record { found = t; start = j; size = n })).found ≡ t
    go true j n = refl
    go false j n = refl

module _ (far : List ℕ → Option ℕ) (k : List ℕ → Bool) (same : (s : List ℕ) → given (far s) ≡ k s) where
  found_alone : (s : List ℕ) → (here_or (far s) nowhere).found ≡ k s
  found_alone s = found_or (far s) nowhere ∙ or-false (given (far s)) ∙ same s

  found_somewhere : (s : List ℕ) → (first_place far s).found ≡ somewhere k s
  found_somewhere [] = found_alone []
  found_somewhere (b ∷ s) = found_or (far (b ∷ s)) (first_place far s) ∙ ap₂ (λ (x y : Bool). x || y) (same (b ∷ s)) (found_somewhere s)

place_matches : (meet : Atom → ℕ → Bool) (start : Bool) (es : List Elem) (end : Bool) (s : List ℕ)
    → (place_of meet (record { at_start = start; elems = es; at_end = end }) s).found ≡ matches meet (record { at_start = start; elems = es; at_end = end }) s
unfolding place_of matches
place_matches meet true es end s = found_alone (furthest meet end es) (front meet end es) (front_given meet end es) s
place_matches meet false es end s = found_somewhere (furthest meet end es) (front meet end es) (front_given meet end es) s

pub place_matches_as : (fold : Bool) (p : Pattern) (t : List ℕ) → (place_of (meet_as fold) p t).found ≡ matches_as fold p t
unfolding written_matches name_matches
place_matches_as true p t = place_matches (meet_as true) p.at_start p.elems p.at_end t
place_matches_as false p t = place_matches (meet_as false) p.at_start p.elems p.at_end t

pub place_meets : (fold : Bool) (s t : List ℕ) → (place_text fold s t).found ≡ meets_text fold s t
unfolding place_text meets_text
place_meets fold s t = go (read_pattern s)
  where
    go : (o : Option Pattern) → (place_read fold o t).found ≡ read_matches fold o t
    go none = refl
    go (some p) = place_matches_as fold p t

-- it lies in the text
pub place_within : (fold : Bool) (s t : List ℕ) → (place_text fold s t).start + (place_text fold s t).size ≤ length t
unfolding place_text
place_within fold s t = go (read_pattern s)
  where
    by : (x : Pattern) (b : Bool) → (place_of (meet_as fold) x t).found ≡ b → (place_of (meet_as fold) x t).start + (place_of (meet_as fold) x t).size ≤ length t
    by x true e = (place_sound (meet_as fold) x t e).fits.within
    by x false e =
        let z = (place_is_best (meet_as fold) x t).quiet e in
        omega (arith, ap (λ (r : Place). r.start) z, ap (λ (r : Place). r.size) z)

    go : (o : Option Pattern) → (place_read fold o t).start + (place_read fold o t).size ≤ length t
    go none = omega arith
    go (some x) = by x (place_of (meet_as fold) x t).found refl

-- The start and the length that the scans find are those that the definition names.
use mathlib.Core.Path.{◌≡◌, refl, sym, ap, ◌∙◌}
use mathlib.Core.Bool.{Bool, true, false}
use mathlib.Core.Option.{Option, none, some}
use mathlib.Core.List.{List}
use Prim.Native.Nat.{ℕ, ◌≤◌, ◌<◌}
use native.Mathlib.Omega.{arith}
use lib.Dec.{eqb, ltb}
use lib.ListN.{length, drop}
use borrow.Author.Tests.{ltb-true, ltb-false}
use Rattle.machine.specs.Inner.Machine.{Leftmost, Bytes, machine_of}
use Rattle.machine.specs.declared.Shape.{Shape}
use Rattle.part.specs.Inner.Part.{PartAt, Longest}
use Rattle.part.proofs.Lengths.{part_starts}
use Rattle.basic.specs.Pattern.{Pattern}
use Rattle.basic.specs.Reading.{read_pattern}
use Rattle.pattern.specs.Inner.Answers.{meet_as}
use Rattle.pattern.specs.Parts.{FitsAt}
use Rattle.pattern.specs.Inner.Prepared.{Ready}
use Rattle.place.specs.Place.{nowhere}
use Rattle.place.specs.Inner.Texts.{place_read, place_text}
use Rattle.place.proofs.Placing.{place_complete, nowhere_complete}

module _ (fold : Bool) (p : List ℕ) (h : Shape) (sets : List (List ℕ)) (before : List ℕ) (ready : Ready fold p h sets before)
    (t : List ℕ) (bytes : Bytes t) (r : ℕ) (l : Leftmost (machine_of h sets before) t r) where
  -- a part that fits is one that the machine takes, and none begins before r
  module _ (x : Pattern) (reads : read_pattern p ≡ some x) (j n : ℕ) (f : FitsAt (meet_as fold) x t j n) where
    inside_by : j ≤ length t
    inside_by = omega (arith, f.within)

    part_of : PartAt (machine_of h sets before) t j n
    part_of = (ready.takes t bytes j n inside_by).1 (record { pattern = x; reads = reads; fits = f })

    not_before : r ≤ j
    not_before = go (ltb j r) refl
      where
        go : (u : Bool) → ltb j r ≡ u → r ≤ j
        go true e = absurd (l.before j (ltb-true j r e) inside_by (part_starts part_of))
        go false e = ltb-false j r e

  pub locate_nowhere : length t < r → nowhere ≡ place_text fold p t
  unfolding place_text
  locate_nowhere past = go (read_pattern p) refl
    where
      go : (o : Option Pattern) → read_pattern p ≡ o → nowhere ≡ place_read fold o t
      go none e = refl
      go (some x) e =
          nowhere_complete (meet_as fold) x t
          (λ j n f. absurd (omega (arith, not_before x e j n f, inside_by x e j n f)))

  pub locate_place : r ≤ length t → (n : ℕ) → Longest (machine_of h sets before) (eqb r 0) (drop r t) n
      → record { found = true; start = r; size = n } ≡ place_text fold p t
  unfolding place_text
  locate_place inside n longest =
      let k = (ready.takes t bytes r n inside).0 (longest.found (l.found inside)) in
      place_complete (meet_as fold) k.pattern t r n (record {
        fits = k.fits;
        smallest = λ i m f. not_before k.pattern k.reads i m f;
        longest = λ m f. longest.most m (part_of k.pattern k.reads r m f);
      })
      ∙ sym (ap (λ (o : Option Pattern). place_read fold o t) k.reads)

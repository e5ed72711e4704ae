use mathlib.Core.Bool.{Bool}
use mathlib.Core.List.{List}
use mathlib.Core.Path.{ap₂, ◌∙◌}
use Prim.Native.Nat.{ℕ}
use Rattle.pattern.specs.Inner.Answers.{first_fit}
use Rattle.pattern.proofs.Finding.{place_meets}
use Rattle.probes.proofs.blocks.read_and_test.Goals as goal

pub returns : goal.returns
returns c =
    let read = c.prepare.ensures in
    place_meets _ _ _ _ (c.first_match.ensures ∙ ap₂ (λ (f : Bool) (p : List ℕ). first_fit f p c.args.text.now) read.1 read.0)

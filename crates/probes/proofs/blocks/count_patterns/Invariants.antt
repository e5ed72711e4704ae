use Prim.Native.Nat.{◌+◌, ◌-◌}
use lib.ListN.{length}
use Rattle.pattern.specs.Inner.Answers.{meets_text}
use Rattle.probes.proofs.Counting.{Counting}
use Rattle.probes.proofs.blocks.count_patterns.Given as goal

abbrev pub invariant-loop-at : goal.invariant-loop-at
invariant-loop-at l = Counting (λ p. meets_text l.fold p l.text) l.block l.at l.n

abbrev pub decreases-loop-at : goal.decreases-loop-at
decreases-loop-at l = length l.block + 1 - l.at

use mathlib.Core.Path.{◌≡◌}
use Prim.Native.Nat.{◌+◌}
use native.Mathlib.Omega.{arith}
use borrow.Author.Rules.{rules}
use Rattle.contents.proofs.Norm.{reducing_first, reducing_space, reducing_gap, reducing_text, reducing_length, reducing_count, reducing_end}
use Rattle.contents.proofs.pieces.normalise.Goals as goal
use Rattle.contents.proofs.pieces.normalise.Goals.{then-gap, else-gap}

pub loop-b-init : goal.loop-b-init
loop-b-init c = search reducing_first

pub loop-b-preserved : goal.loop-b-preserved
loop-b-preserved c =
    let k = c.loop-b.invariant in
    let two : c.loop-b.n + 2 ≡ c.loop-b.n + 1 + 1 = omega arith in
    elim c.if-gap.branch [
      | then-gap w ↦ rw (w.dst-is, w.gap-is, w.n-is) (rw two at (reducing_gap _ _ _ _ _ _ k (search rules) _ c.is_space.ensures c.requires c.if-is_space.false w.if-gap.true))
      | else-gap w ↦ rw (w.dst-is, w.gap-is, w.n-is) (reducing_text _ _ _ _ _ _ k (search rules) _ c.is_space.ensures c.requires c.if-is_space.false w.if-gap.false)
    ]

pub loop-b-preserved-then-is_space : goal.loop-b-preserved-then-is_space
loop-b-preserved-then-is_space c = search reducing_space

pub shape_of-dst : goal.shape_of-dst
shape_of-dst c = search reducing_length

pub returns : goal.returns
returns c = (search reducing_count, search reducing_end)

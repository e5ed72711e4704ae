use Rattle.octets.proofs.Bits.{shl_one}
use lib.Bits.{bit_or}
use Prim.Native.Nat.{ℕ}
use mathlib.Core.Path.{ap}
use Rattle.pattern.proofs.edition1.with_position.Goals as goal

pub returns : goal.returns
returns c = ap (λ (n : ℕ). bit_or c.args.m n) (shl_one 64 c.args.at c.requires)

use native.Mathlib.Omega.{arith}
use mathlib.Core.Path.{refl}
use Rattle.show.proofs.Calling.{show_fault, show_over}
use Rattle.show.proofs.show.Goals as goal

pub returns-in-Err : goal.returns-in-Err
returns-in-Err c = show_fault _ _ _ _ c.in-Err.ensures _ c.from.ensures _ c.refuse.ensures

pub show_in-requires : goal.show_in-requires
show_in-requires c = record { room = λ h. (omega (arith, c.if-request-le4096.true), c.if-request-le4096.true); small = (omega arith, omega arith) }

pub returns-then-request-le4096 : goal.returns-then-request-le4096
returns-then-request-le4096 c = show_over _ _ _ c.in-Ok.accepted c.in-Ok.ensures _ refl _ c.show_in.ensures

pub returns : goal.returns
returns c = show_over _ _ _ c.in-Ok.accepted c.in-Ok.ensures _ refl _ c.show_in-2.ensures

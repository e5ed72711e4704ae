-- Two machines that agree on bytes take parts of the same lengths, and `Longest` leaves one answer.
use mathlib.Core.Path.{◌≡◌, refl, sym, ◌∙◌, subst}
use mathlib.Core.Bool.{Bool, true, false}
use mathlib.Core.List.{List}
use Prim.Native.Nat.{ℕ, suc}
use native.Mathlib.Omega.{arith}
use lib.Dec.{T, eqb}
use borrow.Author.Tests.{eqb-true, eqb-false}
use Rattle.machine.specs.Inner.Machine.{Machine, Starts, Bytes}
use Rattle.machine.proofs.Agreeing.{Agree}
use Rattle.part.specs.Inner.Part.{Runs, runs_end, runs_on, Part, part_none, part_some, Longest}
use Rattle.part.proofs.Lengths.{part_starts}

module _ {M N : Machine} (g : Agree M N) where
  runs_agree : {p n : ℕ} {l : List ℕ} → Runs M p n l → Bytes l → Runs N p n l
  runs_agree (runs_end {p = p} {b = b} m z) h = runs_end (subst T (g.meets p b (h 0)) m) (subst T (g.last _ p) z)
  runs_agree (runs_on {p = p} {q = q} {b = b} m f v) h =
      runs_on (subst T (g.meets p b (h 0)) m) (subst T (g.follow p q) f) (runs_agree v (λ i. h (suc i)))

  pub part_agree : {a : Bool} {n : ℕ} {l : List ℕ} → Part M a n l → Bytes l → Part N a n l
  part_agree {a} (part_none z) h = part_none (subst T (g.null a _) z)
  part_agree {a} (part_some {p = p} f v) h = part_some (subst T (g.first a p) f) (runs_agree v h)

pub longest_one : (M : Machine) (a : Bool) (s : List ℕ) (r t : ℕ) → Longest M a s r → Longest M a s t → r ≡ t
longest_one M a s r t x y = go (eqb r 0) refl (eqb t 0) refl
  where
    same : Starts M a s → r ≡ t
    same v = omega (arith, y.most r (x.found v), x.most t (y.found v))

    go : (u : Bool) → eqb r 0 ≡ u → (v : Bool) → eqb t 0 ≡ v → r ≡ t
    go true e true f = eqb-true r 0 e ∙ sym (eqb-true t 0 f)
    go false e v f = same (part_starts (x.nonzero (eqb-false r 0 e)))
    go true e false f = same (part_starts (y.nonzero (eqb-false t 0 f)))

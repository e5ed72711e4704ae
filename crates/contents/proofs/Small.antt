-- A value has no more pieces, and a body no more session lines, than its bytes allow.
use mathlib.Core.Path.{◌≡◌, refl, ap}
use Prim.Native.Nat.{ℕ, suc, ◌+◌, ◌≤◌, zero-le}
use native.Mathlib.Omega.{arith}
use mathlib.Core.List.{List, [], ◌∷◌, map}
use lib.ListN.{length, length-append, length-map}
use lib.Dec.{eqb}
use Rattle.octets.proofs.Tests.{either}
use Rattle.cuts.specs.Cutting.{cut_at}
use Rattle.cuts.specs.Trimming.{trim}
use Rattle.cuts.proofs.Cuts.{cut_length}
use Rattle.contents.specs.Values.{plain, step, cuts, pieces, never_cut, values_of}
use Rattle.contents.specs.Body.{Line, ended, line, lines, session_lines}

-- ---- values

pub values_length : (name v : List ℕ) → length (values_of name v) ≤ 1 + length v
unfolding values_of
values_length name v =
    either (λ (k : List (List ℕ)). length k ≤ 1 + length v) (never_cut name) (v ∷ []) (map trim (pieces v))
    (omega arith) (omega (arith, length-map (pieces v) trim, cut_length cuts step plain v))

-- ---- session lines

ended_length : (ls : List (List ℕ)) → length (ended ls) ≡ length ls
unfolding ended
ended_length [] = refl
ended_length (l ∷ []) = refl
ended_length (l ∷ m ∷ ls) = ap suc (ended_length (m ∷ ls))

line_length : (l : List ℕ) → length (line l) ≤ 1
line_length [] = omega arith
line_length (t ∷ []) = omega arith
line_length (t ∷ e ∷ v) = either (λ (k : List Line). length k ≤ 1) (eqb e 61) (record { type = t ∷ []; value = v } ∷ []) [] (omega arith) (omega arith)

lines_length : (ls : List (List ℕ)) → length (lines ls) ≤ length ls
lines_length [] = zero-le
lines_length (l ∷ ls) = omega (arith, length-append (line l) (lines ls), line_length l, lines_length ls)

pub session_lines_length : (body : List ℕ) → length (session_lines body) ≤ 1 + length body
unfolding session_lines
session_lines_length body = omega (arith, lines_length (ended (cut_at 10 body)), ended_length (cut_at 10 body), cut_length (λ (u : Unit {0}) b. eqb b 10) (λ u b. u) tt body)

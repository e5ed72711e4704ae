-- The ways of one turn, as lengths.
use mathlib.Core.Path.{◌≡◌}
use mathlib.Core.Bool.{Bool, true, false}
use lib.Dec.{leb}
use Rattle.octets.specs.Lists.{pick}
use mathlib.Core.Option.{some-injective}
use Prim.Native.Nat.{ℕ, suc, ◌+◌, ◌≤◌}
use native.Mathlib.Omega.{arith}
use Rattle.std.specs.Prelude.{Option as Optional, Some, None}
use Rattle.place.specs.Place.{one_more, longer}
use Rattle.plain.specs.Inner.Turns.{told, taken}

-- one byte more
pub stretched_le : (a r : Optional ℕ) → told a ≡ one_more (told r) → taken a ≤ taken r + 1
stretched_le None r e = omega arith
stretched_le (Some m) None e = absurd cc
stretched_le (Some m) (Some n) e = let same : m ≡ suc n = some-injective _ _ e in omega arith

-- the longer of two
pub chosen_le : (r a b : Optional ℕ) (n : ℕ) → told r ≡ longer (told a) (told b) → taken a ≤ n → taken b ≤ n → taken r ≤ n
chosen_le None a b n e x y = omega arith
chosen_le (Some m) None None n e x y = absurd cc
chosen_le (Some m) None (Some k) n e x y = let same : m ≡ k = some-injective _ _ e in omega arith
chosen_le (Some m) (Some k) None n e x y = let same : m ≡ k = some-injective _ _ e in omega arith
chosen_le (Some m) (Some k) (Some l) n e x y = go (leb k l) (some-injective _ _ e)
  where
    go : (c : Bool) → m ≡ pick c l k → m ≤ n
    go true s = let same : m ≡ l = s in omega arith
    go false s = let same : m ≡ k = s in omega arith

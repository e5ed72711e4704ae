-- Masks: numbers of which only the lowest bits may be set, and those that a test gives.
use Rattle.std.specs.Prelude.{◌≡◌, Bool, false, ℕ, zero, suc, ◌+◌, ◌^◌, ◌≤◌}
use Rattle.octets.specs.Lists.{pick}
use Rattle.octets.specs.Bits.{bit}

-- no bit of n from w on is set
abbrev pub Below : ℕ → ℕ → Type 0
Below w n = (k : ℕ) → w ≤ k → bit n k ≡ false

-- the number whose bit k, below w, is set where the test holds of k, and which has no other
unfoldable pub mask : ℕ → (ℕ → Bool) → ℕ
mask zero f = 0
mask (suc w) f = pick (f w) (2 ^ w) 0 + mask w f

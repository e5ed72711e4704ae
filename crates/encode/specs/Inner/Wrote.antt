-- Bytes written at a place.
use Rattle.std.specs.Prelude.{◌≡◌, ℕ, ◌+◌, List, ◌++◌, length, take, drop}

-- these bytes stand at `to`; nothing else has changed
pub record Wrote (bytes : List ℕ) (to : ℕ) (before after : List ℕ) : Type 0 where
  pub long : length after ≡ length before
  pub here : take (to + length bytes) after ≡ take to before ++ bytes
  pub beyond : drop (to + length bytes) after ≡ drop (to + length bytes) before

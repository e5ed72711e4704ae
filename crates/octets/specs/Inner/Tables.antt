-- The table of byte classes that the code holds.
use Rattle.std.specs.Prelude.{◌≡◌, ℕ, ◌<◌, List, leb, get_or}
use Rattle.octets.specs.Lists.{pick}
use Rattle.octets.specs.Bytes.{token_byte, white, uri_byte}

-- "a table of 256 byte classes, one for each byte": 1 token, 2 SP or HTAB, 3 any other of 33..126, 4 128 and up, 0 the rest
abbrev pub class_of : ℕ → ℕ
class_of b = pick (token_byte b) 1 (pick (white b) 2 (pick (uri_byte b) 3 (pick (leb 128 b) 4 0)))

-- a table that says the class of every byte
pub record Classes (t : List ℕ) : Type 0 where
  pub each : (b : ℕ) → b < 256 → get_or t b 0 ≡ class_of b

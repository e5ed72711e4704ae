-- "Each list element is a set of 256 bytes": four words of 64 bits.
use Rattle.std.specs.Prelude.{Bool, List, [], ◌∷◌, ℕ, ◌+◌, ◌*◌}
use Rattle.octets.specs.Inner.Masks.{mask}

-- the word i of the set of the bytes that pass the test
abbrev pub word : (ℕ → Bool) → ℕ → ℕ
word f i = mask 64 (λ k. f (64 * i + k))

-- the set of the bytes that pass the test
unfoldable pub words : (ℕ → Bool) → List ℕ
words f = word f 0 ∷ word f 1 ∷ word f 2 ∷ word f 3 ∷ []

-- The searches that the loops over bytes are: how far it is to the first place where a test holds.
use Rattle.std.specs.Prelude.{Bool, not, List, [], ◌∷◌, ℕ, suc, get_or}
use Rattle.octets.specs.Bytes.{white}
use Rattle.octets.specs.Lists.{pick}

-- how many bytes stand before the first place where the test holds of the rest; all of them where there is none
unfoldable pub first : (List ℕ → Bool) → List ℕ → ℕ
first p [] = 0
first p (b ∷ s) = pick (p (b ∷ s)) 0 (suc (first p s))

-- how many stand before the first byte that stops in the mode it is met in, as `cut_by` has it
unfoldable pub span : {M : Type 0} → (M → ℕ → Bool) → (M → ℕ → M) → M → List ℕ → ℕ
span stops next m [] = 0
span stops next m (b ∷ s) = pick (stops m b) 0 (suc (span stops next (next m b) s))

-- something other than SP and HTAB stands here
abbrev pub text_here : List ℕ → Bool
text_here s = not (white (get_or s 0 0))

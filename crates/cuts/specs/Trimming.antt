-- White space at the ends of bytes: SP and HTAB.
use Rattle.std.specs.Prelude.{◌&&◌, List, [], ◌∷◌, ℕ}
use Rattle.octets.specs.Bytes.{white}
use Rattle.octets.specs.Lists.{pick, empty}

-- without SP and HTAB at the left end
unfoldable pub trim_left : List ℕ → List ℕ
trim_left [] = []
trim_left (b ∷ s) = let later : List ℕ = trim_left s in pick (white b) later (b ∷ s)

-- at the right end
unfoldable pub trim_right : List ℕ → List ℕ
trim_right [] = []
trim_right (b ∷ s) = let later : List ℕ = trim_right s in pick (white b && empty later) [] (b ∷ later)

-- at both ends
abbrev pub trim : List ℕ → List ℕ
trim s = trim_left (trim_right s)

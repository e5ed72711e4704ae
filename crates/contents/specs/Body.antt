-- The lines of a body that are fields of a session description (document 01, "Body lines end at LF ..").
use Rattle.std.specs.Prelude.{◌&&◌, ℕ, List, [], ◌∷◌, ◌++◌, eqb}
use Rattle.octets.specs.Lists.{pick, empty}
use Rattle.cuts.specs.Cutting.{cut_by, cut_at}

-- a body line that is a field
pub record Line : Type 0 where
  pub type : List ℕ
  pub value : List ℕ

-- "one CR before it dropped"
unfoldable pub drop_cr : List ℕ → List ℕ
drop_cr [] = []
drop_cr (b ∷ s) = let later : List ℕ = drop_cr s in pick (eqb b 13 && empty s) [] (b ∷ later)

-- every line but the last ended at LF: "the last may lack its end", and then keeps its CR
unfoldable pub ended : List (List ℕ) → List (List ℕ)
unfolding drop_cr
ended [] = []
ended (l ∷ []) = l ∷ []
ended (l ∷ m ∷ ls) = drop_cr l ∷ ended (m ∷ ls)

-- "A line is a field if its second byte is `=`: the type is the first byte, the value all after `=`."
abbrev pub line : List ℕ → List Line
line [] = []
line (t ∷ []) = []
line (t ∷ e ∷ v) = pick (eqb e 61) (record { type = t ∷ []; value = v } ∷ []) []

-- the lines that are fields
abbrev pub lines : List (List ℕ) → List Line
lines [] = []
lines (l ∷ ls) = line l ++ lines ls

-- "Body lines end at LF"
unfoldable pub session_lines : List ℕ → List Line
unfolding cut_by ended
session_lines body = lines (ended (cut_at 10 body))

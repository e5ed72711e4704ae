-- The values of a text, read from the bytes between their tags.
use Rattle.std.specs.Prelude.{ℕ, zero, suc, List, [], ◌∷◌, leb, eqb, length, get_or, drop}
use Rattle.octets.specs.Lists.{pick}
use Rattle.scan.specs.Table.{decimal}
use Rattle.compose.specs.declared.values.Character.{Character}

-- ---- numbers

-- a number as far as it is told apart: no field holds one above 4,294,967,295
abbrev pub capped : ℕ → ℕ
capped n = pick (leb n 4294967296) n 4294967296

-- the number that digits say
abbrev pub value_of : List ℕ → ℕ
value_of ds = capped (decimal 0 ds)

-- ---- strings

abbrev pub as_character : ℕ → ℕ → Character
as_character b n = record { byte = b; width = n }

-- the byte that an entity stands for, by what stands behind its `&`, and its width
abbrev pub entity_of : List ℕ → Character
entity_of s =
    pick (eqb (get_or s 0 0) 108) (as_character 60 4)
    (pick (eqb (get_or s 0 0) 103) (as_character 62 4)
    (pick (eqb (get_or s 0 0) 113) (as_character 34 6)
    (pick (eqb (get_or s 1 0) 109) (as_character 38 5) (as_character 39 6))))

-- the first character of a string's bytes
abbrev pub character_of : List ℕ → Character
character_of [] = as_character 0 1
character_of (b ∷ s) = pick (eqb b 38) (entity_of s) (as_character b 1)

-- at most n of them
abbrev pub decoded_by : ℕ → List ℕ → List ℕ
decoded_by zero s = []
decoded_by (suc n) [] = []
decoded_by (suc n) (b ∷ s) = (character_of (b ∷ s)).byte ∷ decoded_by n (drop (character_of (b ∷ s)).width (b ∷ s))

-- the string that the bytes between its tags say: proofs/Decoding shows that it is the one that the grammar reads
unfoldable pub decoded : List ℕ → List ℕ
decoded s = decoded_by (length s) s

-- Parts of bytes by place, and lent places that are written to.
use Rattle.std.specs.Prelude.{List, ◌++◌, ℕ, ◌-◌, length, take, drop}

-- the bytes from a to e
abbrev pub part : List ℕ → ℕ → ℕ → List ℕ
part s a e = take (e - a) (drop a s)

-- what stands in lent places once w is written to their front
abbrev pub over : List ℕ → List ℕ → List ℕ
over w d = w ++ drop (length w) d

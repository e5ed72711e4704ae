-- What is read, made into something else, or forgotten: a text is read, or goes wrong at a place.
use Rattle.std.specs.Prelude.{ℕ, zero, suc}
use Rattle.grammar.specs.Reading.{Read, read_as, wrong, twice, later}

-- what is read is made into something else
abbrev pub made : {R Q : Type 0} → (R → Q) → Read R → Read Q
made f (read_as r) = read_as (f r)
made f (wrong n) = wrong n
made f twice = twice

-- nothing is kept of what is read
abbrev pub Only : Type 0
Only = Read (Unit {0})

abbrev pub forget : {R : Type 0} → Read R → Only
forget x = made (λ r. tt) x

-- behind so many bytes
abbrev pub shifted : {R : Type 0} → ℕ → Read R → Read R
shifted zero x = x
shifted (suc n) x = later (shifted n x)

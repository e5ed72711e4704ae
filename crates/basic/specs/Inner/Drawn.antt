-- The set of an atom.
use Rattle.std.specs.Prelude.{Bool, ◌&&◌, List, ℕ}
use Rattle.basic.specs.Pattern.{Atom, meets}
use Rattle.basic.specs.Inner.Sets.{words}

-- the set of the bytes that an atom meets; where no sets are asked for, the empty one
unfoldable pub drawn : Bool → Atom → List ℕ
unfolding words
drawn build a = words (λ b. build && meets a b)

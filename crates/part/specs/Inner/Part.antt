-- A part of a text that a machine takes, with its length. `Starts` of `machine` says that there is one; proofs/Lengths shows that it says
-- just this.
use Rattle.std.specs.Prelude.{◌≡◌, Bool, ◌&&◌, ◌||◌, List, ◌∷◌, ℕ, zero, suc, ◌≤◌, T, eqb, ltb, get_or, drop, length}
use Rattle.octets.specs.Bits.{bit}
use Rattle.octets.specs.Lists.{empty}
use Rattle.machine.specs.Inner.Machine.{Machine, Starts}

-- p meets the first byte of the text, and from there on a part of n bytes runs to its end
pub data Runs (M : Machine) : ℕ → ℕ → List ℕ → Type 0 where
  runs_end : {p b : ℕ} {s : List ℕ} → T (M.meets p b) → T (M.last (empty s) p) → Runs M p (suc zero) (b ∷ s)
  runs_on : {p q b n : ℕ} {s : List ℕ} → T (M.meets p b) → T (M.follow p q) → Runs M q n s → Runs M p (suc n) (b ∷ s)

-- a part of n bytes begins at the front of the text (true: at the text's start)
pub data Part (M : Machine) (a : Bool) : ℕ → List ℕ → Type 0 where
  part_none : {s : List ℕ} → T (M.null a (empty s)) → Part M a zero s
  part_some : {p n : ℕ} {s : List ℕ} → T (M.first a p) → Runs M p n s → Part M a n s

-- a part of n bytes begins at j
abbrev pub PartAt : Machine → List ℕ → ℕ → ℕ → Type 0
PartAt M s j n = Part M (eqb j 0) n (drop j s)

-- none that begins at the front is longer than r, and where one begins there, one has this length; 0 where none does
pub record Longest (M : Machine) (a : Bool) (s : List ℕ) (r : ℕ) : Type 0 where
  pub most : (n : ℕ) → Part M a n s → n ≤ r
  pub found : Starts M a s → Part M a r s
  pub nonzero : (r ≡ 0 → ⊥) → Part M a r s

-- the bit q is added to the masks of these positions
pub record Added (positions q : ℕ) (masks masks' : List ℕ) : Type 0 where
  pub is : (p k : ℕ) → bit (get_or masks' p 0) k ≡ (bit (get_or masks p 0) k || (bit positions p && eqb k q))
  pub long : length masks' ≡ length masks

-- `after` is `before` read the other way round: q is in the mask of p where p is in that of q, a position
pub record Turned (size : ℕ) (before after : List ℕ) : Type 0 where
  pub is : (p q : ℕ) → bit (get_or after p 0) q ≡ (ltb q size && bit (get_or before q 0) p)
